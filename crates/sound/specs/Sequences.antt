-- What calls do to a plain sequence: no word, block or handle is in sight. (To append is `◌++◌`, to keep the first n is `take n`, to set one is `set`.)
use Rattle.std.specs.Prelude.{List, ◌++◌, ℕ, ◌+◌, ◌-◌, length, get_or, set, take, drop}

-- xs stands from the position p on, and what stood there comes behind it
unfoldable pub insert_all : ℕ → List ℕ → List ℕ → List ℕ
insert_all p xs l = take p l ++ xs ++ drop p l

-- as many places as zs has are opened at the position p: they keep what stood there, of the list and, behind it, of zs
unfoldable pub open_at : ℕ → List ℕ → List ℕ → List ℕ
open_at p zs l = insert_all p (take (length zs) (drop p (l ++ zs))) l

-- the element at the position p is gone
unfoldable pub remove_at : ℕ → List ℕ → List ℕ
remove_at p l = take p l ++ drop (p + 1) l

-- the last element stands at the position p, and is gone from the end
unfoldable pub swap_remove_at : ℕ → List ℕ → List ℕ
swap_remove_at p l = take (length l - 1) (set l p (get_or l (length l - 1) 0))

-- the elements from `start` up to `end`
unfoldable pub range : ℕ → ℕ → List ℕ → List ℕ
range start end l = take (end - start) (drop start l)
