-- The numbers of a call on a sound pool, judged on the plain sequences: 2, 4 and 5, and what a call does to the length of a list.
use Rattle.std.specs.Prelude.{Bool, not, ◌&&◌, ◌||◌, List, ℕ, ◌+◌, ◌-◌, min, length, eqb, ltb}
use Rattle.std.proofs.Math.Dec.{leb}
use Rattle.pool.specs.Numbers.{◌or_else◌, given}
use Rattle.pool.specs.Rules.{Call, from_slice, is_empty, len, is_valid, get, first, set_at, deep_clone, clear, take, push}
use Rattle.pool.specs.Rules.{extend, copy_from, insert, remove, swap_remove, truncate, grow_at, clear_pool}
use Rattle.sound.specs.Sound.{list_at}

-- a slot that is not in the table
abbrev pub outside : List (List ℕ) → ℕ → Bool
outside ls slot = leb (length ls) slot

-- a list that has no elements
abbrev pub empty : List (List ℕ) → ℕ → Bool
empty ls slot = eqb (length (list_at ls slot)) 0

-- The number that refuses a call for its arguments, where the lists are ls:
-- 2 for a slot that is not in the table, 4 for a position or range outside the list, 5 where slots clash
unfoldable pub refusal : Call → List (List ℕ) → ℕ
refusal (from_slice slot xs) ls = given 2 (outside ls slot) or_else given 5 (not (empty ls slot))
refusal (is_empty slot) ls = given 2 (outside ls slot)
refusal (len slot) ls = given 2 (outside ls slot)
refusal (is_valid slot) ls = given 2 (outside ls slot)
refusal (get slot position) ls = given 2 (outside ls slot) or_else given 4 (leb (length (list_at ls slot)) position)
refusal (first slot) ls = given 2 (outside ls slot) or_else given 4 (leb (length (list_at ls slot)) 0)
refusal (set_at slot position x) ls = given 2 (outside ls slot) or_else given 4 (leb (length (list_at ls slot)) position)
refusal (deep_clone slot to) ls = given 2 (outside ls slot || outside ls to) or_else given 5 (not (empty ls to))
refusal (clear slot) ls = given 2 (outside ls slot)
refusal (take slot to) ls = given 2 (outside ls slot || outside ls to) or_else given 5 (eqb slot to || not (empty ls to))
refusal (push slot x) ls = given 2 (outside ls slot)
refusal (extend slot xs) ls = given 2 (outside ls slot)
refusal (copy_from slot source start end position) ls =
    given 2 (outside ls slot || outside ls source)
    or_else given 4 (ltb (length (list_at ls slot)) position || ltb end start || ltb (length (list_at ls source)) end)
    or_else given 5 (eqb slot source || (empty ls slot && empty ls source))
refusal (insert slot position x) ls = given 2 (outside ls slot) or_else given 4 (ltb (length (list_at ls slot)) position)
refusal (remove slot position) ls = given 2 (outside ls slot) or_else given 4 (leb (length (list_at ls slot)) position)
refusal (swap_remove slot position) ls = given 2 (outside ls slot) or_else given 4 (leb (length (list_at ls slot)) position)
refusal (truncate slot new) ls = given 2 (outside ls slot)
refusal (grow_at slot position count) ls = given 2 (outside ls slot) or_else given 4 (ltb (length (list_at ls slot)) position)
refusal clear_pool ls = 0

-- a list of `old` elements gets `new` elements
pub record Lengths : Type 0 where
  pub old : ℕ
  pub new : ℕ

infix 3 ◌becomes◌
abbrev pub ◌becomes◌ : ℕ → ℕ → Lengths
old becomes new = record { old = old; new = new }

-- What a call does to the length of a list, where the lists are ls. Of a call that makes no list longer or shorter 0 becomes 0, and of the pool's `clear`.
unfoldable pub lengths : Call → List (List ℕ) → Lengths
lengths (from_slice slot xs) ls = 0 becomes length xs
lengths (is_empty slot) ls = 0 becomes 0
lengths (len slot) ls = 0 becomes 0
lengths (is_valid slot) ls = 0 becomes 0
lengths (get slot position) ls = 0 becomes 0
lengths (first slot) ls = 0 becomes 0
lengths (set_at slot position x) ls = 0 becomes 0
lengths (deep_clone slot to) ls = 0 becomes length (list_at ls slot)
lengths (clear slot) ls = length (list_at ls slot) becomes 0
lengths (take slot to) ls = 0 becomes 0
lengths (push slot x) ls = length (list_at ls slot) becomes length (list_at ls slot) + 1
lengths (extend slot xs) ls = length (list_at ls slot) becomes length (list_at ls slot) + length xs
lengths (copy_from slot source start end position) ls = length (list_at ls slot) becomes length (list_at ls slot) + (end - start)
lengths (insert slot position x) ls = length (list_at ls slot) becomes length (list_at ls slot) + 1
lengths (remove slot position) ls = length (list_at ls slot) becomes length (list_at ls slot) - 1
lengths (swap_remove slot position) ls = length (list_at ls slot) becomes length (list_at ls slot) - 1
lengths (truncate slot new) ls = length (list_at ls slot) becomes min (length (list_at ls slot)) new
lengths (grow_at slot position count) ls = length (list_at ls slot) becomes length (list_at ls slot) + count
lengths clear_pool ls = 0 becomes 0
