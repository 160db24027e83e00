-- The state, local soundness, and the numbers that come back: paper 01's table row by row, judged on the state at entry.
-- Throughout `ws` is the pool's words, `hs` the table's handles, `h` a handle or head, `c` a class.
use Rattle.std.specs.Prelude.{ℕ, ◌+◌, ◌-◌, ◌%◌, Bool, cond, not, ◌&&◌, ◌||◌, List, length, get_or, ltb, leb, eqb}
use Rattle.sizes.specs.Class.{longest, class_of, size_of}
use Rattle.pool.specs.declared.ListPool.{ListPool}

infixr 10 ◌or_else◌
-- "A lent pool of 0 to 65,536 words", "a lent table of 0 to 16,384 handles"
abbrev pub pool_limit : ℕ
pool_limit = 65536

abbrev pub table_limit : ℕ
table_limit = 16384

-- "The pool state is a value with used count and heads, and each call hands the new one back."
abbrev pub state_of : ℕ → List ℕ → ListPool
state_of used heads = record { used = used; heads = heads }

-- the head of a class's chain
abbrev pub head_of : ListPool → ℕ → ℕ
head_of st c = get_or st.heads c 0

-- the handle in a slot
abbrev pub handle_at : List ℕ → ℕ → ℕ
handle_at hs slot = get_or hs slot 0

-- "A live block holds its length, the elements .. The handle is block start + 1. Handle 0 is the empty list."
unfoldable pub length_at : List ℕ → ℕ → ℕ
length_at ws h = cond (eqb h 0) 0 (get_or ws (h - 1) 0)

-- "A handle is locally sound if it is 0, or if it leaves 1 on division by 4, is below used, the length before it is at least 1,
-- and its whole block lies below used."
unfoldable pub sound_handle : ℕ → List ℕ → ℕ → Bool
sound_handle used ws h =
    let n = get_or ws (h - 1) 0 in
    eqb h 0 || (eqb (h % 4) 1 && ltb h used && leb 1 n && leb (h - 1 + size_of (class_of n)) used)

-- "A head is locally sound if it is 0, or leaves 1 on division by 4, has 0 in the word before it, and its block of that class lies below used."
-- A word that is not there counts as 0. No call and no audit meets that: a head is judged after 1, so used is within the pool, and a block that lies
-- below used has all its words.
unfoldable pub sound_head : ℕ → List ℕ → ℕ → ℕ → Bool
sound_head used ws c h = eqb h 0 || (eqb (h % 4) 1 && leb (h - 1 + size_of c) used && eqb (get_or ws (h - 1) 0) 0)

-- "Given exactly when": the number n, where t holds, and else 0
unfoldable pub given : ℕ → Bool → ℕ
given n t = cond t n 0

-- "The lowest number that applies is given": a call's numbers are listed in their order, and the first that is not 0 is taken
unfoldable pub ◌or_else◌ : ℕ → ℕ → ℕ
a or_else b = cond (eqb a 0) b a

-- 1: "pool or table over its limit"
unfoldable pub too_long : ℕ → ℕ → Bool
too_long pool table = ltb pool_limit pool || ltb table_limit table

-- ", used above the pool's length, or used not a multiple of 4"
unfoldable pub over_limit : ℕ → ℕ → ℕ → Bool
over_limit used pool table = too_long pool table || ltb pool used || not (eqb (used % 4) 0)

-- 1, 2 "a slot not in the table", 3 "a named handle not locally sound": for a call that names one list
unfoldable pub entry_number : ℕ → List ℕ → List ℕ → ℕ → ℕ
entry_number used ws hs slot =
    given 1 (over_limit used (length ws) (length hs))
    or_else given 2 (leb (length hs) slot)
    or_else given 3 (not (sound_handle used ws (handle_at hs slot)))

-- and for one that names two
unfoldable pub entry_number₂ : ℕ → List ℕ → List ℕ → ℕ → ℕ → ℕ
entry_number₂ used ws hs slot other =
    given 1 (over_limit used (length ws) (length hs))
    or_else given 2 (leb (length hs) slot || leb (length hs) other)
    or_else given 3 (not (sound_handle used ws (handle_at hs slot)) || not (sound_handle used ws (handle_at hs other)))

-- 6: "a block is needed for a length up to 65,535 and its class's head is not locally sound"
unfoldable pub bad_head : ListPool → List ℕ → ℕ → Bool
bad_head st ws n = leb n longest && not (sound_head st.used ws (class_of n) (head_of st (class_of n)))

-- 7: "a block is needed, and its length is over 65,535, or its class's head is 0 and used + size exceeds the pool"
unfoldable pub no_room : ListPool → List ℕ → ℕ → Bool
no_room st ws n = ltb longest n || (eqb (head_of st (class_of n)) 0 && ltb (length ws) (st.used + size_of (class_of n)))

-- 6 or 7 where a block is needed for n elements
unfoldable pub room_number : ListPool → List ℕ → ℕ → ℕ
room_number st ws n = given 6 (bad_head st ws n) or_else given 7 (no_room st ws n)

-- Is a block needed where a list of the old length gets the new one? Not for none. For an empty list, and where the class changes;
-- "a list's new length over 65,535 has no class and always needs a block"
unfoldable pub needs_block : ℕ → ℕ → Bool
needs_block old new = not (eqb new 0) && (eqb old 0 || ltb longest new || not (eqb (class_of old) (class_of new)))

-- 6 or 7 for a list of the old length that gets the new one
unfoldable pub need_number : ListPool → List ℕ → ℕ → ℕ → ℕ
need_number st ws old new = cond (needs_block old new) (room_number st ws new) 0
