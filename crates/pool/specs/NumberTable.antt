-- Paper 01's table of numbers, row by row, apart from the calls' own rules: when a number applies to a call, and in which order the numbers are
-- asked. And the theorem that the rules follow it: of every call, on every state, "The lowest number that applies is given".
-- The tests themselves of 1, 3, 6 and 7 (the limits, a sound handle, whether a block is needed, a bad head, no room) are those of Numbers.antt, by which the
-- rules judge too, so the theorem cannot find these wrong. What stands here apart is which of them a call is judged by, of which slots and lengths, its
-- positions and clashes, and the order.
-- Throughout `ws` is the pool's words and `hs` the table's handles.
use Rattle.std.specs.Prelude.{ℕ, ◌+◌, ◌-◌, min, Bool, false, cond, ◌&&◌, ◌||◌, List, [], ◌∷◌, length, eqb, leb, ltb}
use Rattle.std.proofs.Math.Bool.{not}
use Rattle.pool.specs.declared.ListPool.{ListPool}
use Rattle.pool.specs.Numbers.{handle_at, sound_handle, too_long, over_limit}
use Rattle.pool.specs.Numbers.{bad_head, no_room, needs_block}
use Rattle.pool.specs.Rules as rules
use Rattle.pool.specs.Rules.{len_of, Call, number_of, called}

-- What a call is judged by.
pub record Judged : Type 0 where
  -- a limit that it asks for is passed
  pub limit : Bool
  -- the lists that it names, by their slots
  pub slots : List ℕ
  -- "a position or range outside the list"
  pub outside : Bool
  -- "slots clash"
  pub clash : Bool
  -- it gives a list of `old` elements `new`; 0 and 0 for a call that never needs a block, `clear` and the pool's `clear` too
  pub old : ℕ
  pub new : ℕ

abbrev pub judge : Bool → List ℕ → Bool → Bool → ℕ → ℕ → Judged
judge limit slots outside clash old new = record { limit = limit; slots = slots; outside = outside; clash = clash; old = old; new = new }

module _ (st : ListPool) (ws hs : List ℕ) where
  abbrev pub len : ℕ → ℕ
  len slot = len_of ws hs slot

  -- "a slot not in the table"
  abbrev pub absent : ℕ → Bool
  absent slot = leb (length hs) slot

  -- "a named handle not locally sound"
  abbrev pub unsound : ℕ → Bool
  unsound slot = not (sound_handle st.used ws (handle_at hs slot))

  -- "a non-empty slot"
  abbrev pub some : ℕ → Bool
  some slot = not (eqb (handle_at hs slot) 0)

  abbrev pub limits : Bool
  limits = over_limit st.used (length ws) (length hs)

  -- Each call's limit, slots, outside, clash, old and new length.
  -- "Positions: `get`, set, `remove`, `swap_remove` need position < length; `insert`, `grow_at` and the target of `copy_from` need position ≤ length;
  -- `first` needs length ≥ 1; the source range needs start ≤ end ≤ source length."
  -- "Clash: `from_slice` and `deep_clone` into a non-empty slot; `take` into the same or a non-empty slot; `copy_from` between slots with equal
  -- handles, two empty lists included, as in the Rust."
  -- "Pool `clear` .. (used and heads within limits are not required for it, so it gives 1 only for a length over its limit)"
  unfoldable pub judged : Call → Judged
  judged (rules.from_slice slot xs) = judge limits (slot ∷ []) false (some slot) 0 (length xs)
  judged (rules.is_empty slot) = judge limits (slot ∷ []) false false 0 0
  judged (rules.len slot) = judge limits (slot ∷ []) false false 0 0
  judged (rules.is_valid slot) = judge limits (slot ∷ []) false false 0 0
  judged (rules.get slot position) = judge limits (slot ∷ []) (leb (len slot) position) false 0 0
  judged (rules.first slot) = judge limits (slot ∷ []) (ltb (len slot) 1) false 0 0
  judged (rules.set_at slot position x) = judge limits (slot ∷ []) (leb (len slot) position) false 0 0
  judged (rules.deep_clone slot to) = judge limits (slot ∷ to ∷ []) false (some to) 0 (len slot)
  judged (rules.clear slot) = judge limits (slot ∷ []) false false 0 0
  judged (rules.take slot to) = judge limits (slot ∷ to ∷ []) false (eqb slot to || some to) 0 0
  judged (rules.push slot x) = judge limits (slot ∷ []) false false (len slot) (len slot + 1)
  judged (rules.extend slot xs) = judge limits (slot ∷ []) false false (len slot) (len slot + length xs)
  judged (rules.copy_from slot source start end position) =
      judge limits (slot ∷ source ∷ []) (ltb (len slot) position || ltb end start || ltb (len source) end)
      (eqb (handle_at hs slot) (handle_at hs source)) (len slot) (len slot + (end - start))
  judged (rules.insert slot position x) = judge limits (slot ∷ []) (ltb (len slot) position) false (len slot) (len slot + 1)
  judged (rules.remove slot position) = judge limits (slot ∷ []) (leb (len slot) position) false (len slot) (len slot - 1)
  judged (rules.swap_remove slot position) = judge limits (slot ∷ []) (leb (len slot) position) false (len slot) (len slot - 1)
  judged (rules.truncate slot new) = judge limits (slot ∷ []) false false (len slot) (min (len slot) new)
  judged (rules.grow_at slot position count) = judge limits (slot ∷ []) (ltb (len slot) position) false (len slot) (len slot + count)
  judged rules.clear_pool = judge (too_long (length ws) (length hs)) [] false false 0 0

-- the test holds of one of these at least
unfoldable pub any_of : (ℕ → Bool) → List ℕ → Bool
any_of test [] = false
any_of test (x ∷ xs) = test x || any_of test xs

-- "Given exactly when": does the number n apply to a call?
unfoldable pub applies : Call → ListPool → List ℕ → List ℕ → ℕ → Bool
applies call st ws hs n =
    let j = judged st ws hs call in
    -- "pool or table over its limit, used above the pool's length, or used not a multiple of 4"
    cond (eqb n 1) j.limit
    -- "a slot not in the table"
    (cond (eqb n 2) (any_of (absent st ws hs) j.slots)
    -- "a named handle not locally sound"
    (cond (eqb n 3) (any_of (unsound st ws hs) j.slots)
    -- "a position or range outside the list"
    (cond (eqb n 4) j.outside
    -- "slots clash"
    (cond (eqb n 5) j.clash
    -- "a block is needed for a length up to 65,535 and its class's head is not locally sound"
    (cond (eqb n 6) (needs_block j.old j.new && bad_head st ws j.new)
    -- "a block is needed, and its length is over 65,535, or its class's head is 0 and used + size exceeds the pool"
    (cond (eqb n 7) (needs_block j.old j.new && no_room st ws j.new)
    false))))))

-- The order in which the numbers are asked.
unfoldable pub order : List ℕ
order = 1 ∷ 2 ∷ 3 ∷ 4 ∷ 5 ∷ 6 ∷ 7 ∷ []

-- the first of these that applies, and 0, "done", where none does
unfoldable pub first_that : (ℕ → Bool) → List ℕ → ℕ
first_that test [] = 0
first_that test (n ∷ ns) = cond (test n) n (first_that test ns)
