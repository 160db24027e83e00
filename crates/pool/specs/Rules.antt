-- The word rules of every call of paper 01: for each call the number that it is refused with (0: none), and what is done where it is not
-- refused. A call's outcome is the one or the other: `called`, at the end. Throughout `ws` is the pool's words and `hs` the table's handles.
use Rattle.std.specs.Prelude.{ℕ, ◌+◌, ◌-◌, min, cond, not, ◌||◌, List, length, get_or, set, replicate, eqb, leb, ltb}
use Rattle.sizes.specs.Class.{class_count, class_of}
use Rattle.words.specs.Runs.{copied, stored}
use Rattle.pool.specs.declared.ListPool.{ListPool}
use Rattle.pool.specs.declared.Answer.{Answer}
use Rattle.pool.specs.declared.Part.{Part}
use Rattle.pool.specs.Numbers.{◌or_else◌, state_of, handle_at, length_at, given, too_long, entry_number, entry_number₂, need_number}
use Rattle.pool.specs.Blocks.{Taken, free, moved}

-- All that a call decides: the answer (number, value and state), every pool word and every handle.
pub record Outcome : Type 0 where
  pub answer : Answer
  pub words : List ℕ
  pub handles : List ℕ

abbrev pub outcome : Answer → List ℕ → List ℕ → Outcome
outcome r ws hs = record { answer = r; words = ws; handles = hs }

abbrev pub answer : ℕ → ℕ → ListPool → Answer
answer number value st = record { number = number; value = value; state = st }

-- a call that is done: number 0, a value, and what stands after it
abbrev pub done : ℕ → ListPool → List ℕ → List ℕ → Outcome
done value st ws hs = outcome (answer 0 value st) ws hs

-- "A refused call returns 0 as its value and changes nothing"
abbrev pub refused : ListPool → List ℕ → List ℕ → ℕ → Outcome
refused st ws hs number = outcome (answer number 0 st) ws hs

-- THE STEPS THAT CALLS SHARE

-- the stored length of the list in a slot
abbrev pub len_of : List ℕ → List ℕ → ℕ → ℕ
len_of ws hs slot = length_at ws (handle_at hs slot)

-- a list of n elements lies in a block that was taken: its length is written, and "The handle is block start + 1."
abbrev pub seated : ℕ → Taken → List ℕ → ℕ → ℕ → Outcome
seated value m hs slot n = done value m.state (set m.words m.block n) (set hs slot (m.block + 1))

-- 9. "`clear` frees the block, if any, and sets the handle to 0": of a list of n elements at the handle h
unfoldable pub cleared : ListPool → List ℕ → List ℕ → ℕ → ℕ → ℕ → Outcome
cleared st ws hs slot h n =
    let f = free st ws (h - 1) (class_of n) in
    cond (eqb h 0) (done 0 st ws hs) (done 0 f.state f.words (set hs slot 0))

-- 7. one element less, the last: "at length 1, the list is cleared; at 4, 8, 16 and so on it moves one class down, copying old-length words;
-- the length is set."
unfoldable pub last_removed : ListPool → List ℕ → List ℕ → ℕ → ℕ → ℕ → Outcome
last_removed st ws hs slot h old = cond (eqb old 1) (cleared st ws hs slot h old) (seated 0 (moved st ws h old (old - 1)) hs slot (old - 1))

-- 6. "Growing by a count (35): to an empty list with count 0 does nothing, with more allocates; otherwise moves when the class changes,
-- copying length + 1 words. Then the new length is written."
unfoldable pub grown : ListPool → List ℕ → List ℕ → ℕ → ℕ → Outcome
grown st ws hs slot count =
    let old = len_of ws hs slot in
    cond (eqb (old + count) 0) (done 0 st ws hs) (seated 0 (moved st ws (handle_at hs slot) old (old + count)) hs slot (old + count))

-- "`grow_at` then shifts the tail up from the top; the opened places keep what stood there."
unfoldable pub opened : ListPool → List ℕ → List ℕ → ℕ → ℕ → ℕ → Outcome
opened st ws hs slot position count =
    let g = grown st ws hs slot count in
    let at = handle_at g.handles slot + position in
    outcome g.answer (copied g.words at (at + count) (len_of ws hs slot - position)) g.handles

-- THE NUMBERS OF CALLS THAT LOOK AT NO HEAD

-- 4: "`get`, set, `remove`, `swap_remove` need position < length"; "`first` needs length ≥ 1"
unfoldable pub at_number : ℕ → List ℕ → List ℕ → ℕ → ℕ → ℕ
at_number used ws hs slot position = entry_number used ws hs slot or_else given 4 (leb (len_of ws hs slot) position)

-- 5: "`take` into the same or a non-empty slot"
unfoldable pub take_number : ℕ → List ℕ → List ℕ → ℕ → ℕ → ℕ
take_number used ws hs slot to = entry_number₂ used ws hs slot to or_else given 5 (eqb slot to || not (eqb (handle_at hs to) 0))

-- THE CALLS: on a state, a pool's words and a table's handles whatever
module _ (st : ListPool) (ws hs : List ℕ) where
  -- 5: "`from_slice` and `deep_clone` into a non-empty slot"
  unfoldable pub from_slice_number : ℕ → ℕ → ℕ
  from_slice_number slot count =
      entry_number st.used ws hs slot
      or_else given 5 (not (eqb (handle_at hs slot) 0))
      or_else need_number st ws 0 count

  -- 9. "`from_slice` and `deep_clone` allocate, write the length, then write the elements ..; of nothing or an empty list they leave the slot 0":
  -- an empty list grows by the count
  unfoldable pub from_slice_done : ℕ → List ℕ → Outcome
  from_slice_done slot xs =
      let g = grown st ws hs slot (length xs) in
      outcome g.answer (stored g.words (handle_at g.handles slot) xs) g.handles

  -- "`is_empty` .. gives 1 for handle 0, else 0."
  unfoldable pub is_empty_done : ℕ → Outcome
  is_empty_done slot = done (cond (eqb (handle_at hs slot) 0) 1 0) st ws hs

  -- "`len` gives the stored length (0 for handle 0)"
  unfoldable pub len_done : ℕ → Outcome
  len_done slot = done (len_of ws hs slot) st ws hs

  -- "`is_valid` gives 1"
  unfoldable pub is_valid_done : ℕ → Outcome
  is_valid_done slot = done 1 st ws hs

  -- `as_slice`, `as_mut_slice`: "where the call would be refused, and for handle 0, the part is empty"; else it begins at the handle
  unfoldable pub part : ℕ → Part
  part slot =
      let h = handle_at hs slot in
      cond (eqb (entry_number st.used ws hs slot) 0) (record { start = h; end = h + length_at ws h }) (record { start = 0; end = 0 })

  -- "`get` and `first` give the element's word"
  unfoldable pub get_done : ℕ → ℕ → Outcome
  get_done slot position = done (get_or ws (handle_at hs slot + position) 0) st ws hs

  -- "and setting writes that word alone."
  unfoldable pub set_done : ℕ → ℕ → ℕ → Outcome
  set_done slot position x = done 0 st (set ws (handle_at hs slot + position) x) hs

  unfoldable pub deep_clone_number : ℕ → ℕ → ℕ
  deep_clone_number slot to =
      entry_number₂ st.used ws hs slot to
      or_else given 5 (not (eqb (handle_at hs to) 0))
      or_else need_number st ws 0 (len_of ws hs slot)

  -- "(`deep_clone` reads all of them after the length is written and before the first is)"
  unfoldable pub deep_clone_done : ℕ → ℕ → Outcome
  deep_clone_done slot to =
      let g = grown st ws hs to (len_of ws hs slot) in
      outcome g.answer (copied g.words (handle_at hs slot) (handle_at g.handles to) (len_of ws hs slot)) g.handles

  unfoldable pub clear_done : ℕ → Outcome
  clear_done slot = cleared st ws hs slot (handle_at hs slot) (len_of ws hs slot)

  -- "`take` moves the handle to the other slot and leaves 0."
  unfoldable pub take_done : ℕ → ℕ → Outcome
  take_done slot to = done 0 st ws (set (set hs to (handle_at hs slot)) slot 0)

  -- a block for count elements more
  unfoldable pub grow_number : ℕ → ℕ → ℕ
  grow_number slot count = entry_number st.used ws hs slot or_else need_number st ws (len_of ws hs slot) (len_of ws hs slot + count)

  -- 5. "`push` (30) allocates for an empty list and moves when the new length is 4, 8, 16 and so on, copying length + 1 words; the length is
  -- written last." "`push` returns the old length."
  unfoldable pub push_done : ℕ → ℕ → Outcome
  push_done slot x =
      let old = len_of ws hs slot in
      let m = moved st ws (handle_at hs slot) old (old + 1) in
      seated old (record { block = m.block; state = m.state; words = set m.words (m.block + (old + 1)) x }) hs slot (old + 1)

  -- 6. "`extend` and `copy_from` fill them.": the places opened at the end
  unfoldable pub extend_done : ℕ → List ℕ → Outcome
  extend_done slot xs =
      let g = grown st ws hs slot (length xs) in
      outcome g.answer (stored g.words (handle_at g.handles slot + len_of ws hs slot) xs) g.handles

  -- 4: "`insert`, `grow_at` and the target of `copy_from` need position ≤ length"
  unfoldable pub grow_at_number : ℕ → ℕ → ℕ → ℕ
  grow_at_number slot position count =
      entry_number st.used ws hs slot
      or_else given 4 (ltb (len_of ws hs slot) position)
      or_else need_number st ws (len_of ws hs slot) (len_of ws hs slot + count)

  -- 4: "the source range needs start ≤ end ≤ source length"; 5: "`copy_from` between slots with equal handles, two empty lists included"
  unfoldable pub copy_from_number : ℕ → ℕ → ℕ → ℕ → ℕ → ℕ
  copy_from_number slot source start end position =
      entry_number₂ st.used ws hs slot source
      or_else given 4 (ltb (len_of ws hs slot) position || ltb end start || ltb (len_of ws hs source) end)
      or_else given 5 (eqb (handle_at hs slot) (handle_at hs source))
      or_else need_number st ws (len_of ws hs slot) (len_of ws hs slot + (end - start))

  -- 6. "`copy_from` takes its source words after the shift, all read before any is written."
  unfoldable pub copy_from_done : ℕ → ℕ → ℕ → ℕ → ℕ → Outcome
  copy_from_done slot source start end position =
      let g = opened st ws hs slot position (end - start) in
      outcome g.answer (copied g.words (handle_at hs source + start) (handle_at g.handles slot + position) (end - start)) g.handles

  -- 7. "`insert` pushes the element, then shifts the tail up from the top and writes it at the position."
  unfoldable pub insert_done : ℕ → ℕ → ℕ → Outcome
  insert_done slot position x =
      let p = push_done slot x in
      let at = handle_at p.handles slot + position in
      done 0 p.answer.state (set (copied p.words at (at + 1) (len_of ws hs slot - position)) at x) p.handles

  -- "A shrink can need a block before it frees one, so `remove`, `swap_remove` and `truncate` can answer 6 or 7."
  unfoldable pub remove_number : ℕ → ℕ → ℕ
  remove_number slot position = at_number st.used ws hs slot position or_else need_number st ws (len_of ws hs slot) (len_of ws hs slot - 1)

  -- 7. "`remove` shifts down"
  unfoldable pub remove_done : ℕ → ℕ → Outcome
  remove_done slot position =
      let old = len_of ws hs slot in
      let at = handle_at hs slot + position in
      last_removed st (copied ws (at + 1) at (old - (position + 1))) hs slot (handle_at hs slot) old

  -- "`swap_remove` exchanges with the last"
  unfoldable pub swap_remove_done : ℕ → ℕ → Outcome
  swap_remove_done slot position =
      let old = len_of ws hs slot in
      let at = handle_at hs slot + position in
      let last = handle_at hs slot + (old - 1) in
      last_removed st (set (set ws at (get_or ws last 0)) last (get_or ws at 0)) hs slot (handle_at hs slot) old

  -- "(`truncate` to the length or more makes no new length)"
  unfoldable pub truncate_number : ℕ → ℕ → ℕ
  truncate_number slot new = entry_number st.used ws hs slot or_else need_number st ws (len_of ws hs slot) (min (len_of ws hs slot) new)

  -- 8. "`truncate` to 0 clears; to the length or more does nothing; else moves if the class changes, copying new length + 1 words, and then
  -- the new length is written."
  unfoldable pub truncate_done : ℕ → ℕ → Outcome
  truncate_done slot new =
      cond (eqb new 0) (clear_done slot)
      (cond (leb (len_of ws hs slot) new) (done 0 st ws hs) (seated 0 (moved st ws (handle_at hs slot) (len_of ws hs slot) new) hs slot new))

  unfoldable pub grow_at_done : ℕ → ℕ → ℕ → Outcome
  grow_at_done slot position count = opened st ws hs slot position count

  -- 9. "Pool `clear` .. gives 1 only for a length over its limit"
  unfoldable pub clear_pool_number : ℕ
  clear_pool_number = given 1 (too_long (length ws) (length hs))

  -- "sets used, heads and all handles to 0 and touches no pool word"
  unfoldable pub clear_pool_done : Outcome
  clear_pool_done = done 0 (state_of 0 (replicate class_count 0)) ws (replicate (length hs) 0)

-- The calls with their arguments, in the order of list.rs: slots, positions, counts, lengths, elements.
pub data Call : Type 0 where
  from_slice : ℕ → List ℕ → Call
  is_empty : ℕ → Call
  len : ℕ → Call
  is_valid : ℕ → Call
  get : ℕ → ℕ → Call
  first : ℕ → Call
  set_at : ℕ → ℕ → ℕ → Call
  deep_clone : ℕ → ℕ → Call
  clear : ℕ → Call
  take : ℕ → ℕ → Call
  push : ℕ → ℕ → Call
  extend : ℕ → List ℕ → Call
  copy_from : ℕ → ℕ → ℕ → ℕ → ℕ → Call
  insert : ℕ → ℕ → ℕ → Call
  remove : ℕ → ℕ → Call
  swap_remove : ℕ → ℕ → Call
  truncate : ℕ → ℕ → Call
  grow_at : ℕ → ℕ → ℕ → Call
  clear_pool : Call

-- the number that a call is refused with
unfoldable pub number_of : Call → ListPool → List ℕ → List ℕ → ℕ
number_of (from_slice slot xs) st ws hs = from_slice_number st ws hs slot (length xs)
number_of (is_empty slot) st ws hs = entry_number st.used ws hs slot
number_of (len slot) st ws hs = entry_number st.used ws hs slot
number_of (is_valid slot) st ws hs = entry_number st.used ws hs slot
number_of (get slot position) st ws hs = at_number st.used ws hs slot position
number_of (first slot) st ws hs = at_number st.used ws hs slot 0
number_of (set_at slot position x) st ws hs = at_number st.used ws hs slot position
number_of (deep_clone slot to) st ws hs = deep_clone_number st ws hs slot to
number_of (clear slot) st ws hs = entry_number st.used ws hs slot
number_of (take slot to) st ws hs = take_number st.used ws hs slot to
number_of (push slot x) st ws hs = grow_number st ws hs slot 1
number_of (extend slot xs) st ws hs = grow_number st ws hs slot (length xs)
number_of (copy_from slot source start end position) st ws hs = copy_from_number st ws hs slot source start end position
number_of (insert slot position x) st ws hs = grow_at_number st ws hs slot position 1
number_of (remove slot position) st ws hs = remove_number st ws hs slot position
number_of (swap_remove slot position) st ws hs = remove_number st ws hs slot position
number_of (truncate slot new) st ws hs = truncate_number st ws hs slot new
number_of (grow_at slot position count) st ws hs = grow_at_number st ws hs slot position count
number_of clear_pool st ws hs = clear_pool_number st ws hs

-- what it does where that is 0
unfoldable pub done_of : Call → ListPool → List ℕ → List ℕ → Outcome
done_of (from_slice slot xs) st ws hs = from_slice_done st ws hs slot xs
done_of (is_empty slot) st ws hs = is_empty_done st ws hs slot
done_of (len slot) st ws hs = len_done st ws hs slot
done_of (is_valid slot) st ws hs = is_valid_done st ws hs slot
done_of (get slot position) st ws hs = get_done st ws hs slot position
done_of (first slot) st ws hs = get_done st ws hs slot 0
done_of (set_at slot position x) st ws hs = set_done st ws hs slot position x
done_of (deep_clone slot to) st ws hs = deep_clone_done st ws hs slot to
done_of (clear slot) st ws hs = clear_done st ws hs slot
done_of (take slot to) st ws hs = take_done st ws hs slot to
done_of (push slot x) st ws hs = push_done st ws hs slot x
done_of (extend slot xs) st ws hs = extend_done st ws hs slot xs
done_of (copy_from slot source start end position) st ws hs = copy_from_done st ws hs slot source start end position
done_of (insert slot position x) st ws hs = insert_done st ws hs slot position x
done_of (remove slot position) st ws hs = remove_done st ws hs slot position
done_of (swap_remove slot position) st ws hs = swap_remove_done st ws hs slot position
done_of (truncate slot new) st ws hs = truncate_done st ws hs slot new
done_of (grow_at slot position count) st ws hs = grow_at_done st ws hs slot position count
done_of clear_pool st ws hs = clear_pool_done st ws hs

-- refused with a number, or done where it is 0
unfoldable pub unless : ℕ → ListPool → List ℕ → List ℕ → Outcome → Outcome
unless number st ws hs o = cond (eqb number 0) o (refused st ws hs number)

-- What a call answers and leaves.
unfoldable pub called : Call → ListPool → List ℕ → List ℕ → Outcome
called call st ws hs = unless (number_of call st ws hs) st ws hs (done_of call st ws hs)
