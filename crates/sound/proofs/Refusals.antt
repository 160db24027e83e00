-- What a call asks of the lists it names, by the plain sequences alone: the number that refuses it for its arguments, 2, 4 or 5, and the length
-- that it gives a list. On a sound pool within the limits that number is the call's, and else that of the block for that length.
use Rattle.std.specs.Prelude.{◌≡◌, ◌&&◌, ◌||◌, List, ◌⊎◌, ℕ, ◌<◌, length, eqb}
use Rattle.std.proofs.Math.Path.{sym}
use Rattle.std.proofs.Common.{ap, ◌∙◌, inl, inr, eq-zero-or-pos, arith, eq-eqb, ne_eqb}
use Rattle.std.proofs.Math.Bool.{and-false}
use Rattle.std.proofs.Math.Decide.{ℕ_discrete}
use Rattle.std.proofs.Math.Dec.{leb}
use Rattle.pool.specs.declared.ListPool.{ListPool}
use Rattle.pool.specs.Numbers.{◌or_else◌, handle_at, given, entry_number, entry_number₂, needs_block, need_number}
use Rattle.pool.specs.Rules.{Call, from_slice, is_empty, len, is_valid, get, first, set_at, deep_clone, clear, take, push}
use Rattle.pool.specs.Rules.{extend, copy_from, insert, remove, swap_remove, truncate, grow_at, clear_pool, len_of, number_of, at_number}
use Rattle.pool.specs.Rules.{take_number, grow_number, from_slice_number, deep_clone_number, grow_at_number, copy_from_number, remove_number, truncate_number}
use Rattle.pool.proofs.Facts.{within_limits, else_none, else_assoc}
use Rattle.sound.specs.Sound.{SoundWith}
use Rattle.sound.proofs.SoundBut.{handle_inside}
use Rattle.sound.proofs.CutProperties.{not_shared}
use Rattle.sound.proofs.Changes.{list_here, length_list, length_lists}
use Rattle.sound.proofs.Cleared.{clear_pool_zero}
use Rattle.sound.specs.Refusals.{outside, empty, refusal, lengths}

module _ {st : ListPool} {ws hs : List ℕ} {ls : List (List ℕ)} (P : SoundWith st ws hs ls) where
  -- of 1, 2 and 3 there is left 2
  pub entry_is : (slot : ℕ) → entry_number st.used ws hs slot ≡ given 2 (outside ls slot)
  unfolding entry_number given ◌or_else◌
  entry_is slot = rw (within_limits P.within, P.sound.1.handles slot, length_lists P) (else_none (given 2 (leb (length hs) slot)))

  entry_is₂ : (slot other : ℕ) → entry_number₂ st.used ws hs slot other ≡ given 2 (outside ls slot || outside ls other)
  unfolding entry_number₂ given ◌or_else◌
  entry_is₂ slot other =
      rw (within_limits P.within, P.sound.1.handles slot, P.sound.1.handles other, length_lists P)
      (else_none (given 2 (leb (length hs) slot || leb (length hs) other)))

  -- a handle is 0 just where the list has no elements
  pub empty_is : (slot : ℕ) → eqb (handle_at hs slot) 0 ≡ empty ls slot
  empty_is slot = rw (length_list P slot) (go (eq-zero-or-pos (handle_at hs slot)))
    where
      go : (handle_at hs slot ≡ 0) ⊎ (0 < handle_at hs slot) → eqb (handle_at hs slot) 0 ≡ eqb (len_of ws hs slot) 0
      go (inl z) = rw (eq-eqb (handle_at hs slot) 0 z, eq-eqb (len_of ws hs slot) 0 ((list_here P slot).none z))
      go (inr p) = rw (ne_eqb (handle_at hs slot) 0 (omega arith), ne_eqb (len_of ws hs slot) 0 (omega (arith, (list_here P slot).live p)))

  -- and two handles are equal just where they are one slot's, or both 0
  clash_is : (slot other : ℕ) → eqb (handle_at hs slot) (handle_at hs other) ≡ (eqb slot other || (empty ls slot && empty ls other))
  clash_is slot other =
      rw (← (empty_is slot), ← (empty_is other))
      (go (ℕ_discrete slot other) (eq-zero-or-pos (handle_at hs slot)) (eq-zero-or-pos (handle_at hs other)))
    where
      h : ℕ
      h = handle_at hs slot

      k : ℕ
      k = handle_at hs other

      go : Dec (slot ≡ other) → (h ≡ 0) ⊎ (0 < h) → (k ≡ 0) ⊎ (0 < k) → eqb h k ≡ (eqb slot other || (eqb h 0 && eqb k 0))
      go (yes e) d f = rw (eq-eqb slot other e, eq-eqb h k (ap (handle_at hs) e))
      go (no ne) (inl z) (inl y) = rw (ne_eqb slot other ne, eq-eqb h k (omega arith), eq-eqb h 0 z, eq-eqb k 0 y)
      go (no ne) (inl z) (inr q) = rw (ne_eqb slot other ne, ne_eqb h k (omega arith), ne_eqb k 0 (omega arith)) (sym (and-false (eqb h 0)))
      go (no ne) (inr p) (inl y) = rw (ne_eqb slot other ne, ne_eqb h k (omega arith), ne_eqb h 0 (omega arith))
      go (no ne) (inr p) (inr q) =
          let apart = not_shared P.sound slot other ne (handle_inside hs slot p) (handle_inside hs other q) (omega arith) in
          rw (ne_eqb slot other ne, ne_eqb h k apart, ne_eqb h 0 (omega arith))

  -- The number of a call is that which its arguments have on the plain lists, or else that of the block for the length that it gives a list.
  pub number_is : (call : Call) → number_of call st ws hs ≡ (refusal call ls or_else need_number st ws (lengths call ls).old (lengths call ls).new)
  unfolding number_of refusal lengths need_number needs_block at_number take_number grow_number from_slice_number
      deep_clone_number grow_at_number copy_from_number remove_number truncate_number
  number_is (from_slice slot xs) = rw (entry_is slot, empty_is slot, else_assoc)
  number_is (is_empty slot) = rw (entry_is slot, else_none)
  number_is (len slot) = rw (entry_is slot, else_none)
  number_is (is_valid slot) = rw (entry_is slot, else_none)
  number_is (get slot position) = rw (entry_is slot, length_list P slot, else_none)
  number_is (first slot) = rw (entry_is slot, length_list P slot, else_none)
  number_is (set_at slot position x) = rw (entry_is slot, length_list P slot, else_none)
  number_is (deep_clone slot to) = rw (entry_is₂ slot to, empty_is to, length_list P slot, else_assoc)
  number_is (clear slot) = rw (entry_is slot, else_none)
  number_is (take slot to) = rw (entry_is₂ slot to, empty_is to, else_none)
  number_is (push slot x) = rw (entry_is slot, length_list P slot)
  number_is (extend slot xs) = rw (entry_is slot, length_list P slot)
  number_is (copy_from slot source start end position) =
      rw (entry_is₂ slot source, clash_is slot source, length_list P slot, length_list P source, else_assoc, else_assoc)
  number_is (insert slot position x) = rw (entry_is slot, length_list P slot, else_assoc)
  number_is (remove slot position) = rw (entry_is slot, length_list P slot)
  number_is (swap_remove slot position) = rw (entry_is slot, length_list P slot)
  number_is (truncate slot new) = rw (entry_is slot, length_list P slot)
  number_is (grow_at slot position count) = rw (entry_is slot, length_list P slot, else_assoc)
  number_is clear_pool = clear_pool_zero st ws hs P.within.pool_within P.within.table_within ∙ sym (else_none 0)
