-- Every call keeps a sound pool sound, refusals too; it changes the lists that it names as plain sequences change, and no other list.
use Rattle.std.specs.Prelude.{◌≡◌, true, false, List, [], ◌⊎◌, ℕ, length, set, eqb}
use Rattle.std.proofs.Math.Path.{refl}
use Rattle.std.proofs.Common.{ap, ◌∙◌, inl, inr, ⊎_elim, eqb-true, get_or-set_other}
use Rattle.std.proofs.Math.Bool.{Bool, cond}
use Rattle.std.proofs.lemmas.Bool.{eqb-false}
use Rattle.pool.specs.declared.ListPool.{ListPool}
use Rattle.pool.specs.Rules.{Outcome, refused, number_of, done_of, unless, called, is_empty_done, len_done, is_valid_done, get_done}
use Rattle.pool.specs.Rules.{Call, from_slice, is_empty, len, is_valid, get, first, set_at, deep_clone, clear, take, push}
use Rattle.pool.specs.Rules.{extend, copy_from, insert, remove, swap_remove, truncate, grow_at, clear_pool}
use Rattle.pool.specs.Facts.{Within}
use Rattle.sound.specs.Sound.{Sound, lists, list_at, SoundWith, LeavesWith}
use Rattle.sound.specs.ListEffects.{behind, lists_after, Target}
use Rattle.sound.proofs.Changes.{length_lists}
use Rattle.sound.proofs.Grow.{push_holds, extend_holds, from_slice_holds, insert_holds, grow_at_holds}
use Rattle.sound.proofs.Shrink.{clear_holds, remove_holds, swap_remove_holds, truncate_holds}
use Rattle.sound.proofs.Copy.{deep_clone_holds, copy_from_holds}
use Rattle.sound.proofs.SetAndTake.{set_holds, take_holds}
use Rattle.sound.proofs.Cleared.{clear_pool_holds}
use Rattle.sound.specs.EveryCall.{SoundAfter}

module _ {st : ListPool} {ws hs : List ℕ} {ls : List (List ℕ)} (P : SoundWith st ws hs ls) where
  done_holds : (call : Call) → number_of call st ws hs ≡ 0 → LeavesWith (done_of call st ws hs) (lists_after (behind st ws hs) call ls)
  unfolding lists_after done_of is_empty_done len_done is_valid_done get_done
  done_holds (from_slice slot xs) e = from_slice_holds P slot xs e
  done_holds (is_empty slot) e = P
  done_holds (len slot) e = P
  done_holds (is_valid slot) e = P
  done_holds (get slot position) e = P
  done_holds (first slot) e = P
  done_holds (set_at slot position x) e = set_holds P slot position x e
  done_holds (deep_clone slot to) e = deep_clone_holds P slot to e
  done_holds (clear slot) e = clear_holds P slot e
  done_holds (take slot to) e = take_holds P slot to e
  done_holds (push slot x) e = push_holds P slot x e
  done_holds (extend slot xs) e = extend_holds P slot xs e
  done_holds (copy_from slot source start end position) e = copy_from_holds P slot source start end position e
  done_holds (insert slot position x) e = insert_holds P slot position x e
  done_holds (remove slot position) e = remove_holds P slot position e
  done_holds (swap_remove slot position) e = swap_remove_holds P slot position e
  done_holds (truncate slot new) e = truncate_holds P slot new e
  done_holds (grow_at slot position count) e = grow_at_holds P slot position count e
  done_holds clear_pool e = rw (length_lists P) (clear_pool_holds st ws hs e)

  -- a call is done, or it is refused and changes nothing
  done_or_refused : (call : Call)
      → LeavesWith (called call st ws hs) (lists_after (behind st ws hs) call ls)
      ⊎ (((called call st ws hs).answer.number ≡ 0 → ⊥) × LeavesWith (called call st ws hs) ls)
  unfolding called unless
  done_or_refused call = go (eqb (number_of call st ws hs) 0) refl
    where
      after : Bool → Outcome
      after t = cond t (done_of call st ws hs) (refused st ws hs (number_of call st ws hs))

      go : (t : Bool) → eqb (number_of call st ws hs) 0 ≡ t
          → LeavesWith (after t) (lists_after (behind st ws hs) call ls) ⊎ (((after t).answer.number ≡ 0 → ⊥) × LeavesWith (after t) ls)
      go true q = inl (done_holds call (eqb-true _ _ q))
      go false q = inr (eqb-false _ _ q, P)

  -- "from a sound state a call that answers 0 changes the lists it names as plain sequences change": one equation over the table of lists
  pub lists_changed : (call : Call) → (called call st ws hs).answer.number ≡ 0 → LeavesWith (called call st ws hs) (lists_after (behind st ws hs) call ls)
  lists_changed call e = ⊎_elim (λ R. R) (λ R. absurd (R.0 e)) (done_or_refused call)

-- where a call does not change the list in a slot
other : (bs : ℕ → ℕ → List ℕ) (call : Call) (ls : List (List ℕ)) (k : ℕ) → (Target call k → ⊥) → list_at (lists_after bs call ls) k ≡ list_at ls k
unfolding lists_after
other bs (from_slice slot xs) ls k q = get_or-set_other ls slot k _ [] q
other bs (is_empty slot) ls k q = refl
other bs (len slot) ls k q = refl
other bs (is_valid slot) ls k q = refl
other bs (get slot position) ls k q = refl
other bs (first slot) ls k q = refl
other bs (set_at slot position x) ls k q = get_or-set_other ls slot k _ [] q
other bs (deep_clone slot to) ls k q = get_or-set_other ls to k _ [] q
other bs (clear slot) ls k q = get_or-set_other ls slot k _ [] q
other bs (take slot to) ls k q =
    get_or-set_other (set ls to (list_at ls slot)) slot k [] [] (λ e. q (inl e)) ∙ get_or-set_other ls to k (list_at ls slot) [] (λ e. q (inr e))
other bs (push slot x) ls k q = get_or-set_other ls slot k _ [] q
other bs (extend slot xs) ls k q = get_or-set_other ls slot k _ [] q
other bs (copy_from slot source start end position) ls k q = get_or-set_other ls slot k _ [] q
other bs (insert slot position x) ls k q = get_or-set_other ls slot k _ [] q
other bs (remove slot position) ls k q = get_or-set_other ls slot k _ [] q
other bs (swap_remove slot position) ls k q = get_or-set_other ls slot k _ [] q
other bs (truncate slot new) ls k q = get_or-set_other ls slot k _ [] q
other bs (grow_at slot position count) ls k q = get_or-set_other ls slot k _ [] q
other bs clear_pool ls k q = absurd (q tt)

module _ {st : ListPool} {ws hs : List ℕ} (s : Sound st ws hs) (w : Within st.used (length ws) (length hs)) where
  -- a sound pool holds its lists
  pub its_lists : SoundWith st ws hs (lists ws hs)
  its_lists = record { sound = s; within = w; are = refl }

  -- "from a sound pool within 01's limits every call of 01 (all of them; refusals too ..) leaves a sound pool"
  pub call_keeps_sound : (call : Call) → SoundAfter (called call st ws hs)
  call_keeps_sound call = ⊎_elim (λ R. (R.sound, R.within)) (λ R. (R.1.sound, R.1.within)) (done_or_refused its_lists call)

  -- "and no other list": a call, done or refused, leaves the list in every slot that is no target of it
  pub untouched : (call : Call) (slot : ℕ) → (Target call slot → ⊥)
      → list_at (lists (called call st ws hs).words (called call st ws hs).handles) slot ≡ list_at (lists ws hs) slot
  untouched call slot q =
      ⊎_elim
      (λ R. ap (λ (r : List (List ℕ)). list_at r slot) R.are ∙ other (behind st ws hs) call (lists ws hs) slot q)
      (λ R. ap (λ (r : List (List ℕ)). list_at r slot) R.1.are)
      (done_or_refused its_lists call)
