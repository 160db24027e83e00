-- The calls that copy elements of one list to another: each leaves a sound pool, and changes the lists of the table as one equation says.
use Rattle.std.specs.Prelude.{◌≡◌, refl, Bool, true, false, cond, ℕ, ◌+◌, ◌-◌, ◌≤◌, set, drop, eqb}
use Rattle.std.proofs.Common.{◌∙◌, add-zero, arith, get_or-set_other, take_all}
use mathlib.Core.List.{List, [], ◌++◌}
use Rattle.std.proofs.Math.Decide.{ℕ_discrete}
use borrow.Author.Tests.{eqb-true, eqb-false, ltb-false, not-false}
use Rattle.std.proofs.Math.ListN.{length, take, length-append}
use Rattle.words.specs.Runs.{copied}
use Rattle.words.specs.RunLaws.{length_take_drop}
use Rattle.pool.specs.declared.ListPool.{ListPool}
use Rattle.pool.specs.Numbers.{handle_at}
use Rattle.pool.specs.Blocks.{moved}
use Rattle.pool.specs.Rules.{len_of, done, seated, deep_clone, copy_from, number_of, done_of, grown, opened}
use Rattle.pool.specs.Rules.{deep_clone_number, copy_from_number, deep_clone_done, copy_from_done}
use Rattle.pool.proofs.Facts.{given_zero, neither, else_first, else_second, entry_facts₂, ready, ready_empty}
use Rattle.sound.specs.Sound.{list_at, SoundWith, LeavesWith}
use Rattle.sound.proofs.Changes.{SoundWithSet, LeavesWithSet, has, other_part, length_list, list_here, list_empty, written, grew}
use Rattle.sound.specs.Sequences.{insert_all, open_at, range}
use Rattle.sound.proofs.SequenceLaws.{length_insert, sets_end, sets_insert}
use Rattle.sound.specs.ListEffects.{behind}
use Rattle.sound.proofs.Grow.{opens}

-- no other handle changes where a list grows
grown_other : (st : ListPool) (ws hs : List ℕ) (slot count other : ℕ) → (other ≡ slot → ⊥)
    → handle_at (grown st ws hs slot count).handles other ≡ handle_at hs other
unfolding grown
grown_other st ws hs slot count other q = go (eqb (len_of ws hs slot + count) 0)
  where
    new : ℕ
    new = len_of ws hs slot + count

    go : (t : Bool) → handle_at (cond t (done 0 st ws hs) (seated 0 (moved st ws (handle_at hs slot) (len_of ws hs slot) new) hs slot new)).handles other
        ≡ handle_at hs other
    go true = refl
    go false = get_or-set_other hs slot other ((moved st ws (handle_at hs slot) (len_of ws hs slot) new).block + 1) 0 q

module _ {st : ListPool} {ws hs : List ℕ} {ls : List (List ℕ)} (P : SoundWith st ws hs ls) where
  -- a list is read where it was, after another, empty list has grown; the empty list itself has nothing to read
  clone_read : (slot to count : ℕ) {l : List ℕ} → handle_at hs to ≡ 0 → LeavesWithSet (grown st ws hs to count) ls to l
      → take (len_of ws hs slot) (drop (handle_at hs slot) (grown st ws hs to count).words) ≡ list_at ls slot
  clone_read slot to count z G = go (ℕ_discrete slot to)
    where
      go : Dec (slot ≡ to) → take (len_of ws hs slot) (drop (handle_at hs slot) (grown st ws hs to count).words) ≡ list_at ls slot
      go (yes q) = rw (q, (list_here P to).none z, list_empty P to z) refl
      go (no q) =
          let n = length_list P slot in
          (rw (grown_other st ws hs to count slot q, add-zero) at (other_part G slot 0 (len_of ws hs slot) q (omega arith)))
          ∙ take_all (len_of ws hs slot) (list_at ls slot) (omega arith)

  -- "clone"
  pub deep_clone_holds : (slot to : ℕ) → number_of (deep_clone slot to) st ws hs ≡ 0
      → LeavesWith (done_of (deep_clone slot to) st ws hs) (set ls to (list_at ls slot))
  unfolding number_of done_of deep_clone_number deep_clone_done copied
  deep_clone_holds slot to e =
      let f = (entry_facts₂ st.used ws hs slot to (else_first _ _ e)).1 in
      let z : handle_at hs to ≡ 0 = eqb-true _ _ (not-false _ (given_zero 5 _ (omega arith) (else_first _ _ (else_second _ _ e)))) in
      let r = ready_empty st ws hs to (len_of ws hs slot) f z (else_second _ _ (else_second _ _ e)) in
      let L : SoundWithSet st ws hs ls to [] = rw (list_empty P to z) at (has to P f.inside) in
      let (zs, k, G) = grew L (len_of ws hs slot) r in
      let l = list_at ls slot in
      let n = length_list P slot in
      rw (clone_read slot to (len_of ws hs slot) z G) (rw (add-zero, sets_end [] zs l (omega arith)) at (written G 0 l (omega arith)).holds)

  -- "copy a range in"
  pub copy_from_holds : (slot source start end p : ℕ) → number_of (copy_from slot source start end p) st ws hs ≡ 0
      → LeavesWith (done_of (copy_from slot source start end p) st ws hs) (set ls slot (insert_all p (range start end (list_at ls source)) (list_at ls slot)))
  unfolding number_of done_of copy_from_number copy_from_done opened copied open_at range
  copy_from_holds slot source start end p e =
      let e2 = else_second _ _ e in
      let e3 = else_second _ _ e2 in
      let f = (entry_facts₂ st.used ws hs slot source (else_first _ _ e)).0 in
      let t = neither (given_zero 4 _ (omega arith) (else_first _ _ e2)) in
      let u = neither t.0 in
      let place : p ≤ len_of ws hs slot = ltb-false _ _ u.0 in
      let order : start ≤ end = ltb-false _ _ u.1 in
      let inside : end ≤ len_of ws hs source = ltb-false _ _ t.1 in
      let clash : (handle_at hs slot ≡ handle_at hs source) → ⊥ = eqb-false _ _ (given_zero 5 _ (omega arith) (else_first _ _ e3)) in
      let l = list_at ls slot in
      let n = length_list P slot in
      let m = length_list P source in
      let q : (source ≡ slot) → ⊥ = λ x. clash (rw x refl) in
      let r = ready st ws hs slot (len_of ws hs slot + (end - start)) f (else_second _ _ e3) in
      let (k, O) = opens (has slot P f.inside) p (end - start) (omega arith) r in
      let zs = behind st ws hs slot (end - start) in
      let ys = take (end - start) (drop start (list_at ls source)) in
      let d : length ys ≡ end - start = length_take_drop (list_at ls source) start (end - start) (omega arith) in
      let opening : length (take (length zs) (drop p (l ++ zs))) ≡ length zs = length_take_drop (l ++ zs) p (length zs) (rw length-append (omega arith)) in
      let read = rw (grown_other st ws hs slot (end - start) source q) at (other_part O source start (end - start) q (omega arith)) in
      let W = written O p ys (rw (length_insert p (take (length zs) (drop p (l ++ zs))) l (omega arith)) (omega arith)) in
      rw read (rw (sets_insert l (take (length zs) (drop p (l ++ zs))) ys p (omega arith) (omega arith)) at W.holds)
