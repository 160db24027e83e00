-- The calls that make a list longer: each leaves a sound pool, and changes the lists of the table as one equation says.
use Rattle.std.specs.Prelude.{◌≡◌, List, [], ◌∷◌, ◌++◌, ℕ, ◌+◌, ◌-◌, ◌≤◌, drop}
use Rattle.std.proofs.Math.Path.{sym, ap}
use Rattle.std.proofs.Common.{◌∙◌, add_assoc, arith}
use Rattle.std.proofs.Math.Nat.{add-zero}
use borrow.Author.Tests.{eqb-true, ne_eqb, not-false}
use Rattle.std.proofs.Math.ListN.{length, set, take, length-append}
use Rattle.std.proofs.Math.Seq.{set_comm, get_or-set_same, drop-append_seam, take-length}
use Rattle.words.specs.Runs.{copied, stored}
use Rattle.words.specs.RunLaws.{length_take_drop}
use Rattle.pool.specs.declared.ListPool.{ListPool}
use Rattle.pool.specs.Numbers.{handle_at}
use Rattle.pool.specs.Blocks.{moved}
use Rattle.pool.specs.Rules.{len_of, from_slice, push, extend, insert, grow_at, number_of, done_of, grown, opened}
use Rattle.pool.specs.Rules.{from_slice_number, push_done, extend_done, from_slice_done, insert_done, grow_at_done}
use Rattle.pool.specs.Steps.{Ready}
use Rattle.pool.proofs.Facts.{given_zero, else_first, else_second, entry_facts, grow_facts, grow_at_facts, ready_empty}
use Rattle.sound.specs.Sound.{list_at, SoundWith, LeavesWith}
use Rattle.sound.proofs.Changes.{SoundWithSet, LeavesWithSet, has, has_length, has_part, length_list, list_empty, written, grew}
use Rattle.sound.specs.Sequences.{insert_all, open_at}
use Rattle.sound.specs.ListEffects.{behind}
use Rattle.sound.proofs.Behind.{behind_is}
use Rattle.sound.proofs.SequenceLaws.{length_insert, sets_end, sets_open, sets_insert}

module _ {st : ListPool} {ws hs : List ℕ} {ls : List (List ℕ)} {slot : ℕ} {l : List ℕ} (L : SoundWithSet st ws hs ls slot l) where
  -- the list grows and the places at its end are filled
  extended : (xs : List ℕ) → Ready st ws hs slot (len_of ws hs slot + length xs) → LeavesWithSet (extend_done st ws hs slot xs) ls slot (l ++ xs)
  unfolding extend_done stored
  extended xs r =
      let (zs, n, G) = grew L (length xs) r in
      let W = written G (length l) xs (rw length-append (omega arith)) in
      rw (← (has_length L), ← (sets_end l zs xs n)) W

  -- the element is written before the length, which comes to the same
  pushed : (x : ℕ) → Ready st ws hs slot (len_of ws hs slot + 1) → LeavesWithSet (push_done st ws hs slot x) ls slot (l ++ x ∷ [])
  unfolding push_done extend_done grown stored
  pushed x r =
      let old = len_of ws hs slot in
      let m = moved st ws (handle_at hs slot) old (old + 1) in
      let at = get_or-set_same hs slot (m.block + 1) 0 r.inside in
      let order : set (set m.words (m.block + (old + 1)) x) m.block (old + 1)
      ≡ set (set m.words m.block (old + 1)) (handle_at (set hs slot (m.block + 1)) slot + old) x =
      set_comm m.words (m.block + (old + 1)) m.block x (old + 1) (omega arith)
      ∙ ap (λ (k : ℕ). set (set m.words m.block (old + 1)) k x) (omega arith) in
      rw order (rw (ne_eqb (old + 1) 0 (omega arith)) at (extended (x ∷ []) r))

module _ {st : ListPool} {ws hs : List ℕ} {ls : List (List ℕ)} {slot : ℕ} (l zs : List ℕ) (L : SoundWithSet st ws hs ls slot (l ++ zs)) where
  -- the first elements are shifted up over the last
  shifted : (p : ℕ) → p ≤ length l
      → SoundWithSet st (copied ws (handle_at hs slot + p) (handle_at hs slot + p + length zs) (length l - p)) hs ls slot (open_at p zs l)
  unfolding copied open_at
  shifted p h =
      let n = length-append l zs in
      let tail = take (length l - p) (drop p (l ++ zs)) in
      let W = written L (p + length zs) tail (rw (length_take_drop (l ++ zs) p (length l - p) (omega arith)) (omega arith)) in
      rw (add_assoc (handle_at hs slot) p (length zs), has_part L p (length l - p) (omega arith), ← (sets_open l zs p h)) W

  -- the last stand behind the first
  last_part : take (length zs) (drop (handle_at hs slot + length l) ws) ≡ zs
  last_part =
      has_part L (length l) (length zs) (rw length-append (omega arith)) ∙ rw (drop-append_seam l zs) (take-length zs)

module _ {st : ListPool} {ws hs : List ℕ} {ls : List (List ℕ)} {slot : ℕ} {l : List ℕ} (L : SoundWithSet st ws hs ls slot l) where
  -- the list grows and places are opened at a position
  pub opens : (p count : ℕ) → p ≤ length l → Ready st ws hs slot (len_of ws hs slot + count)
      → (length (behind st ws hs slot count) ≡ count) × LeavesWithSet (opened st ws hs slot p count) ls slot (open_at p (behind st ws hs slot count) l)
  unfolding opened
  opens p count h r =
      let (zs, n, G) = grew L count r in
      let e : behind st ws hs slot count ≡ zs = sym (behind_is L.holds slot count r) ∙ rw (n, has_length L) at (last_part l zs G) in
      rw e (n, rw (n, has_length L) at (shifted l zs G p h))

  -- the places are opened behind a push, and the element is written there
  inserted : (p x : ℕ) → p ≤ length l → Ready st ws hs slot (len_of ws hs slot + 1)
      → LeavesWithSet (insert_done st ws hs slot p x) ls slot (insert_all p (x ∷ []) l)
  unfolding insert_done open_at
  inserted p x h r =
      let ys = take 1 (drop p (l ++ x ∷ [])) in
      let n : length ys ≡ 1 = length_take_drop (l ++ x ∷ []) p 1 (rw length-append (omega arith)) in
      let S = shifted l (x ∷ []) (pushed L x r) p h in
      let W = written S p (x ∷ []) (rw length_insert (omega arith)) in
      rw (sets_insert l ys (x ∷ []) p h n, has_length L) at W

module _ {st : ListPool} {ws hs : List ℕ} {ls : List (List ℕ)} (P : SoundWith st ws hs ls) where
  -- "append"
  pub push_holds : (slot x : ℕ) → number_of (push slot x) st ws hs ≡ 0
      → LeavesWith (done_of (push slot x) st ws hs) (set ls slot (list_at ls slot ++ x ∷ []))
  unfolding number_of done_of
  push_holds slot x e = let r = grow_facts st ws hs slot 1 e in (pushed (has slot P r.inside) x r).holds

  -- "concatenate"
  pub extend_holds : (slot : ℕ) (xs : List ℕ) → number_of (extend slot xs) st ws hs ≡ 0
      → LeavesWith (done_of (extend slot xs) st ws hs) (set ls slot (list_at ls slot ++ xs))
  unfolding number_of done_of
  extend_holds slot xs e = let r = grow_facts st ws hs slot (length xs) e in (extended (has slot P r.inside) xs r).holds

  -- `from_slice`: an empty list becomes the slice
  pub from_slice_holds : (slot : ℕ) (xs : List ℕ) → number_of (from_slice slot xs) st ws hs ≡ 0
      → LeavesWith (done_of (from_slice slot xs) st ws hs) (set ls slot xs)
  unfolding number_of done_of from_slice_number from_slice_done extend_done
  from_slice_holds slot xs e =
      let f = entry_facts st.used ws hs slot (else_first _ _ e) in
      let z = eqb-true (handle_at hs slot) 0 (not-false _ (given_zero 5 _ (omega arith) (else_first _ _ (else_second _ _ e)))) in
      let r = ready_empty st ws hs slot (length xs) f z (else_second _ _ (else_second _ _ e)) in
      rw (f.list.none z, add-zero, list_empty P slot z) at (extended (has slot P f.inside) xs r).holds

  -- "insert at"
  pub insert_holds : (slot p x : ℕ) → number_of (insert slot p x) st ws hs ≡ 0
      → LeavesWith (done_of (insert slot p x) st ws hs) (set ls slot (insert_all p (x ∷ []) (list_at ls slot)))
  unfolding number_of done_of
  insert_holds slot p x e =
      let (place, r) = grow_at_facts st ws hs slot p 1 e in
      (inserted (has slot P r.inside) p x (omega (arith, length_list P slot)) r).holds

  -- "the places `grow_at` opens hold what 01 says"
  pub grow_at_holds : (slot p count : ℕ) → number_of (grow_at slot p count) st ws hs ≡ 0
      → LeavesWith (done_of (grow_at slot p count) st ws hs) (set ls slot (open_at p (behind st ws hs slot count) (list_at ls slot)))
  unfolding number_of done_of grow_at_done
  grow_at_holds slot p count e =
      let (place, r) = grow_at_facts st ws hs slot p count e in
      (opens (has slot P r.inside) p count (omega (arith, length_list P slot)) r).1.holds
