-- The calls that make a list shorter: each leaves a sound pool, and changes the lists of the table as one equation says.
use Rattle.std.specs.Prelude.{◌≡◌, List, [], ◌∷◌, ℕ, ◌+◌, ◌-◌, ◌≤◌, ◌<◌, min, set, drop}
use Rattle.std.proofs.Common.{sym, ◌∙◌, ⊎_elim, eq-zero-or-pos, arith, ne_eqb, take_all}
use Rattle.std.proofs.Math.Nat.{add_assoc}
use Rattle.std.proofs.Math.Decide.{dec_lt}
use Rattle.std.proofs.Math.ListN.{length, get_or, take, length-set}
use Rattle.std.proofs.Math.Seq.{length-sets}
use Rattle.std.proofs.lemmas.List.{take-set-le}
use Rattle.words.specs.Runs.{copied}
use Rattle.words.specs.RunLaws.{length_take_drop}
use Rattle.pool.specs.declared.ListPool.{ListPool}
use Rattle.pool.specs.Numbers.{handle_at}
use Rattle.pool.specs.Rules.{len_of, last_removed, clear, remove, swap_remove, truncate, number_of, done_of, clear_done, remove_done}
use Rattle.pool.specs.Rules.{swap_remove_done, truncate_done}
use Rattle.pool.specs.Steps.{Ready, resized}
use Rattle.pool.proofs.Facts.{entry_facts, remove_facts, truncate_facts}
use Rattle.pool.proofs.CallLaws.{last_resized, truncate_resized, truncate_none}
use Rattle.sound.specs.Sound.{list_at, SoundWith, LeavesWith}
use Rattle.sound.proofs.Changes.{SoundWithSet, LeavesWithSet, has, has_length, has_at, has_part, written, shrunk, emptied}
use Rattle.sound.specs.Sequences.{remove_at, swap_remove_at}
use Rattle.sound.proofs.SequenceLaws.{take_shift}

-- a list gets no more elements than it has: the first of them are left
fewer : {st : ListPool} {ws hs : List ℕ} {ls : List (List ℕ)} {slot : ℕ} {l : List ℕ}
    → SoundWithSet st ws hs ls slot l → (new : ℕ) → Ready st ws hs slot new → new ≤ length l
    → LeavesWithSet (resized st ws hs slot (handle_at hs slot) (len_of ws hs slot) new) ls slot (take new l)
unfolding resized
fewer L new r h = ⊎_elim (λ z. rw z (emptied L)) (λ p. rw (ne_eqb new 0 (omega arith)) (shrunk L new r p h)) (eq-zero-or-pos new)

-- the last element goes from a list whose elements may have been written since the entry, where the words were ws
dropped : {st : ListPool} {vs hs : List ℕ} {ls : List (List ℕ)} {slot : ℕ} {l : List ℕ} → SoundWithSet st vs hs ls slot l → (ws : List ℕ)
    → length vs ≡ length ws → length l ≡ len_of ws hs slot → 0 < length l → Ready st ws hs slot (len_of ws hs slot - 1)
    → LeavesWithSet (last_removed st vs hs slot (handle_at hs slot) (len_of ws hs slot)) ls slot (take (length l - 1) l)
dropped {st} {vs} {hs} {slot = slot} L ws long k p r =
    let d = has_length L in
    let same : len_of vs hs slot ≡ len_of ws hs slot = sym d ∙ k in
    let again : Ready st vs hs slot (len_of vs hs slot - 1) = record { inside = r.inside; can = rw (long, same) r.can } in
    rw (← same, last_resized st vs hs slot (handle_at hs slot) (len_of vs hs slot) (omega arith), d) (fewer L (len_of vs hs slot - 1) again (omega arith))

module _ {st : ListPool} {ws hs : List ℕ} {ls : List (List ℕ)} (P : SoundWith st ws hs ls) where
  -- "empty"
  pub clear_holds : (slot : ℕ) → number_of (clear slot) st ws hs ≡ 0 → LeavesWith (done_of (clear slot) st ws hs) (set ls slot [])
  unfolding number_of done_of clear_done
  clear_holds slot e = (emptied (has slot P (entry_facts st.used ws hs slot e).inside)).holds

  -- "remove at"
  pub remove_holds : (slot p : ℕ) → number_of (remove slot p) st ws hs ≡ 0
      → LeavesWith (done_of (remove slot p) st ws hs) (set ls slot (remove_at p (list_at ls slot)))
  unfolding number_of done_of remove_done copied
  remove_holds slot p e =
      let (place, r) = remove_facts st ws hs slot p e in
      let before = place.before in
      let L = has slot P r.inside in
      let l = list_at ls slot in
      let n = has_length L in
      let vs = take (length l - (p + 1)) (drop (p + 1) l) in
      let k = length_take_drop l (p + 1) (length l - (p + 1)) (omega arith) in
      let long = length-sets l p vs in
      let D = dropped (written L p vs (omega arith)) ws (length-sets ws (handle_at hs slot + p) vs) (long ∙ n) (omega arith) r in
      let read : take (len_of ws hs slot - (p + 1)) (drop (handle_at hs slot + p + 1) ws) ≡ vs =
      rw (← n, add_assoc (handle_at hs slot) p 1) (has_part L (p + 1) (length l - (p + 1)) (omega arith)) in
      rw (read, ← (take_shift l p (omega arith))) (rw long at D.holds)

  -- "swap with the last and drop"
  pub swap_remove_holds : (slot p : ℕ) → number_of (swap_remove slot p) st ws hs ≡ 0
      → LeavesWith (done_of (swap_remove slot p) st ws hs) (set ls slot (swap_remove_at p (list_at ls slot)))
  unfolding number_of done_of swap_remove_done swap_remove_at
  swap_remove_holds slot p e =
      let (place, r) = remove_facts st ws hs slot p e in
      let before = place.before in
      let L = has slot P r.inside in
      let l = list_at ls slot in
      let h = handle_at hs slot in
      let n = has_length L in
      let x = get_or ws (h + (len_of ws hs slot - 1)) 0 in
      let y = get_or ws (h + p) 0 in
      let W = written (written L p (x ∷ []) (omega arith)) (length l - 1) (y ∷ []) (rw length-set (omega arith)) in
      let long : length (set (set l p x) (length l - 1) y) ≡ length l = simp length-set in
      let D = dropped W ws (simp length-set) (long ∙ n) (omega arith) r in
      let last : x ≡ get_or l (length l - 1) 0 = rw (← n) (has_at L (length l - 1) (omega arith)) in
      rw (← last, ← (take-set-le (length l - 1) (set l p x) (length l - 1) y (omega arith)), n) (rw (long, n) at D.holds)

  -- "take the first n"
  pub truncate_holds : (slot new : ℕ) → number_of (truncate slot new) st ws hs ≡ 0
      → LeavesWith (done_of (truncate slot new) st ws hs) (set ls slot (take new (list_at ls slot)))
  unfolding number_of done_of
  truncate_holds slot new e = (go (dec_lt new (len_of ws hs slot))).holds
    where
      r : Ready st ws hs slot (min (len_of ws hs slot) new)
      r = truncate_facts st ws hs slot new e

      L : SoundWithSet st ws hs ls slot (list_at ls slot)
      L = has slot P r.inside

      go : Dec (new < len_of ws hs slot) → LeavesWithSet (truncate_done st ws hs slot new) ls slot (take new (list_at ls slot))
      go (yes less) =
          let m : min (len_of ws hs slot) new ≡ new = omega arith in
          rw (truncate_resized st ws hs slot new less) (fewer L new (rw m at r) (omega (arith, has_length L)))
      go (no most) =
          rw (truncate_none (length ws) st ws hs slot new r.can.list (omega arith), take_all new (list_at ls slot) (omega (arith, has_length L))) L
