-- What stands behind a list once it is grown, in terms of the words at entry: `grow_at` keeps it in the places that it opens.
use Rattle.std.specs.Prelude.{◌≡◌, Bool, true, false, List, [], ◌∷◌, ◌⊎◌, length, drop, replicate, eqb}
use Rattle.std.proofs.Math.Path.{refl, sym, ap}
use Rattle.std.proofs.Common.{◌∙◌, true≢false, inl, inr, ⊎_elim, eq-zero-or-pos}
use Rattle.std.proofs.Math.Bool.{cond}
use Prim.Native.Nat.{ℕ, ◌+◌, ◌-◌, ◌≤◌, ◌<◌, min}
use native.Mathlib.Omega.{arith}
use borrow.Author.Tests.{eq-eqb, ne_eqb, eqb-true, eqb-false}
use Rattle.std.proofs.Math.ListN.{get_or, take, length-replicate, get_or-replicate}
use Rattle.std.proofs.Math.Seq.{get_or-set_same, drop-set-lt, take_all}
use Rattle.words.specs.Runs.{filled}
use Rattle.words.specs.RunLaws.{get_or_filled_within, length_filled}
use Rattle.sizes.specs.Class.{class_of, size_of}
use Rattle.sizes.proofs.Laws.{class_fits}
use Rattle.pool.specs.declared.ListPool.{ListPool}
use Rattle.pool.specs.Numbers.{head_of, handle_at, needs_block}
use Rattle.pool.specs.Blocks.{MAX, Taken, recycled, fresh, alloc, realloc, moved}
use Rattle.pool.specs.Rules.{len_of, grown}
use Rattle.pool.specs.Steps.{CanAlloc, CanResize, Ready}
use Rattle.pool.proofs.StepLaws.{can_realloc}
use Rattle.pool.proofs.Facts.{stays}
use Rattle.sound.specs.Sound.{SoundWith}
use Rattle.sound.proofs.SoundBut.{span, SoundBut, run_ext}
use Rattle.sound.proofs.Steps.{own, alloc_took, realloc_took, moved_resized}
use Rattle.sound.proofs.Changes.{out}
use Rattle.sound.specs.ListEffects.{behind}

needs_some : (old new : ℕ) → needs_block old new ≡ true → 0 < new
unfolding needs_block
needs_some old new e = ⊎_elim (λ z. absurd (true≢false (sym (rw z at e)))) (λ p. p) (eq-zero-or-pos new)

module _ {st : ListPool} {ws hs : List ℕ} (h old new : ℕ) (H : SoundBut st ws hs (own h old)) (can : CanResize st (length ws) h old new)
    (e : needs_block old new ≡ true) (up : old ≤ new) where
  abbrev got : Taken
  got = alloc st ws (class_of new)

  abbrev to : Taken
  to = moved st ws h old new

  -- a longer list that needs a block gets one that is taken, and behind the list its words are as they were then
  word_behind : (to.block ≡ got.block)
      × ((j : ℕ) → old < j → j < size_of (class_of new) → get_or to.words (to.block + j) 0 ≡ get_or got.words (got.block + j) 0)
  unfolding moved realloc
  word_behind = rw e (go (eq-zero-or-pos old))
    where
      m : Taken
      m = cond (eqb old 0) got (realloc st ws (h - 1) (class_of old) (class_of new) (min old new + 1))

      go : (old ≡ 0) ⊎ (0 < old) → (m.block ≡ got.block)
          × ((j : ℕ) → old < j → j < size_of (class_of new) → get_or m.words (m.block + j) 0 ≡ get_or got.words (got.block + j) 0)
      go (inl z) = rw (eq-eqb old 0 z) (refl, λ j p q. refl)
      go (inr p) =
          let K : SoundBut st ws hs (span (h - 1) (size_of (class_of old)) ∷ []) = rw (ne_eqb old 0 (omega arith)) at H in
          rw (ne_eqb old 0 (omega arith)) (
            refl,
            λ j l q.
                (realloc_took (h - 1) (class_of old) (class_of new) (min old new + 1) K (can_realloc st (length ws) h old new can p e)).2 j (omega arith) q,
          )

  run_behind : (count : ℕ) → old + count ≤ new → take count (drop (to.block + 1 + old) to.words) ≡ take count (drop (got.block + 1 + old) got.words)
  run_behind count l =
      let (at, word) = word_behind in
      let T = (moved_resized h old new H can (needs_some old new e)).took in
      let long = (alloc_took (class_of new) H (can.room e)).0.long in
      let fits = class_fits new (omega (arith, can.most)) in
      let room : to.block + size_of (class_of new) ≤ length ws = omega (arith, T.held.spans.1, T.held.within.below, T.long) in
      run_ext to.words got.words (to.block + 1 + old) (got.block + 1 + old) count (omega (arith, T.long)) (omega arith)
      (λ j q.
      ap (λ (i : ℕ). get_or to.words i 0) (omega arith)
      ∙ word (1 + old + j) (omega arith) (omega arith)
      ∙ ap (λ (i : ℕ). get_or got.words i 0) (omega arith))

-- the words of a block that was taken: of a chain's block as they were, of a fresh one MAX
module _ (st : ListPool) (ws : List ℕ) (c : ℕ) (can : CanAlloc st (length ws) c) (n count : ℕ) where
  recycled_behind : eqb (head_of st c) 0 ≡ false
      → take count (drop ((alloc st ws c).block + 1 + n) (alloc st ws c).words) ≡ take count (drop (head_of st c + n) ws)
  unfolding alloc recycled
  recycled_behind e =
      let some : (head_of st c ≡ 0) → ⊥ = eqb-false _ _ e in
      let back : head_of st c - 1 + 1 + n ≡ head_of st c + n = omega arith in
      rw (e, back) refl

  fresh_behind : eqb (head_of st c) 0 ≡ true → n + 1 + count ≤ size_of c
      → take count (drop ((alloc st ws c).block + 1 + n) (alloc st ws c).words) ≡ replicate count MAX
  unfolding alloc fresh
  fresh_behind e l =
      let room = can.fresh (eqb-true _ _ e) in
      let long = length_filled ws st.used (size_of c) MAX in
      let k = length-replicate count MAX in
      rw e
      (run_ext (filled ws st.used (size_of c) MAX) (replicate count MAX) (st.used + 1 + n) 0 count (omega arith) (omega arith)
      (λ j q.
      ap (λ (i : ℕ). get_or (filled ws st.used (size_of c) MAX) i 0) (omega arith)
      ∙ get_or_filled_within ws st.used (size_of c) MAX (1 + n + j) (omega arith) room
      ∙ sym (ap (λ (i : ℕ). get_or (replicate count MAX) i 0) (omega arith) ∙ get_or-replicate count j MAX 0 q))
      ∙ take_all count (replicate count MAX) (omega arith))

module _ {st : ListPool} {ws hs : List ℕ} {ls : List (List ℕ)} (P : SoundWith st ws hs ls)
    (slot count : ℕ) (r : Ready st ws hs slot (len_of ws hs slot + count)) where
  abbrev old : ℕ
  old = len_of ws hs slot

  abbrev block : Taken
  block = moved st ws (handle_at hs slot) old (old + count)

  -- the words behind a list that has grown
  abbrev found : List ℕ
  found = take count (drop (handle_at (grown st ws hs slot count).handles slot + old) (grown st ws hs slot count).words)

  -- they are those of its block
  found_in : 0 < old + count → found ≡ take count (drop (block.block + 1 + old) block.words)
  unfolding grown
  found_in p =
      let at = get_or-set_same hs slot (block.block + 1) 0 r.inside in
      let rest = drop-set-lt (block.block + 1 + old) block.words block.block (old + count) (omega arith) in
      rw (ne_eqb (old + count) 0 (omega arith), at, rest) refl

  found_own : needs_block old (old + count) ≡ false → found ≡ take count (drop (handle_at hs slot + old) ws)
  unfolding grown moved
  found_own e = go (eq-zero-or-pos (old + count))
    where
      go : (old + count ≡ 0) ⊎ (0 < old + count) → found ≡ take count (drop (handle_at hs slot + old) ws)
      go (inl z) = rw (eq-eqb (old + count) 0 z) refl
      go (inr p) =
          let s = stays old (old + count) p e in
          let back : handle_at hs slot - 1 + 1 ≡ handle_at hs slot = omega (arith, r.can.list.some s.some) in
          found_in p ∙ rw (e, back) refl

  -- what stands behind it is what `behind` of ListEffects says
  pub behind_is : found ≡ behind st ws hs slot count
  unfolding behind
  behind_is = go (needs_block old (old + count)) refl (eqb (head_of st c) 0) refl
    where
      c : ℕ
      c = class_of (old + count)

      in_new : needs_block old (old + count) ≡ true → found ≡ take count (drop ((alloc st ws c).block + 1 + old) (alloc st ws c).words)
      in_new e =
          found_in (needs_some old (old + count) e)
          ∙ run_behind (handle_at hs slot) old (old + count) (out P slot r.inside) r.can e (omega arith) count (omega arith)

      go : (t : Bool) → needs_block old (old + count) ≡ t → (u : Bool) → eqb (head_of st c) 0 ≡ u
          → found ≡ cond t (cond u (replicate count MAX) (take count (drop (head_of st c + old) ws))) (take count (drop (handle_at hs slot + old) ws))
      go true e true z = in_new e ∙ fresh_behind st ws c (r.can.room e) old count z (omega (arith, class_fits (old + count) (omega (arith, r.can.most))))
      go true e false z = in_new e ∙ recycled_behind st ws c (r.can.room e) old count z
      go false e u z = found_own e
