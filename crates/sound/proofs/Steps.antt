-- What the inner steps do to a pool in the middle of a call: `alloc`, `free`, `realloc`, and the move of a list to the block of another length.
use Rattle.std.specs.Prelude.{◌≡◌, Bool, true, false, cond, List, [], ◌∷◌, ◌⊎◌, ℕ, ◌+◌, ◌-◌, ◌≤◌, ◌<◌, min, set, take, drop, replicate, eqb}
use Rattle.std.proofs.Math.Path.{refl}
use Rattle.std.proofs.Common.{ap, ◌∙◌, inl, inr, eq-zero-or-pos, add-one, arith, eq-eqb, ne_eqb, get_or-set_other}
use Rattle.std.proofs.Math.Decide.{dec_lt}
use Rattle.std.proofs.Math.ListN.{length, get_or, length-set, length-replicate}
use Rattle.std.proofs.lemmas.List.Edits.{sets}
use Rattle.std.proofs.Math.Seq.{length-sets, get_or-set_same}
use Rattle.words.specs.Runs.{filled, copied}
use Rattle.words.specs.RunLaws.{get_or_sets_below, get_or_sets_above, length_take_drop, get_or_copied_within, length_copied, length_filled}
use Rattle.sizes.specs.Class.{class_count, class_of, size_of}
use Rattle.sizes.proofs.Laws.{size_least}
use Rattle.pool.specs.declared.ListPool.{ListPool}
use Rattle.pool.specs.Numbers.{head_of, needs_block}
use Rattle.pool.specs.Blocks.{MAX, Taken, Freed, recycled, fresh, alloc, free, realloc, moved}
use Rattle.pool.specs.Steps.{CanAlloc, CanRealloc, CanResize}
use Rattle.pool.proofs.StepLaws.{can_realloc}
use Rattle.pool.proofs.Facts.{stays}
use Rattle.sound.specs.Sound.{over, lists}
use Rattle.sound.proofs.Sums.{over_in, over_part}
use Rattle.sound.proofs.SoundBut.{Span, span, span_over, SoundBut, held_write, run_ext}
use Rattle.sound.proofs.HandOver.{held_pop, held_link, held_grow, held_swap, held_apart}

-- a run of stores leaves the words outside of it
pub get_or_sets_other : (ws : List ℕ) (at : ℕ) (vs : List ℕ) (i : ℕ) → over at (length vs) i ≡ 0 → get_or (sets ws at vs) i 0 ≡ get_or ws i 0
get_or_sets_other ws at vs i h = go (dec_lt i at) (dec_lt i (at + length vs))
  where
    go : Dec (i < at) → Dec (i < at + length vs) → get_or (sets ws at vs) i 0 ≡ get_or ws i 0
    go (yes p) d = get_or_sets_below ws at vs i p
    go (no p) (no q) = get_or_sets_above ws at vs i (omega arith)
    go (no p) (yes q) = absurd (omega (arith, over_in at (length vs) i (omega arith) q))

get_or_copied_above : (ws : List ℕ) (from to n i : ℕ) → from + n ≤ length ws → to + n ≤ i → get_or (copied ws from to n) i 0 ≡ get_or ws i 0
unfolding copied
get_or_copied_above ws from to n i h l = get_or_sets_above ws to (take n (drop from ws)) i (rw length_take_drop l)

-- a run of stores inside the first block that is held
held_sets : {st : ListPool} {ws hs : List ℕ} {xs : List Span} (b s at : ℕ) (vs : List ℕ) → SoundBut st ws hs (span b s ∷ xs) → b ≤ at → at + length vs ≤ b + s
    → SoundBut st (sets ws at vs) hs (span b s ∷ xs) × (lists (sets ws at vs) hs ≡ lists ws hs)
unfolding span_over
held_sets {ws = ws} b s at vs H p q =
    held_write H (sets ws at vs) (length-sets ws at vs)
    (λ i l x. get_or_sets_other ws at vs i (over_part b s at (length vs) i (omega arith) p q))

-- a step took the block t, of the class c, and left all lists as they were; blocks xs are held besides
pub record Took (ws hs : List ℕ) (t : Taken) (c : ℕ) (xs : List Span) : Type 0 where
  pub held : SoundBut t.state t.words hs (span t.block (size_of c) ∷ xs)
  pub same : lists t.words hs ≡ lists ws hs
  pub long : length t.words ≡ length ws

-- a step freed the block b of the class c, left all lists as they were and each word outside of it
pub record Gave (ws hs : List ℕ) (f : Freed) (b c : ℕ) (xs : List Span) : Type 0 where
  pub held : SoundBut f.state f.words hs xs
  pub same : lists f.words hs ≡ lists ws hs
  pub long : length f.words ≡ length ws
  pub rest : (i : ℕ) → over b (size_of c) i ≡ 0 → get_or f.words i 0 ≡ get_or ws i 0

module _ {st : ListPool} {ws hs : List ℕ} where
  -- words copied to the start of the first block that is held
  held_copied : {xs : List Span} {s : ℕ} (from b n : ℕ) → SoundBut st ws hs (span b s ∷ xs) → n ≤ s → from + n ≤ length ws
      → SoundBut st (copied ws from b n) hs (span b s ∷ xs) × (lists (copied ws from b n) hs ≡ lists ws hs)
  unfolding copied
  held_copied {s = s} from b n H l r =
      held_sets b s b (take n (drop from ws)) H (omega arith) (omega (arith, length_take_drop ws from n r))

  -- the used words stay as they were
  pub alloc_took : {xs : List Span} (c : ℕ) → SoundBut st ws hs xs → CanAlloc st (length ws) c
      → Took ws hs (alloc st ws c) c xs × ((i : ℕ) → i < st.used → get_or (alloc st ws c).words i 0 ≡ get_or ws i 0)
  unfolding alloc recycled fresh filled
  alloc_took {xs} c H can = go (eq-zero-or-pos (head_of st c))
    where
      go : (head_of st c ≡ 0) ⊎ (0 < head_of st c)
          → Took ws hs (cond (eqb (head_of st c) 0) (fresh st ws c) (recycled st ws c)) c xs
          × ((i : ℕ) → i < st.used → get_or (cond (eqb (head_of st c) 0) (fresh st ws c) (recycled st ws c)).words i 0 ≡ get_or ws i 0)
      go (inr p) =
          rw (ne_eqb (head_of st c) 0 (omega arith)) (record { held = held_pop c H can.class p; same = refl; long = refl }, λ i l. refl)
      go (inl z) =
          let G = held_grow c H (can.fresh z) in
          let n = length-replicate (size_of c) MAX in
          let W = held_sets st.used (size_of c) st.used (replicate (size_of c) MAX) G (omega arith) (omega arith) in
          rw (eq-eqb (head_of st c) 0 z) (
            record { held = W.0; same = W.1; long = length_filled ws st.used (size_of c) MAX },
            λ i l. get_or_sets_below ws st.used (replicate (size_of c) MAX) i l,
          )

  pub free_gave : {xs : List Span} (b c : ℕ) → SoundBut st ws hs (span b (size_of c) ∷ xs) → c < class_count → Gave ws hs (free st ws b c) b c xs
  unfolding free
  free_gave b c H l =
      let s = size_least c in
      let r : b + size_of c ≤ length ws = omega (arith, H.spans.1, H.within.below) in
      let W = rw (← (add-one b)) at (held_sets b (size_of c) b (0 ∷ head_of st c ∷ []) H (omega arith) (omega arith)) in
      record {
        held =
            held_link b c W.0 l
            (get_or-set_other (set ws b 0) (b + 1) b (head_of st c) 0 (omega arith) ∙ get_or-set_same ws b 0 0 (omega arith))
            (get_or-set_same (set ws b 0) (b + 1) (head_of st c) 0 (simp length-set (omega arith)));
        same = W.1;
        long = simp length-set;
        rest =
            λ i o. rw (add-one b) (get_or_sets_other ws b (0 ∷ head_of st c ∷ []) i (over_part b (size_of c) b 2 i o (omega arith) (omega arith)));
      }

module _ {st : ListPool} {ws hs : List ℕ} where
  -- the first n words of the new block are those of the old one, and the others are as they were when it was taken
  pub realloc_took : {xs : List Span} (b from to n : ℕ) → SoundBut st ws hs (span b (size_of from) ∷ xs) → CanRealloc st (length ws) b from to n
      → Took ws hs (realloc st ws b from to n) to xs
      × ((j : ℕ) → j < n → get_or (realloc st ws b from to n).words ((realloc st ws b from to n).block + j) 0 ≡ get_or ws (b + j) 0)
      × ((j : ℕ) → n ≤ j → j < size_of to
      → get_or (realloc st ws b from to n).words ((realloc st ws b from to n).block + j) 0
      ≡ get_or (alloc st ws to).words ((alloc st ws to).block + j) 0)
  unfolding realloc
  realloc_took {xs} b from to n H can = (
    record {
      held = F.held;
      same = F.same ∙ W.1 ∙ A.0.same;
      long = F.long ∙ length_copied a.words b a.block n ∙ A.0.long;
    },
    λ j l.
        apart j (omega (arith, can.fits))
        ∙ get_or_copied_within a.words b a.block n j l old new
        ∙ A.1 (b + j) (omega (arith, can.leaves, H.spans.1)),
    λ j l q. apart j q ∙ get_or_copied_above a.words b a.block n (a.block + j) old (omega arith),
  )
    where
      a : Taken
      a = alloc st ws to

      A : Took ws hs a to (span b (size_of from) ∷ xs) × ((i : ℕ) → i < st.used → get_or a.words i 0 ≡ get_or ws i 0)
      A = alloc_took to H can.new

      old : b + n ≤ length a.words
      old = omega (arith, can.leaves, can.old.whole, A.0.long)

      new : a.block + n ≤ length a.words
      new = omega (arith, can.fits, A.0.held.spans.1, A.0.held.within.below)

      vs : List ℕ
      vs = copied a.words b a.block n

      W : SoundBut a.state vs hs (span a.block (size_of to) ∷ span b (size_of from) ∷ xs) × (lists vs hs ≡ lists a.words hs)
      W = held_copied b a.block n A.0.held (omega (arith, can.fits)) old

      F : Gave vs hs (free a.state vs b from) b from (span a.block (size_of to) ∷ xs)
      F = free_gave b from (held_swap (span a.block (size_of to)) (span b (size_of from)) W.0) can.old.class

      -- no word of the new block is in the old one
      apart : (j : ℕ) → j < size_of to → get_or (free a.state vs b from).words (a.block + j) 0 ≡ get_or vs (a.block + j) 0
      apart j l =
          F.rest (a.block + j)
          (held_apart (span a.block (size_of to)) (span b (size_of from)) (a.block + j) W.0
          (omega (arith, over_in a.block (size_of to) (a.block + j) (omega arith) (omega arith))))

-- the block of a list of n elements at the handle h, if it has one
abbrev pub own : ℕ → ℕ → List Span
own h n = cond (eqb n 0) [] (span (h - 1) (size_of (class_of n)) ∷ [])

-- the list of the old length at h got the block t for the new one, in which the elements that both have are those it had
pub record Resized (ws hs : List ℕ) (h old new : ℕ) (t : Taken) : Type 0 where
  pub took : Took ws hs t (class_of new) []
  pub elements : take (min old new) (drop (t.block + 1) t.words) ≡ take (min old new) (drop h ws)

pub moved_resized : {st : ListPool} {ws hs : List ℕ} (h old new : ℕ) → SoundBut st ws hs (own h old) → CanResize st (length ws) h old new → 0 < new
    → Resized ws hs h old new (moved st ws h old new)
unfolding moved
moved_resized {st} {ws} {hs} h old new H can p = go (needs_block old new) refl
  where
    whole : 0 < old → SoundBut st ws hs (span (h - 1) (size_of (class_of old)) ∷ [])
    whole q = rw (ne_eqb old 0 (omega arith)) at H

    needed : needs_block old new ≡ true → (old ≡ 0) ⊎ (0 < old)
        → Resized ws hs h old new (cond (eqb old 0) (alloc st ws (class_of new)) (realloc st ws (h - 1) (class_of old) (class_of new) (min old new + 1)))
    needed e (inl z) =
        let none : min old new ≡ 0 = omega arith in
        let empty : SoundBut st ws hs [] = rw (eq-eqb old 0 z) at H in
        rw (eq-eqb old 0 z) (record { took = (alloc_took (class_of new) empty (can.room e)).0; elements = rw none refl })
    needed e (inr q) =
        let list = can.list in
        let r = realloc st ws (h - 1) (class_of old) (class_of new) (min old new + 1) in
        let C = can_realloc st (length ws) h old new can q e in
        let R = realloc_took (h - 1) (class_of old) (class_of new) (min old new + 1) (whole q) C in
        rw (ne_eqb old 0 (omega arith))
        (record {
          took = R.0;
          elements =
              run_ext r.words ws (r.block + 1) h (min old new)
              (omega (arith, C.fits, R.0.held.spans.1, R.0.held.within.below)) (omega arith)
              (λ j l.
              ap (λ (k : ℕ). get_or r.words k 0) (omega arith)
              ∙ R.1 (j + 1) (omega arith)
              ∙ ap (λ (k : ℕ). get_or ws k 0) (omega (arith, list.some q)));
        })

    go : (t : Bool) → needs_block old new ≡ t
        → Resized ws hs h old new (cond t
        (cond (eqb old 0) (alloc st ws (class_of new)) (realloc st ws (h - 1) (class_of old) (class_of new) (min old new + 1)))
        (record { block = h - 1; state = st; words = ws }))
    go true e = needed e (eq-zero-or-pos old)
    go false e =
        let s = stays old new p e in
        let back : h - 1 + 1 ≡ h = omega (arith, can.list.some s.some) in
        record {
          took = record { held = rw s.class at (whole s.some); same = refl; long = refl };
          elements = rw back refl;
        }
