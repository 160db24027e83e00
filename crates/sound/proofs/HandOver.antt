-- The five ways in which a block is handed over between the table, the chains, the unused words and the call that holds it.
use Rattle.std.specs.Prelude.{◌≡◌, true}
use Rattle.std.proofs.Math.Path.{refl, ap}
use mathlib.Core.List.{List, [], ◌∷◌}
use Prim.Native.Nat.{ℕ, zero, suc, ◌+◌, ◌-◌, ◌≤◌, ◌<◌}
use Rattle.std.proofs.Math.Nat.{add-sub_cancel}
use Rattle.std.proofs.Common.{zero-add, get_or-set_same, get_or-set_other}
use native.Mathlib.Omega.{arith}
use Rattle.std.proofs.Math.Decide.{ℕ_discrete}
use Rattle.std.proofs.Math.ListN.{length, get_or, set, length-set}
use Rattle.sizes.specs.Class.{class_count, class_of, size_of}
use Rattle.sizes.proofs.Laws.{size_least, size_fours}
use Rattle.pool.specs.declared.ListPool.{ListPool}
use Rattle.pool.specs.Numbers.{state_of, head_of, handle_at, sound_handle}
use Rattle.pool.specs.Facts.{Within}
use Rattle.pool.proofs.Facts.{handle_facts, head_facts}
use Rattle.sound.specs.Sound.{sum, over, live_over, free_over, Chain}
use Rattle.sound.proofs.Sums.{over_le, over_add, sum_set}
use Rattle.sound.proofs.SoundBut.{Span, span, span_over, Spans, SoundBut, handle_sound, head_sound, live_none, live_some, handle_frame, chain_frame}

-- what holds of every place of a list holds of it after one is set; and of two lists
set_all : (P : ℕ → Type 0) (l : List ℕ) (k a : ℕ) → P a → ((j : ℕ) → P (get_or l j 0)) → (j : ℕ) → P (get_or (set l k a) j 0)
set_all P [] k a p h j = h j
set_all P (x ∷ l) zero a p h zero = p
set_all P (x ∷ l) zero a p h (suc j) = h (suc j)
set_all P (x ∷ l) (suc k) a p h zero = h 0
set_all P (x ∷ l) (suc k) a p h (suc j) = set_all P l k a p (λ j. h (suc j)) j

set_both : (P : ℕ → ℕ → List ℕ → Type 0) (l : List ℕ) (m : List (List ℕ)) (c a : ℕ) (b : List ℕ) → c < length l → c < length m
    → P c a b → ((j : ℕ) → P j (get_or l j 0) (get_or m j [])) → (j : ℕ) → P j (get_or (set l c a) j 0) (get_or (set m c b) j [])
set_both P l m c a b hl hm p h j = go (ℕ_discrete j c)
  where
    go : Dec (j ≡ c) → P j (get_or (set l c a) j 0) (get_or (set m c b) j [])
    go (yes e) = rw (e, get_or-set_same l c a 0 hl, get_or-set_same m c b [] hm) p
    go (no q) = rw (get_or-set_other l c j a 0 q, get_or-set_other m c j b [] q) (h j)

-- the limits after a handle is set
within_set : {used p : ℕ} (hs : List ℕ) (slot a : ℕ) → Within used p (length hs) → Within used p (length (set hs slot a))
within_set hs slot a w = rw length-set w

module _ {st : ListPool} {ws hs : List ℕ} {xs : List Span} where
  -- the block of a slot goes to the call
  pub held_out : (slot : ℕ) → SoundBut st ws hs xs → slot < length hs → 0 < handle_at hs slot
      → SoundBut st ws (set hs slot 0) (span (handle_at hs slot - 1) (size_of (class_of (get_or ws (handle_at hs slot - 1) 0))) ∷ xs)
  unfolding span_over sound_handle
  held_out slot H l p =
      let f = handle_facts st.used ws (handle_at hs slot) (H.handles slot) p in
      record {
        within = within_set hs slot 0 H.within;
        frees = H.frees;
        heads = H.heads;
        classes = H.classes;
        handles = set_all (λ h. sound_handle st.used ws h ≡ true) hs slot 0 refl H.handles;
        chains = H.chains;
        spans = (omega arith, f.ends, H.spans);
        once =
            λ i. omega (arith, H.once i, sum_set (λ slot h. live_over ws i h) hs slot 0 0 l, live_none ws i, live_some ws i (handle_at hs slot) p);
      }

  -- a held block goes to an empty slot
  pub held_in : (slot b s : ℕ) → SoundBut st ws hs (span b s ∷ xs) → slot < length hs → handle_at hs slot ≡ 0
      → 1 ≤ get_or ws b 0 → size_of (class_of (get_or ws b 0)) ≡ s
      → SoundBut st ws (set hs slot (b + 1)) xs
  unfolding span_over
  held_in slot b s H l e n q =
      let back : b + 1 - 1 ≡ b = add-sub_cancel b 1 in
      let fits = H.spans.1 in
      let least = size_least (class_of (get_or ws b 0)) in
      record {
        within = within_set hs slot (b + 1) H.within;
        frees = H.frees;
        heads = H.heads;
        classes = H.classes;
        handles =
            set_all (λ h. sound_handle st.used ws h ≡ true) hs slot (b + 1)
            (handle_sound st.used ws (b + 1)
            (record { one = omega (arith, H.spans.0); below = omega arith; some = rw back n; ends = rw (back, q) fits }))
            H.handles;
        chains = H.chains;
        spans = H.spans.2;
        once =
            λ i.
            let new : live_over ws i (b + 1) ≡ over b s i = rw (back, q) at (live_some ws i (b + 1) (omega arith)) in
            omega (arith, H.once i, sum_set (λ slot h. live_over ws i h) hs slot (b + 1) 0 l, ap (live_over ws i) e, live_none ws i);
      }

  -- the first block of a chain goes to the call
  pub held_pop : (c : ℕ) → SoundBut st ws hs xs → c < class_count → 0 < head_of st c
      → SoundBut (state_of st.used (set st.heads c (get_or ws (head_of st c) 0))) ws hs (span (head_of st c - 1) (size_of c) ∷ xs)
  unfolding free_over sum span_over
  held_pop c H l p = go (get_or H.frees c []) refl (H.chains c)
    where
      go : (bs : List ℕ) → get_or H.frees c [] ≡ bs → Chain st.used ws c (head_of st c) bs
          → SoundBut (state_of st.used (set st.heads c (get_or ws (head_of st c) 0))) ws hs (span (head_of st c - 1) (size_of c) ∷ xs)
      go [] e C = absurd (omega arith)
      go (b ∷ bs) e C =
          let f = head_facts st.used ws c (head_of st c) C.1 p in
          let first : head_of st c - 1 ≡ b = omega (arith, C.0) in
          let d : c < length H.frees = omega (arith, H.classes) in
          record {
            within = H.within;
            frees = set H.frees c bs;
            heads = simp length-set H.heads;
            classes = simp length-set H.classes;
            handles = H.handles;
            chains = set_both (Chain st.used ws) st.heads H.frees c (get_or ws (head_of st c) 0) bs (omega (arith, H.heads)) d C.2 H.chains;
            spans = (omega arith, f.ends, H.spans);
            once =
                λ i.
                let had : free_over i c (get_or H.frees c []) ≡ free_over i c (b ∷ bs) = ap (free_over i c) e in
                let s : over (head_of st c - 1) (size_of c) i ≡ over b (size_of c) i = ap (λ (k : ℕ). over k (size_of c) i) first in
                omega (arith, H.once i, sum_set (free_over i) H.frees c bs [] d);
          }

  -- a held block goes to the front of its class's chain
  pub held_link : (b c : ℕ) → SoundBut st ws hs (span b (size_of c) ∷ xs) → c < class_count → get_or ws b 0 ≡ 0 → get_or ws (b + 1) 0 ≡ head_of st c
      → SoundBut (state_of st.used (set st.heads c (b + 1))) ws hs xs
  unfolding free_over sum span_over
  held_link b c H l z n =
      let back : b + 1 - 1 ≡ b = add-sub_cancel b 1 in
      let fits = H.spans.1 in
      let d : c < length H.frees = omega (arith, H.classes) in
      record {
        within = H.within;
        frees = set H.frees c (b ∷ get_or H.frees c []);
        heads = simp length-set H.heads;
        classes = simp length-set H.classes;
        handles = H.handles;
        chains =
            set_both (Chain st.used ws) st.heads H.frees c (b + 1) (b ∷ get_or H.frees c []) (omega (arith, H.heads)) d (
              refl,
              head_sound st.used ws c (b + 1) (record { one = omega (arith, H.spans.0); ends = omega arith; zero = rw back z }),
              rw n (H.chains c),
            )
            H.chains;
        spans = H.spans.2;
        once = λ i. omega (arith, H.once i, sum_set (free_over i) H.frees c (b ∷ get_or H.frees c []) [] d);
      }

  -- unused words, as many as a block of the class c has, go to the call
  pub held_grow : (c : ℕ) → SoundBut st ws hs xs → st.used + size_of c ≤ length ws
      → SoundBut (state_of (st.used + size_of c) st.heads) ws hs (span st.used (size_of c) ∷ xs)
  unfolding span_over
  held_grow c H r =
      record {
        within =
            record {
              pool_within = H.within.pool_within;
              table_within = H.within.table_within;
              below = r;
              fours = omega (arith, size_fours c, H.within.fours);
            };
        frees = H.frees;
        heads = H.heads;
        classes = H.classes;
        handles = λ slot. handle_frame ws ws (handle_at hs slot) (λ i p. refl) st.used (st.used + size_of c) (omega arith) (H.handles slot);
        chains =
            λ k. chain_frame ws ws st.used (st.used + size_of c) k (head_of st k) (get_or H.frees k []) (omega arith) (H.chains k) (λ i p. refl);
        spans = (H.within.fours, omega arith, more xs H.spans);
        once = λ i. omega (arith, H.once i, over_add 0 st.used (size_of c) i, ap (λ (b : ℕ). over b (size_of c) i) (zero-add st.used));
      }
    where
      more : (ys : List Span) → Spans st.used ys → Spans (st.used + size_of c) ys
      more [] o = tt
      more (y ∷ ys) o = (o.0, omega arith, more ys o.2)

  -- the blocks that are held change places; and have no word in common
  pub held_swap : (x y : Span) → SoundBut st ws hs (x ∷ y ∷ xs) → SoundBut st ws hs (y ∷ x ∷ xs)
  unfolding span_over
  held_swap x y H =
      record {
        within = H.within;
        frees = H.frees;
        heads = H.heads;
        classes = H.classes;
        handles = H.handles;
        chains = H.chains;
        spans = (H.spans.2.0, H.spans.2.1, (H.spans.0, H.spans.1, H.spans.2.2));
        once = λ i. omega (arith, H.once i);
      }

  pub held_apart : (x y : Span) (i : ℕ) → SoundBut st ws hs (x ∷ y ∷ xs) → 1 ≤ over x.start x.size i → over y.start y.size i ≡ 0
  unfolding span_over
  held_apart x y i H h = omega (arith, H.once i, over_le 0 st.used i)
