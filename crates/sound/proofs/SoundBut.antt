-- A pool in the middle of a call: sound, but for blocks that neither the table nor a chain has, which the call holds.
-- And the frame: what is written inside held blocks changes no list and leaves the rest of the pool as it is.
use Rattle.std.specs.Prelude.{◌≡◌, refl, Bool, ◌&&◌, ◌⊎◌, ℕ, suc, ◌+◌, ◌-◌, ◌%◌, ◌≤◌, ◌<◌, drop}
use Rattle.std.proofs.Common.{sym, ◌∙◌, inl, inr, eq-zero-or-pos, arith, eq-eqb, ne_eqb, lt-ltb, le-leb, ext_get_or}
use Rattle.std.proofs.Math.Path.{ap}
use Rattle.std.proofs.Math.Bool.{true, and-eq-true_iff}
use mathlib.Core.List.{List, [], ◌∷◌, map}
use Rattle.std.proofs.Math.Decide.{dec_lt}
use Rattle.std.proofs.Math.ListN.{length, get_or, take, get_or-eq_default}
use Rattle.words.specs.RunLaws.{length_take_drop, get_or_take_drop}
use Rattle.sizes.specs.Class.{class_count, class_of, size_of}
use Rattle.sizes.proofs.Laws.{size_least, class_holds}
use Rattle.pool.specs.declared.ListPool.{ListPool}
use Rattle.pool.specs.Numbers.{pool_limit, head_of, handle_at, length_at, sound_handle, sound_head}
use Rattle.pool.specs.Facts.{Within, Live, Head}
use Rattle.pool.proofs.Facts.{handle_facts, head_facts}
use Rattle.sound.specs.Sound.{sum, over, live_over, free_over, Chain, Sound, list_of, lists}
use Rattle.sound.proofs.Sums.{over_in, over_pos, over_le, sum_ge, sum_cong}

-- a block that a call holds
pub record Span : Type 0 where
  pub start : ℕ
  pub size : ℕ

abbrev pub span : ℕ → ℕ → Span
span b s = record { start = b; size = s }

unfoldable pub span_over : ℕ → List Span → ℕ
span_over i [] = 0
span_over i (x ∷ xs) = over x.start x.size i + span_over i xs

abbrev pub Spans : ℕ → List Span → Type 0
Spans used [] = Unit {0}
Spans used (x ∷ xs) = (x.start % 4 ≡ 0) × (x.start + x.size ≤ used) × Spans used xs

-- a pool within the limits that is sound but for the blocks xs
pub record SoundBut (st : ListPool) (ws hs : List ℕ) (xs : List Span) : Type 0 where
  pub within : Within st.used (length ws) (length hs)
  pub frees : List (List ℕ)
  pub heads : length st.heads ≡ class_count
  pub classes : length frees ≡ class_count
  pub handles : (slot : ℕ) → sound_handle st.used ws (handle_at hs slot) ≡ true
  pub chains : (c : ℕ) → Chain st.used ws c (head_of st c) (get_or frees c [])
  pub spans : Spans st.used xs
  pub once : (i : ℕ) → sum (λ slot h. live_over ws i h) hs + sum (free_over i) frees + span_over i xs ≡ over 0 st.used i

-- a sound pool is one where nothing is held
pub held_sound : {st : ListPool} {ws hs : List ℕ} → Within st.used (length ws) (length hs) → Sound st ws hs → SoundBut st ws hs []
unfolding span_over
held_sound w (fs, s) =
    record {
      within = w;
      frees = fs;
      heads = s.heads;
      classes = s.classes;
      handles = s.handles;
      chains = s.chains;
      spans = tt;
      once = λ i. omega (arith, s.once i);
    }

pub sound_held : {st : ListPool} {ws hs : List ℕ} → SoundBut st ws hs [] → Sound st ws hs
unfolding span_over
sound_held H = (
  H.frees,
  record {
    heads = H.heads;
    classes = H.classes;
    handles = H.handles;
    chains = H.chains;
    once = λ i. omega (arith, H.once i);
  },
)

-- LOCAL SOUNDNESS from its facts

and_true : {a b : Bool} → a ≡ true → b ≡ true → (a && b) ≡ true
and_true {a} {b} p q = (and-eq-true_iff a b).1 (p, q)

pub handle_sound : (used : ℕ) (ws : List ℕ) (h : ℕ) → Live used ws h → sound_handle used ws h ≡ true
unfolding sound_handle
handle_sound used ws h f =
    rw (ne_eqb h 0 (omega arith))
    (and_true (and_true (and_true (eq-eqb _ _ f.one) (lt-ltb _ _ f.below)) (le-leb _ _ f.some)) (le-leb _ _ f.ends))

pub head_sound : (used : ℕ) (ws : List ℕ) (c h : ℕ) → Head used ws c h → sound_head used ws c h ≡ true
unfolding sound_head
head_sound used ws c h f =
    rw (ne_eqb h 0 (omega arith)) (and_true (and_true (eq-eqb _ _ f.one) (le-leb _ _ f.ends)) (eq-eqb _ _ f.zero))

-- THE BLOCK OF A HANDLE

pub live_none : (ws : List ℕ) (i : ℕ) → live_over ws i 0 ≡ 0
unfolding live_over
live_none ws i = refl

pub live_some : (ws : List ℕ) (i h : ℕ) → 0 < h → live_over ws i h ≡ over (h - 1) (size_of (class_of (get_or ws (h - 1) 0))) i
unfolding live_over
live_some ws i h p = rw (ne_eqb h 0 (omega arith))

-- a handle that is not 0 stands in a slot of the table
pub handle_inside : (hs : List ℕ) (slot : ℕ) → 0 < handle_at hs slot → slot < length hs
handle_inside hs slot p = go (dec_lt slot (length hs))
  where
    go : Dec (slot < length hs) → slot < length hs
    go (yes l) = l
    go (no q) = absurd (omega (arith, get_or-eq_default hs 0 {n = slot} (omega arith)))

pub length_none : (ws : List ℕ) → length_at ws 0 ≡ 0
unfolding length_at
length_none ws = refl

pub length_some : (ws : List ℕ) (h : ℕ) → 0 < h → length_at ws h ≡ get_or ws (h - 1) 0
unfolding length_at
length_some ws h p = rw (ne_eqb h 0 (omega arith))

-- n words are the same from a on in ws as from b on in vs
pub run_ext : (ws vs : List ℕ) (a b n : ℕ) → a + n ≤ length ws → b + n ≤ length vs
    → ((j : ℕ) → j < n → get_or ws (a + j) 0 ≡ get_or vs (b + j) 0) → take n (drop a ws) ≡ take n (drop b vs)
run_ext ws vs a b n p q h =
    let e = length_take_drop ws a n p in
    ext_get_or 0 (take n (drop a ws)) (take n (drop b vs)) (e ∙ sym (length_take_drop vs b n q))
    (λ i l. get_or_take_drop ws a n i (omega arith) ∙ h i (omega arith) ∙ sym (get_or_take_drop vs b n i (omega arith)))

-- What is known of a handle's block goes over to words vs that are the same on that block.
module _ (ws vs : List ℕ) (h : ℕ) (same : (i : ℕ) → 1 ≤ live_over ws i h → get_or vs i 0 ≡ get_or ws i 0) where
  live_word : 0 < h → (i : ℕ) → h - 1 ≤ i → i < h - 1 + size_of (class_of (get_or ws (h - 1) 0)) → get_or vs i 0 ≡ get_or ws i 0
  live_word p i l r = same i (omega (arith, live_some ws i h p, over_in (h - 1) (size_of (class_of (get_or ws (h - 1) 0))) i l r))

  live_length : 0 < h → get_or vs (h - 1) 0 ≡ get_or ws (h - 1) 0
  live_length p = live_word p (h - 1) (omega arith) (omega (arith, size_least (class_of (get_or ws (h - 1) 0))))

  pub handle_frame : (used used' : ℕ) → used ≤ used' → sound_handle used ws h ≡ true → sound_handle used' vs h ≡ true
  unfolding sound_handle
  handle_frame used used' l e = go (eq-zero-or-pos h)
    where
      go : (h ≡ 0) ⊎ (0 < h) → sound_handle used' vs h ≡ true
      go (inl z) = rw z
      go (inr p) =
          let f = handle_facts used ws h e p in
          let n = live_length p in
          handle_sound used' vs h
          (record {
            one = f.one;
            below = omega arith;
            some = omega arith;
            ends = rw (live_length p) (omega arith);
          })

  live_frame : (i : ℕ) → live_over vs i h ≡ live_over ws i h
  live_frame i = go (eq-zero-or-pos h)
    where
      go : (h ≡ 0) ⊎ (0 < h) → live_over vs i h ≡ live_over ws i h
      go (inl z) = rw z (live_none vs i ∙ sym (live_none ws i))
      go (inr p) = live_some vs i h p ∙ rw (live_length p) (sym (live_some ws i h p))

  list_frame : (used : ℕ) → length ws ≤ pool_limit → used ≤ length ws → length vs ≡ length ws → sound_handle used ws h ≡ true → list_of vs h ≡ list_of ws h
  unfolding list_of
  list_frame used limit below l e = go (eq-zero-or-pos h)
    where
      go : (h ≡ 0) ⊎ (0 < h) → take (length_at vs h) (drop h vs) ≡ take (length_at ws h) (drop h ws)
      go (inl z) = rw (z, length_none vs, length_none ws)
      go (inr p) =
          let f = handle_facts used ws h e p in
          let n = class_holds (get_or ws (h - 1) 0) (omega arith) in
          rw (length_some vs h p, length_some ws h p, live_length p)
          (run_ext vs ws h h (get_or ws (h - 1) 0) (omega arith) (omega arith) (λ j q. live_word p (h + j) (omega arith) (omega arith)))

-- and of a chain's blocks
pub chain_frame : (ws vs : List ℕ) (used used' c h : ℕ) (bs : List ℕ) → used ≤ used' → Chain used ws c h bs
    → ((i : ℕ) → 1 ≤ free_over i c bs → get_or vs i 0 ≡ get_or ws i 0) → Chain used' vs c h bs
unfolding free_over sum
chain_frame ws vs used used' c h [] l C same = C
chain_frame ws vs used used' c h (b ∷ bs) l C same =
    let f = head_facts used ws c h C.1 (omega (arith, C.0)) in
    let s = size_least c in
    let word : (i : ℕ) → b ≤ i → i < b + size_of c → get_or vs i 0 ≡ get_or ws i 0 = λ i p q. same i (omega (arith, over_in b (size_of c) i p q)) in (
      C.0,
      head_sound used' vs c h
          (record {
            one = f.one;
            ends = omega arith;
            zero = word (h - 1) (omega (arith, C.0)) (omega (arith, C.0)) ∙ f.zero;
          }),
      rw (word h (omega (arith, C.0)) (omega (arith, C.0))) (chain_frame ws vs used used' c (get_or ws h 0) bs l C.2 (λ i p. same i (omega arith))),
    )

map_ext : (f g : ℕ → List ℕ) (l : List ℕ) → ((k : ℕ) → k < length l → f (get_or l k 0) ≡ g (get_or l k 0)) → map f l ≡ map g l
map_ext f g [] h = refl
map_ext f g (x ∷ xs) h = cc (h 0 (omega arith), map_ext f g xs (λ k p. h (suc k) (omega arith)))

module _ {st : ListPool} {ws hs : List ℕ} {xs : List Span} (H : SoundBut st ws hs xs) where
  -- a word that one or more blocks of the table or the chains are over is used, and in no held block
  own : (i n : ℕ) → 1 ≤ n → n ≤ sum (λ slot h. live_over ws i h) hs + sum (free_over i) H.frees → (i < st.used) × (span_over i xs ≡ 0)
  own i n p l =
      let u = over_le 0 st.used i in
      let e = H.once i in
      (omega (arith, (over_pos 0 st.used i (omega arith)).1), omega arith)

  own_slot : (slot i : ℕ) → 1 ≤ live_over ws i (handle_at hs slot) → (i < st.used) × (span_over i xs ≡ 0)
  own_slot slot i p = go (dec_lt slot (length hs))
    where
      go : Dec (slot < length hs) → (i < st.used) × (span_over i xs ≡ 0)
      go (yes l) = own i (live_over ws i (handle_at hs slot)) p (omega (arith, sum_ge (λ slot h. live_over ws i h) hs slot 0 l))
      go (no q) = absurd (omega (arith, ap (live_over ws i) (get_or-eq_default hs 0 {n = slot} (omega arith)), live_none ws i))

  own_chain : (c i : ℕ) → 1 ≤ free_over i c (get_or H.frees c []) → (i < st.used) × (span_over i xs ≡ 0)
  unfolding free_over sum
  own_chain c i p = go (dec_lt c (length H.frees))
    where
      go : Dec (c < length H.frees) → (i < st.used) × (span_over i xs ≡ 0)
      go (yes l) = own i (free_over i c (get_or H.frees c [])) p (omega (arith, sum_ge (free_over i) H.frees c [] l))
      go (no q) = absurd (omega (arith, ap (free_over i c) (get_or-eq_default H.frees [] {n = c} (omega arith))))

  -- THE FRAME: words that are the same in all used words outside of the held blocks
  pub held_write : (vs : List ℕ) → length vs ≡ length ws
      → ((i : ℕ) → i < st.used → span_over i xs ≡ 0 → get_or vs i 0 ≡ get_or ws i 0) → SoundBut st vs hs xs × (lists vs hs ≡ lists ws hs)
  unfolding lists
  held_write vs l same = (
    record {
      within = record { pool_within = omega arith; table_within = H.within.table_within; below = omega arith; fours = H.within.fours };
      frees = H.frees;
      heads = H.heads;
      classes = H.classes;
      handles = λ slot. handle_frame ws vs (handle_at hs slot) (word slot) st.used st.used (omega arith) (H.handles slot);
      chains =
          λ c.
          chain_frame ws vs st.used st.used c (head_of st c) (get_or H.frees c []) (omega arith) (H.chains c)
          (λ i p. let o = own_chain c i p in same i o.0 o.1);
      spans = H.spans;
      once =
          λ i.
          let same_live = sum_cong (λ slot h. live_over vs i h) (λ slot h. live_over ws i h) hs 0 (λ k p. live_frame ws vs (handle_at hs k) (word k) i) in
          omega (arith, H.once i, same_live);
    },
    map_ext (list_of vs) (list_of ws) hs
        (λ k p. list_frame ws vs (handle_at hs k) (word k) st.used H.within.pool_within H.within.below l (H.handles k)),
  )
    where
      word : (slot i : ℕ) → 1 ≤ live_over ws i (handle_at hs slot) → get_or vs i 0 ≡ get_or ws i 0
      word slot i p = let o = own_slot slot i p in same i o.0 o.1
