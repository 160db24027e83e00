-- The marks of a pool's blocks cover just what the blocks do. So a pool that is accepted is cut without gap or overlap, and one that is so cut is accepted.
use Rattle.std.specs.Prelude.{◌≡◌, length, get_or, take, List, [], ◌∷◌, ◌++◌}
use Rattle.std.proofs.Math.Path.{refl, ap}
use Rattle.std.proofs.Common.{sym, ◌∙◌, mul-le-mul_right, length-take-le, get_or-take, ℕ, zero, suc, ◌+◌, ◌-◌, ◌*◌, ◌/◌, ◌%◌, ◌≤◌, ◌<◌, arith}
use Rattle.std.proofs.Math.Option.{some}
use Rattle.std.proofs.Math.Decide.{dec_lt}
use Rattle.std.proofs.Math.ListN.{get_or-eq_default}
use Rattle.sizes.specs.Class.{class_count, class_of, size_of}
use Rattle.sizes.proofs.Laws.{size_least}
use Rattle.pool.specs.declared.ListPool.{ListPool}
use Rattle.pool.specs.Facts.{Within}
use Rattle.pool.proofs.Facts.{handle_facts, head_facts}
use Rattle.sound.specs.Sound.{sum, over, live_over, free_over, Chain, Cut}
use Rattle.sound.proofs.Sums.{over_le, sum_ge}
use Rattle.sound.proofs.SoundBut.{live_none, live_some}
use Rattle.sound.proofs.CutProperties.{words_add_up}
use Rattle.audit.specs.Audit.{live_mark, free_mark, group_of, groups_at, accepted}
use Rattle.audit.specs.Marks.{Mark, Made, Fits, fits_append, made_length, made_take, made_whole}
use Rattle.audit.specs.Sweep.{groups_live, groups_free, mark_over, marks_over, map_over, mark_some, map_none, made_over}
use Rattle.audit.specs.Sweep.{Sized, sized_made, over_made, swept_over, over_swept}
use Rattle.audit.specs.Walks.{live_marks, free_marks, chain_marks, HandlesSound, Chains, Walked, marks_of, Accepted, accepted_when}

marks_append : (ws : List ℕ) (i : ℕ) (xs ys : List Mark) → marks_over ws i (xs ++ ys) ≡ marks_over ws i xs + marks_over ws i ys
unfolding marks_over
marks_append ws i [] ys = omega arith
marks_append ws i (x ∷ xs) ys = omega (arith, marks_append ws i xs ys)

module _ (used : ℕ) (ws : List ℕ) where
  -- THE TABLE

  -- the marks of sound handles fit, and cover what their blocks do
  live_fits : (slot : ℕ) (hs : List ℕ) → slot + length hs < free_mark 0 → HandlesSound used ws hs → Fits (used / 4) (live_marks slot hs)
  unfolding live_marks
  live_fits slot [] l s = tt
  live_fits slot (zero ∷ hs) l s = live_fits (suc slot) hs (omega arith) (λ k. s (suc k))
  live_fits slot (suc b ∷ hs) l s =
      let f = handle_facts used ws (suc b) (s 0) (omega arith) in
      (omega (arith, size_least (class_of (get_or ws (suc b - 1) 0))), omega arith, omega arith, live_fits (suc slot) hs (omega arith) (λ k. s (suc k)))

  live_covers : (i slot : ℕ) (hs : List ℕ) → slot + length hs < free_mark 0 → HandlesSound used ws hs
      → marks_over ws i (live_marks slot hs) ≡ sum (λ slot h. live_over ws i h) hs
  unfolding live_marks marks_over sum
  live_covers i slot [] l s = refl
  live_covers i slot (zero ∷ hs) l s = omega (arith, live_none ws i, live_covers i (suc slot) hs (omega arith) (λ k. s (suc k)))
  live_covers i slot (suc b ∷ hs) l s =
      let h = suc b in
      let f = handle_facts used ws h (s 0) (omega arith) in
      let g : group_of h * 4 ≡ h - 1 = omega arith in
      let n : groups_at ws (group_of h) (live_mark slot) * 4 ≡ size_of (class_of (get_or ws (h - 1) 0)) =
      groups_live ws (group_of h) (live_mark slot) (omega arith) ∙ ap (λ (x : ℕ). size_of (class_of (get_or ws x 0))) g in
      let o : mark_over ws i (group_of h) (live_mark slot) ≡ live_over ws i h =
      mark_some ws i (group_of h) (live_mark slot) (omega arith) ∙ rw (g, n) (sym (live_some ws i h (omega arith))) in
      omega (arith, o, live_covers i (suc slot) hs (omega arith) (λ k. s (suc k)))

  -- THE CHAINS

  -- and so do those of a chain,
  free_fits : (c h : ℕ) (bs : List ℕ) → c < 62 → Chain used ws c h bs → Fits (used / 4) (free_marks c bs)
  unfolding free_marks
  free_fits c h [] l C = tt
  free_fits c h (b ∷ bs) l (e, s, C) =
      let f = head_facts used ws c h s (omega arith) in
      (omega (arith, size_least c), omega arith, omega arith, free_fits c (get_or ws h 0) bs l C)

  free_covers : (i c h : ℕ) (bs : List ℕ) → c < 62 → Chain used ws c h bs → marks_over ws i (free_marks c bs) ≡ free_over i c bs
  unfolding free_marks marks_over free_over sum
  free_covers i c h [] l C = refl
  free_covers i c h (b ∷ bs) l (e, s, C) =
      let f = head_facts used ws c h s (omega arith) in
      let g : b / 4 * 4 ≡ b = omega arith in
      let o : mark_over ws i (b / 4) (free_mark c) ≡ over b (size_of c) i =
      mark_some ws i (b / 4) (free_mark c) (omega arith) ∙ rw (g, groups_free ws (b / 4) c l) in
      omega (arith, o, free_covers i c (get_or ws h 0) bs l C)

  -- and those of all chains
  chain_fits : (f : ℕ → ℕ) (c : ℕ) (heads : List ℕ) (fs : List (List ℕ)) → ((k : ℕ) → f k ≡ c + k) → length fs ≡ length heads → c + length fs ≤ 62
      → Chains used ws f heads fs → Fits (used / 4) (chain_marks c fs)
  unfolding chain_marks
  chain_fits f c heads [] n e l C = tt
  chain_fits f c [] (bs ∷ fs) n e l C = absurd (omega arith)
  chain_fits f c (h ∷ heads) (bs ∷ fs) n e l C =
      let z : f 0 ≡ c = omega (arith, n 0) in
      fits_append (used / 4) (free_marks c bs) (chain_marks (suc c) fs) (free_fits c h bs (omega arith) (rw z at (C 0)))
      (chain_fits (λ k. f (suc k)) (suc c) heads fs (λ k. omega (arith, n (suc k))) (omega arith) (omega arith) (λ k. C (suc k)))

  chain_covers : (i : ℕ) (f : ℕ → ℕ) (c : ℕ) (heads : List ℕ) (fs : List (List ℕ)) → ((k : ℕ) → f k ≡ c + k) → length fs ≡ length heads → c + length fs ≤ 62
      → Chains used ws f heads fs → marks_over ws i (chain_marks c fs) ≡ sum (λ k. free_over i (f k)) fs
  unfolding chain_marks marks_over sum
  chain_covers i f c heads [] n e l C = refl
  chain_covers i f c [] (bs ∷ fs) n e l C = absurd (omega arith)
  chain_covers i f c (h ∷ heads) (bs ∷ fs) n e l C =
      let z : f 0 ≡ c = omega (arith, n 0) in
      omega (
        arith,
        marks_append ws i (free_marks c bs) (chain_marks (suc c) fs),
        free_covers i c h bs (omega arith) (rw z at (C 0)),
        ap (λ (x : ℕ). free_over i x bs) z,
        chain_covers i (λ k. f (suc k)) (suc c) heads fs (λ k. omega (arith, n (suc k))) (omega arith) (omega arith) (λ k. C (suc k)),
      )

-- THE WHOLE

-- the map's first words, which are to be marked, are all 0
pub record Clean (groups : ℕ) (m : List ℕ) : Type 0 where
  pub room : groups ≤ length m
  pub zeros : (g : ℕ) → g < groups → get_or m g 0 ≡ 0

clean_take : {n : ℕ} {m : List ℕ} → Clean n m → (k : ℕ) → get_or (take n m) k 0 ≡ 0
clean_take {n} {m} c k = go (dec_lt k n)
  where
    go : Dec (k < n) → get_or (take n m) k 0 ≡ 0
    go (yes l) = get_or-take n m k 0 l ∙ c.zeros k l
    go (no l) = get_or-eq_default (take n m) 0 {n = k} (omega (arith, length-take-le n m c.room))

module _ {st : ListPool} {ws hs : List ℕ} {fs : List (List ℕ)} (W : Within st.used (length ws) (length hs))
    (n : length st.heads ≡ class_count) (K : Walked st ws hs fs) where
  pub marks_fit : Fits (st.used / 4) (marks_of hs fs)
  marks_fit =
      fits_append (st.used / 4) (live_marks 0 hs) (chain_marks 0 fs) (live_fits st.used ws 0 hs (omega arith) K.handles)
      (chain_fits st.used ws (λ c. c) 0 st.heads fs (λ c. omega arith) K.classes (omega arith) K.chains)

  marks_cover : (i : ℕ) → marks_over ws i (marks_of hs fs) ≡ sum (λ slot h. live_over ws i h) hs + sum (free_over i) fs
  marks_cover i =
      omega (
        arith,
        marks_append ws i (live_marks 0 hs) (chain_marks 0 fs),
        live_covers st.used ws i 0 hs (omega arith) K.handles,
        chain_covers st.used ws i (λ c. c) 0 st.heads fs (λ c. omega arith) K.classes (omega arith) K.chains,
      )

  module _ {m : List ℕ} (c : Clean (st.used / 4) m) where
    front_is : length (take (st.used / 4) m) ≡ st.used / 4
    front_is = length-take-le (st.used / 4) m c.room

    front_fits : Fits (length (take (st.used / 4) m)) (marks_of hs fs)
    front_fits = rw front_is marks_fit

    -- a map's marks cover just what the blocks do
    map_covers : (m' : List ℕ) → Made (marks_of hs fs) (take (st.used / 4) m) m' → (i : ℕ)
        → map_over ws i 0 m' ≡ sum (λ slot h. live_over ws i h) hs + sum (free_over i) fs
    map_covers m' a i =
        omega (
          arith,
          made_over ws i (marks_of hs fs) (take (st.used / 4) m) m' front_fits a,
          map_none ws i 0 (take (st.used / 4) m) (clean_take c),
          marks_cover i,
        )

-- the used words are those of the groups
used_over : (used i : ℕ) → used % 4 ≡ 0 → over 0 (used / 4 * 4) i ≡ over 0 used i
used_over used i f = let e : used / 4 * 4 ≡ used = omega arith in rw e

-- What is accepted is sound,
pub accepted_cut : {st : ListPool} {ws hs : List ℕ} {fs : List (List ℕ)} {m m' : List ℕ} → Within st.used (length ws) (length hs)
    → length st.heads ≡ class_count → Clean (st.used / 4) m → Accepted st ws hs fs m m' → Cut st ws hs fs
accepted_cut {st} {ws} {hs} {fs} {m} {m'} W n c A =
    let K = A.walked in
    let u = st.used in
    let a = made_take (u / 4) (marks_of hs fs) m m' (marks_fit W n K) A.made in
    let l = made_length (marks_of hs fs) (take (u / 4) m) (take (u / 4) m') a ∙ front_is W n K c in
    record {
      heads = n;
      classes = K.classes ∙ n;
      handles = K.handles;
      chains = K.chains;
      once =
          λ i.
          sym (map_covers W n K c (take (u / 4) m') a i) ∙ swept_over ws i 0 0 (u / 4) (take (u / 4) m') A.sweeps (omega arith) ∙ used_over u i W.fours;
    }

-- no chain has more blocks than there are groups
chain_short : {st : ListPool} {ws hs : List ℕ} {fs : List (List ℕ)} → Cut st ws hs fs → (c : ℕ) → length (get_or fs c []) ≤ st.used / 4
chain_short {st} {ws} {hs} {fs} C c = go (dec_lt c (length fs))
  where
    go : Dec (c < length fs) → length (get_or fs c []) ≤ st.used / 4
    go (yes l) =
        omega (
          arith,
          words_add_up C,
          sum_ge (λ c bs. size_of c * length bs) fs c [] l,
          mul-le-mul_right (length (get_or fs c [])) (size_least c),
        )
    go (no l) = omega (arith, ap length (get_or-eq_default fs [] {n = c} (omega arith)))

-- and what is sound is accepted.
pub cut_accepted : {st : ListPool} {ws hs : List ℕ} {fs : List (List ℕ)} {m : List ℕ} → Within st.used (length ws) (length hs) → Clean (st.used / 4) m
    → Cut st ws hs fs → (m' : List ℕ) × (accepted st ws hs m ≡ some m')
cut_accepted {st} {ws} {hs} {fs} {m} W c C =
    let n = C.heads in
    let K : Walked st ws hs fs = record { classes = C.classes ∙ sym n; handles = C.handles; chains = C.chains } in
    let groups = st.used / 4 in
    let front = take groups m in
    let xs = marks_of hs fs in
    let fits = front_fits W n K c in
    let sized : Sized front = λ k. omega (arith, clean_take c k) in
    let most : (i : ℕ) → map_over ws i 0 front + marks_over ws i xs ≤ 1 =
    λ i. omega (arith, map_none ws i 0 front (clean_take c), marks_cover W n K i, C.once i, over_le 0 st.used i) in
    let (k, a) = over_made ws xs front fits sized most in
    let all : (i : ℕ) → map_over ws i 0 k ≡ over 0 (groups * 4) i = λ i. map_covers W n K c k a i ∙ C.once i ∙ sym (used_over st.used i W.fours) in
    let l : 0 + groups ≡ 0 + length k = omega (arith, made_length xs front k a, front_is W n K c) in
    let sweeps = over_swept ws 0 0 groups k (omega arith) l (sized_made xs front k fits a sized) all in
    let (m', d, s) = made_whole groups xs m k (marks_fit W n K) a in
    (m', accepted_when st ws hs fs m m' (record { walked = K; made = d; sweeps = rw s sweeps }) (chain_short C))
