-- How often the blocks of a map's marks are over a word, and what the sweep says of it: it passes exactly where they follow one another
-- without gap or overlap, up to the end. Throughout `ws` is the pool's words and `i` a word of it.
use Rattle.std.specs.Prelude.{◌≡◌, Bool, not, ◌&&◌, ◌⊎◌, get_or, set, List, [], ◌∷◌}
use Rattle.std.proofs.Math.Path.{refl, sym, ap}
use Rattle.std.proofs.Common.{◌∙◌, add-mul, not-suc-le-zero, le_of_suc-le-suc, eq-zero-or-pos, get_or-set_same, get_or-set_other}
use Rattle.std.proofs.Math.Bool.{true, false, cond}
use Rattle.std.proofs.Math.Logic.{inl, inr}
use Rattle.std.proofs.Common.{ℕ, zero, suc, ◌+◌, ◌-◌, ◌*◌, ◌≤◌, ◌<◌, arith, lt-ltb, le-ltb, eq-eqb, ne_eqb}
use Rattle.std.proofs.Math.Decide.{dec_le, dec_lt, ℕ_discrete}
use Rattle.std.proofs.lemmas.Bool.{eqb-true, eqb-false, not-true}
use Rattle.std.proofs.Math.ListN.{length, length-set}
use Rattle.std.proofs.Math.Dec.{eqb}
use Rattle.sizes.specs.Class.{class_of, size_of, size_word}
use Rattle.sizes.proofs.Laws.{class_le, size_least, size_fours}
use Rattle.pool.proofs.Facts.{both}
use Rattle.sound.specs.Sound.{over}
use Rattle.sound.proofs.Sums.{over_in, over_left, over_right, over_add}
use Rattle.audit.specs.Audit.{free_mark, class_at, groups_at, swept}
use Rattle.audit.specs.Marks.{Mark, Made, Fits}

-- THE BLOCK OF A MARK

-- the words of a live block are those of its length's class, the words of a free one those of its own
pub groups_live : (ws : List ℕ) (g v : ℕ) → v < free_mark 0 → groups_at ws g v * 4 ≡ size_of (class_of (get_or ws (g * 4) 0))
unfolding groups_at class_at size_word
groups_live ws g v l =
    let c = class_of (get_or ws (g * 4) 0) in
    rw (lt-ltb v (free_mark 0) l, lt-ltb c 62 (omega (arith, class_le (get_or ws (g * 4) 0)))) (omega (arith, size_fours c))

pub groups_free : (ws : List ℕ) (g c : ℕ) → c < 62 → groups_at ws g (free_mark c) * 4 ≡ size_of c
unfolding groups_at class_at size_word
groups_free ws g c l =
    let e : free_mark c - free_mark 0 ≡ c = omega arith in
    rw (le-ltb (free_mark c) (free_mark 0) (omega arith), e, lt-ltb c 62 l) (omega (arith, size_fours c))

-- every block has a group
groups_some : (ws : List ℕ) (g v : ℕ) → v < free_mark 62 → 1 ≤ groups_at ws g v
groups_some ws g v l = go (dec_lt v (free_mark 0))
  where
    go : Dec (v < free_mark 0) → 1 ≤ groups_at ws g v
    go (yes p) = omega (arith, groups_live ws g v p, size_least (class_of (get_or ws (g * 4) 0)))
    go (no p) =
        let e : free_mark (v - free_mark 0) ≡ v = omega arith in
        omega (arith, ap (λ (x : ℕ). groups_at ws g x) e, groups_free ws g (v - free_mark 0) (omega arith), size_least (v - free_mark 0))

-- HOW OFTEN A WORD IS COVERED

-- the block of the mark v at the group g over the word i; none where there is no mark
unfoldable pub mark_over : List ℕ → ℕ → ℕ → ℕ → ℕ
mark_over ws i g v = cond (eqb v 0) 0 (over (g * 4) (groups_at ws g v * 4) i)

-- the blocks of a list of marks
unfoldable pub marks_over : List ℕ → ℕ → List Mark → ℕ
marks_over ws i [] = 0
marks_over ws i (x ∷ xs) = mark_over ws i x.group x.word + marks_over ws i xs

-- and those of a map's words, of which the first is at the group g
unfoldable pub map_over : List ℕ → ℕ → ℕ → List ℕ → ℕ
map_over ws i g [] = 0
map_over ws i g (v ∷ vs) = mark_over ws i g v + map_over ws i (suc g) vs

module _ (ws : List ℕ) (i : ℕ) where
  mark_none : (g v : ℕ) → v ≡ 0 → mark_over ws i g v ≡ 0
  unfolding mark_over
  mark_none g v e = rw e

  pub mark_some : (g v : ℕ) → 1 ≤ v → mark_over ws i g v ≡ over (g * 4) (groups_at ws g v * 4) i
  unfolding mark_over
  mark_some g v p = rw (ne_eqb v 0 (omega arith))

  mark_left : (g v : ℕ) → i < g * 4 → mark_over ws i g v ≡ 0
  mark_left g v l = go (eq-zero-or-pos v)
    where
      go : (v ≡ 0) ⊎ (0 < v) → mark_over ws i g v ≡ 0
      go (inl z) = mark_none g v z
      go (inr p) = mark_some g v p ∙ over_left (g * 4) (groups_at ws g v * 4) i l

  pub map_none : (g : ℕ) (vs : List ℕ) → ((k : ℕ) → get_or vs k 0 ≡ 0) → map_over ws i g vs ≡ 0
  unfolding map_over
  map_none g [] z = refl
  map_none g (v ∷ vs) z = omega (arith, mark_none g v (z 0), map_none (suc g) vs (λ k. z (suc k)))

  map_left : (g : ℕ) (vs : List ℕ) → i < g * 4 → map_over ws i g vs ≡ 0
  unfolding map_over
  map_left g [] l = refl
  map_left g (v ∷ vs) l = omega (arith, mark_left g v l, map_left (suc g) vs (omega arith))

  -- with one word set
  map_set : (g : ℕ) (vs : List ℕ) (k at v : ℕ) → k < length vs → at ≡ g + k
      → map_over ws i g (set vs k v) + mark_over ws i at (get_or vs k 0) ≡ map_over ws i g vs + mark_over ws i at v
  unfolding map_over
  map_set g [] k at v l e = absurd (not-suc-le-zero l)
  map_set g (u ∷ vs) zero at v l e = let s : at ≡ g = omega arith in rw s (omega arith)
  map_set g (u ∷ vs) (suc k) at v l e = omega (arith, map_set (suc g) vs k at v (le_of_suc-le-suc l) (omega arith))

  -- Marks that are made cover what they should.
  pub made_over : (xs : List Mark) (m m' : List ℕ) → Fits (length m) xs → Made xs m m' → map_over ws i 0 m' ≡ map_over ws i 0 m + marks_over ws i xs
  unfolding marks_over
  made_over [] m m' f e = ap (map_over ws i 0) e ∙ omega arith
  made_over (x ∷ xs) m m' (l, p, q, f) (e, a) =
      omega (
        arith,
        made_over xs (set m x.group x.word) m' (simp length-set f) a,
        map_set 0 m x.group x.group x.word l (omega arith),
        mark_none x.group (get_or m x.group 0) e,
      )

-- marks of which each has a size
abbrev pub Sized : List ℕ → Type 0
Sized vs = (k : ℕ) → get_or vs k 0 < free_mark 62

sized_set : (vs : List ℕ) (g v : ℕ) → g < length vs → v < free_mark 62 → Sized vs → Sized (set vs g v)
sized_set vs g v l b s k = go (ℕ_discrete k g)
  where
    go : Dec (k ≡ g) → get_or (set vs g v) k 0 < free_mark 62
    go (yes e) = rw (e, get_or-set_same vs g v 0 l) b
    go (no n) = rw (get_or-set_other vs g k v 0 n) (s k)

pub sized_made : (xs : List Mark) (m m' : List ℕ) → Fits (length m) xs → Made xs m m' → Sized m → Sized m'
sized_made [] m m' f e s = rw e s
sized_made (x ∷ xs) m m' (l, p, q, f) (e, a) s =
    sized_made xs (set m x.group x.word) m' (simp length-set f) a (sized_set m x.group x.word l q s)

-- a mark is over its own first word
mark_first : (ws : List ℕ) (g v : ℕ) → 1 ≤ v → v < free_mark 62 → mark_over ws (g * 4) g v ≡ 1
mark_first ws g v p l = mark_some ws (g * 4) g v p ∙ over_in (g * 4) (groups_at ws g v * 4) (g * 4) (omega arith) (omega (arith, groups_some ws g v l))

-- Marks whose blocks are over no word twice can be made.
pub over_made : (ws : List ℕ) (xs : List Mark) (m : List ℕ) → Fits (length m) xs → Sized m → ((i : ℕ) → map_over ws i 0 m + marks_over ws i xs ≤ 1)
    → (m' : List ℕ) × Made xs m m'
unfolding marks_over
over_made ws [] m f s o = (m, refl)
over_made ws (x ∷ xs) m (l, p, q, f) s o = let (m', a) = over_made ws xs (set m g v) (simp length-set f) (sized_set m g v l q s) most in (m', (free, a))
  where
    g : ℕ
    g = x.group

    v : ℕ
    v = x.word

    unmarked : (get_or m g 0 ≡ 0) ⊎ (0 < get_or m g 0) → get_or m g 0 ≡ 0
    unmarked (inl z) = z
    unmarked (inr u) =
        absurd
        (omega (
          arith,
          o (g * 4),
          mark_first ws g v p q,
          mark_first ws g (get_or m g 0) u (s g),
          map_set ws (g * 4) 0 m g g 0 l (omega arith),
          mark_none ws (g * 4) g 0 refl,
        ))

    free : get_or m g 0 ≡ 0
    free = unmarked (eq-zero-or-pos (get_or m g 0))

    most : (i : ℕ) → map_over ws i 0 (set m g v) + marks_over ws i xs ≤ 1
    most i = omega (arith, o i, map_set ws i 0 m g g v l (omega arith), mark_none ws i g (get_or m g 0) free)

-- THE SWEEP

-- a block of no words is over none
over_empty : (b s i : ℕ) → s ≡ 0 → over b s i ≡ 0
over_empty b s i e = go (dec_lt i b)
  where
    go : Dec (i < b) → over b s i ≡ 0
    go (yes l) = over_left b s i l
    go (no n) = over_right b s i (omega arith)

-- two runs of groups end to end are one
over_groups : (g n k rest i : ℕ) → n ≡ k + rest → over (g * 4) (n * 4) i ≡ over (g * 4) (k * 4) i + over ((g + k) * 4) (rest * 4) i
over_groups g n k rest i e = rw (e, add-mul k rest 4, add-mul g k 4) (over_add (g * 4) (k * 4) (rest * 4) i)

module _ (ws : List ℕ) where
  -- a step of a sweep that passes: a block starts at the group g, or an earlier one goes on
  abbrev Step : ℕ → ℕ → ℕ → List ℕ → Type 0
  Step g next v vs = ((g ≡ next) × (1 ≤ v) × (swept ws (suc g) (g + groups_at ws g v) vs ≡ true)) ⊎ ((v ≡ 0) × (swept ws (suc g) next vs ≡ true))

  swept_step : (g next v : ℕ) (vs : List ℕ) → swept ws g next (v ∷ vs) ≡ true → Step g next v vs
  unfolding swept
  swept_step g next v vs e = go (eqb g next) refl e
    where
      go : (t : Bool) → eqb g next ≡ t
          → cond t (not (eqb v 0) && swept ws (suc g) (g + groups_at ws g v) vs) (eqb v 0 && swept ws (suc g) next vs) ≡ true
          → Step g next v vs
      go true q e =
          let (a, b) : (not (eqb v 0) ≡ true) × (swept ws (suc g) (g + groups_at ws g v) vs ≡ true) = both e in
          inl (eqb-true g next q, omega (arith, eqb-false v 0 (not-true _ a)), b)
      go false q e = let (a, b) = both e in inr (eqb-true v 0 a, b)

  -- what is swept has its next block's start in reach
  swept_next : (g next : ℕ) (vs : List ℕ) → swept ws g next vs ≡ true → (g ≤ next) × (next ≤ g + length vs)
  unfolding swept
  swept_next g next [] e = let s = eqb-true g next e in (omega arith, omega arith)
  swept_next g next (v ∷ vs) e = go (λ n. swept_next (suc g) n vs) (swept_step g next v vs e)
    where
      go : ((n : ℕ) → swept ws (suc g) n vs ≡ true → (suc g ≤ n) × (n ≤ suc g + length vs)) → Step g next v vs
          → (g ≤ next) × (next ≤ g + suc (length vs))
      go rec (inl (s, p, r)) = (omega arith, omega arith)
      go rec (inr (z, r)) = let (a, b) = rec next r in (omega arith, omega arith)

  -- A sweep that passes: from the next block's start up to the end every word is covered once, and no other word is.
  pub swept_over : (i g next rest : ℕ) (vs : List ℕ) → swept ws g next vs ≡ true → next + rest ≡ g + length vs
      → map_over ws i g vs ≡ over (next * 4) (rest * 4) i
  unfolding swept map_over
  swept_over i g next rest [] e n = let s = eqb-true g next e in sym (over_empty (next * 4) (rest * 4) i (omega arith))
  swept_over i g next rest (v ∷ vs) e n = go (λ k r. swept_over i (suc g) k r vs) (swept_step g next v vs e)
    where
      go : ((k r : ℕ) → swept ws (suc g) k vs ≡ true → k + r ≡ suc g + length vs → map_over ws i (suc g) vs ≡ over (k * 4) (r * 4) i)
          → Step g next v vs → mark_over ws i g v + map_over ws i (suc g) vs ≡ over (next * 4) (rest * 4) i
      go rec (inl (s, p, r)) =
          let k = groups_at ws g v in
          let (a, b) = swept_next (suc g) (g + k) vs r in
          rw (← s, over_groups g rest k (rest - k) i (omega arith)) (omega (arith, mark_some ws i g v p, rec (g + k) (rest - k) r (omega arith)))
      go rec (inr (z, r)) = omega (arith, mark_none ws i g v z, rec next rest r (omega arith))

  -- And where that is so, the sweep passes.
  pub over_swept : (g next rest : ℕ) (vs : List ℕ) → g ≤ next → next + rest ≡ g + length vs → Sized vs
      → ((i : ℕ) → map_over ws i g vs ≡ over (next * 4) (rest * 4) i) → swept ws g next vs ≡ true
  unfolding swept map_over
  over_swept g next rest [] l n z o = eq-eqb g next (omega arith)
  over_swept g next rest (v ∷ vs) l n z o = go (λ k r p q. over_swept (suc g) k r vs p q (λ j. z (suc j))) (ℕ_discrete g next) (eq-zero-or-pos v)
    where
      k : ℕ
      k = groups_at ws g v

      here : (v ≡ 0) ⊎ (0 < v) → g ≡ next → 1 ≤ v
      here (inl e) s =
          absurd
          (omega (
            arith,
            o (g * 4),
            mark_none ws (g * 4) g v e,
            map_left ws (g * 4) (suc g) vs (omega arith),
            over_in (next * 4) (rest * 4) (g * 4) (omega arith) (omega arith),
          ))
      here (inr p) s = p

      room : 1 ≤ v → g ≡ next → Dec (k ≤ rest) → k ≤ rest
      room p s (yes b) = b
      room p s (no b) =
          let i = (g + rest) * 4 in
          absurd
          (omega (
            arith,
            o i,
            mark_some ws i g v p,
            over_in (g * 4) (k * 4) i (omega arith) (omega arith),
            over_right (next * 4) (rest * 4) i (omega arith),
          ))

      go : ((k r : ℕ) → suc g ≤ k → k + r ≡ suc g + length vs → ((i : ℕ) → map_over ws i (suc g) vs ≡ over (k * 4) (r * 4) i) → swept ws (suc g) k vs ≡ true)
          → Dec (g ≡ next) → (v ≡ 0) ⊎ (0 < v)
          → cond (eqb g next) (not (eqb v 0) && swept ws (suc g) (g + groups_at ws g v) vs) (eqb v 0 && swept ws (suc g) next vs) ≡ true
      go rec (yes s) d =
          let p = here d s in
          let b = room p s (dec_le k rest) in
          let at : (i : ℕ) → map_over ws i g (v ∷ vs) ≡ over (g * 4) (rest * 4) i = λ i. o i ∙ ap (λ (x : ℕ). over (x * 4) (rest * 4) i) (sym s) in
          rw (eq-eqb g next s, ne_eqb v 0 (omega arith))
          (rec (g + k) (rest - k) (omega (arith, groups_some ws g v (z 0))) (omega arith)
          (λ i. omega (arith, at i, over_groups g rest k (rest - k) i (omega arith), mark_some ws i g v p)))
      go rec (no ne) (inl e) =
          rw (ne_eqb g next ne, eq-eqb v 0 e) (rec next rest (omega arith) (omega arith) (λ i. omega (arith, o i, mark_none ws i g v e)))
      go rec (no ne) (inr p) =
          absurd (omega (arith, o (g * 4), mark_first ws g v p (z 0), over_left (next * 4) (rest * 4) (g * 4) (omega arith)))
