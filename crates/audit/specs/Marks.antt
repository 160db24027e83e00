-- Marks made in a map one after another, each at a group that had none: which word then stands at which group.
use Rattle.std.specs.Prelude.{◌≡◌, refl, ◌⊎◌, ◌↔◌, ℕ, ◌≤◌, ◌<◌, length, get_or, set, take}
use Rattle.std.proofs.Common.{sym, ap, ◌∙◌, inl, inr, arith, length-set, get_or-set_same, get_or-set_other, get_or-take}
use mathlib.Core.List.Memᴰ
use mathlib.Core.List.{Memᴰ}
use Rattle.std.specs.Prelude.{List, [], ◌∷◌, ◌++◌}
use Rattle.std.proofs.Math.Decide.{ℕ_discrete}
use Rattle.std.proofs.Math.Seq.{take-set-lt}
use Rattle.audit.specs.Audit.{free_mark}

-- a mark: the first group of a block, and the map's word there
pub record Mark : Type 0 where
  pub group : ℕ
  pub word : ℕ

abbrev pub mark : ℕ → ℕ → Mark
mark g v = record { group = g; word = v }

-- the marks xs, made one after another in the map m, leave the map m'
abbrev pub Made : List Mark → List ℕ → List ℕ → Type 0
Made [] m m' = m' ≡ m
Made (x ∷ xs) m m' = (get_or m x.group 0 ≡ 0) × Made xs (set m x.group x.word) m'

-- marks at groups below n, none of them 0, and none of a class that has no size
abbrev pub Fits : ℕ → List Mark → Type 0
Fits n [] = Unit {0}
Fits n (x ∷ xs) = (x.group < n) × (1 ≤ x.word) × (x.word < free_mark 62) × Fits n xs

pub made_append : (xs ys : List Mark) (m m' : List ℕ) → Made (xs ++ ys) m m' ↔ ((k : List ℕ) × Made xs m k × Made ys k m')
made_append [] ys m m' = (λ a. (m, refl, a), λ (k, e, a). rw (← e) a)
made_append (x ∷ xs) ys m m' =
    let r = made_append xs ys (set m x.group x.word) m' in
    (λ (e, a). let (k, b, d) = r.0 a in (k, (e, b), d), λ (k, (e, b), d). (e, r.1 (k, b, d)))

pub fits_append : (n : ℕ) (xs ys : List Mark) → Fits n xs → Fits n ys → Fits n (xs ++ ys)
fits_append n [] ys f g = g
fits_append n (x ∷ xs) ys (l, p, q, f) g = (l, p, q, fits_append n xs ys f g)

pub made_length : (xs : List Mark) (m m' : List ℕ) → Made xs m m' → length m' ≡ length m
made_length [] m m' e = ap length e
made_length (x ∷ xs) m m' (e, a) = made_length xs (set m x.group x.word) m' a ∙ simp length-set

-- a word that is not 0 is kept
made_keeps : (xs : List Mark) (m m' : List ℕ) (g : ℕ) → Made xs m m' → 1 ≤ get_or m g 0 → get_or m' g 0 ≡ get_or m g 0
made_keeps [] m m' g e p = ap (λ (l : List ℕ). get_or l g 0) e
made_keeps (x ∷ xs) m m' g (e, a) p =
    let same = get_or-set_other m x.group g x.word 0 (λ q. omega (arith, e, ap (λ (j : ℕ). get_or m j 0) q)) in
    made_keeps xs (set m x.group x.word) m' g a (omega arith) ∙ same

module _ (n : ℕ) where
  -- and so is every word from n on
  pub made_past : (xs : List Mark) (m m' : List ℕ) (g : ℕ) → Fits n xs → Made xs m m' → n ≤ g → get_or m' g 0 ≡ get_or m g 0
  made_past [] m m' g f e l = ap (λ (l : List ℕ). get_or l g 0) e
  made_past (x ∷ xs) m m' g (b, p, q, f) (e, a) l =
      made_past xs (set m x.group x.word) m' g f a l ∙ get_or-set_other m x.group g x.word 0 (λ q. omega arith)

  -- where a mark was made, it stands
  pub made_has : (x : Mark) (xs : List Mark) (m m' : List ℕ) → Memᴰ x xs → Fits n xs → n ≤ length m → Made xs m m' → get_or m' x.group 0 ≡ x.word
  made_has x [] m m' i f l a = absurd (Memᴰ.not-nil i)
  made_has x (y ∷ xs) m m' i (b, p, q, f) l (e, a) = go (λ j. made_has x xs (set m y.group y.word) m' j f (simp length-set l) a) (Memᴰ.cases_cons i)
    where
      go : (Memᴰ x xs → get_or m' x.group 0 ≡ x.word) → (x ≡ y) ⊎ Memᴰ x xs → get_or m' x.group 0 ≡ x.word
      go rec (inr j) = rec j
      go rec (inl s) =
          let new = get_or-set_same m y.group y.word 0 (omega arith) in
          rw s (made_keeps xs (set m y.group y.word) m' y.group a (omega arith) ∙ new)

  -- and what stands at a group that had no mark was made there
  pub made_from : (xs : List Mark) (m m' : List ℕ) (g : ℕ) → Fits n xs → n ≤ length m → Made xs m m' → get_or m g 0 ≡ 0 → 1 ≤ get_or m' g 0
      → (x : Mark) × Memᴰ x xs × (x.group ≡ g) × (x.word ≡ get_or m' g 0)
  made_from [] m m' g f l e z p = absurd (omega (arith, ap (λ (l : List ℕ). get_or l g 0) e))
  made_from (y ∷ xs) m m' g (b, r, q, f) l (e, a) z p = go (λ t. made_from xs k m' g f (simp length-set l) a t p) (ℕ_discrete g y.group)
    where
      k : List ℕ
      k = set m y.group y.word

      go : (get_or k g 0 ≡ 0 → (x : Mark) × Memᴰ x xs × (x.group ≡ g) × (x.word ≡ get_or m' g 0)) → Dec (g ≡ y.group)
          → (x : Mark) × Memᴰ x (y ∷ xs) × (x.group ≡ g) × (x.word ≡ get_or m' g 0)
      go rec (yes s) =
          let new : get_or k g 0 ≡ y.word = rw s (get_or-set_same m y.group y.word 0 (omega arith)) in
          (y, Memᴰ.head refl, sym s, sym (made_keeps xs k m' g a (omega arith) ∙ new))
      go rec (no ne) = let (x, i, s, w) = rec (get_or-set_other m y.group g y.word 0 ne ∙ z) in (x, Memᴰ.tail i, s, w)

  -- it is all one whether they are made in the map, or in its first n words
  pub made_take : (xs : List Mark) (m m' : List ℕ) → Fits n xs → Made xs m m' → Made xs (take n m) (take n m')
  made_take [] m m' f e = ap (take n) e
  made_take (x ∷ xs) m m' (b, p, q, f) (e, a) = (
    get_or-take n m x.group 0 b ∙ e,
    rw (← (take-set-lt n m x.group x.word b)) (made_take xs (set m x.group x.word) m' f a),
  )

  pub made_whole : (xs : List Mark) (m k : List ℕ) → Fits n xs → Made xs (take n m) k → (m' : List ℕ) × Made xs m m' × (take n m' ≡ k)
  made_whole [] m k f e = (m, refl, sym e)
  made_whole (x ∷ xs) m k (b, p, q, f) (e, a) =
      let (m', d, s) = made_whole xs (set m x.group x.word) k f (rw (take-set-lt n m x.group x.word b) a) in
      (m', (sym (get_or-take n m x.group 0 b) ∙ e, d), s)
