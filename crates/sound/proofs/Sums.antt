-- Laws of the two measures of a sound pool: of the words that a block is over, and of sums along a list.
use Rattle.std.specs.Prelude.{◌≡◌, refl, Bool, true, false, cond, ◌&&◌, List, [], ◌∷◌, ℕ, zero, suc, ◌+◌, ◌≤◌, ◌<◌, length, get_or, set, leb}
use Rattle.std.proofs.Common.{not-suc-le-zero, le_of_suc-le-suc, arith, lt-ltb, le-ltb, le-leb}
use Rattle.std.proofs.Math.Decide.{dec_le, dec_lt}
use Rattle.std.proofs.lemmas.Bool.{lt-leb}
use Rattle.sound.specs.Sound.{sum, over}

-- a block is over its own words
pub over_in : (b s i : ℕ) → b ≤ i → i < b + s → over b s i ≡ 1
unfolding over
over_in b s i h k = rw (le-leb b i h, lt-ltb i (b + s) k)

-- and over no word before it or behind it
pub over_left : (b s i : ℕ) → i < b → over b s i ≡ 0
unfolding over
over_left b s i h = rw (lt-leb b i h)

pub over_right : (b s i : ℕ) → b + s ≤ i → over b s i ≡ 0
unfolding over
over_right b s i h = rw (le-ltb i (b + s) h) (none (leb b i))
  where
    none : (t : Bool) → ◌≡◌ {A = ℕ} (cond (t && false) 1 0) 0
    none true = refl
    none false = refl

pub over_pos : (b s i : ℕ) → 1 ≤ over b s i → (b ≤ i) × (i < b + s)
over_pos b s i h = go (dec_le b i) (dec_lt i (b + s))
  where
    go : Dec (b ≤ i) → Dec (i < b + s) → (b ≤ i) × (i < b + s)
    go (no p) d = absurd (omega (arith, over_left b s i (omega arith)))
    go (yes p) (no q) = absurd (omega (arith, over_right b s i (omega arith)))
    go (yes p) (yes q) = (p, q)

pub over_le : (b s i : ℕ) → over b s i ≤ 1
over_le b s i = go (dec_le 1 (over b s i))
  where
    go : Dec (1 ≤ over b s i) → over b s i ≤ 1
    go (no p) = omega arith
    go (yes p) = omega (arith, over_in b s i (over_pos b s i p).0 (over_pos b s i p).1)

-- where a word is in no block, it is in no part of it
pub over_part : (b s c r i : ℕ) → over b s i ≡ 0 → b ≤ c → c + r ≤ b + s → over c r i ≡ 0
over_part b s c r i h k l = go (dec_le 1 (over c r i))
  where
    go : Dec (1 ≤ over c r i) → over c r i ≡ 0
    go (yes p) = let q = over_pos c r i p in absurd (omega (arith, over_in b s i (omega arith) (omega arith)))
    go (no q) = omega arith

-- two blocks end to end are one
pub over_add : (b s t i : ℕ) → over b (s + t) i ≡ over b s i + over (b + s) t i
over_add b s t i = go (dec_lt i b) (dec_lt i (b + s)) (dec_lt i (b + s + t))
  where
    go : Dec (i < b) → Dec (i < b + s) → Dec (i < b + s + t) → over b (s + t) i ≡ over b s i + over (b + s) t i
    go (yes p) d e = omega (arith, over_left b (s + t) i p, over_left b s i p, over_left (b + s) t i (omega arith))
    go (no p) (yes q) e = omega (arith, over_in b (s + t) i (omega arith) (omega arith), over_in b s i (omega arith) q, over_left (b + s) t i q)
    go (no p) (no q) (yes r) =
        omega (arith, over_in b (s + t) i (omega arith) (omega arith), over_right b s i (omega arith), over_in (b + s) t i (omega arith) r)
    go (no p) (no q) (no r) = omega (arith, over_right b (s + t) i (omega arith), over_right b s i (omega arith), over_right (b + s) t i (omega arith))

-- A sum along a list: with one element set, at least each element, and at least two different ones together
pub sum_set {ℓ} : {A : Type ℓ} (f : ℕ → A → ℕ) (l : List A) (k : ℕ) (a d : A) → k < length l → sum f (set l k a) + f k (get_or l k d) ≡ sum f l + f k a
unfolding sum
sum_set f [] k a d h = absurd (not-suc-le-zero h)
sum_set f (x ∷ xs) zero a d h = omega arith
sum_set f (x ∷ xs) (suc k) a d h = omega (arith, sum_set (λ j. f (suc j)) xs k a d (le_of_suc-le-suc h))

pub sum_ge {ℓ} : {A : Type ℓ} (f : ℕ → A → ℕ) (l : List A) (k : ℕ) (d : A) → k < length l → f k (get_or l k d) ≤ sum f l
unfolding sum
sum_ge f [] k d h = absurd (not-suc-le-zero h)
sum_ge f (x ∷ xs) zero d h = omega arith
sum_ge f (x ∷ xs) (suc k) d h = omega (arith, sum_ge (λ j. f (suc j)) xs k d (le_of_suc-le-suc h))

pub sum_ge_two {ℓ} : {A : Type ℓ} (f : ℕ → A → ℕ) (l : List A) (j k : ℕ) (d : A) → j < k → k < length l → f j (get_or l j d) + f k (get_or l k d) ≤ sum f l
unfolding sum
sum_ge_two f [] j k d g h = absurd (not-suc-le-zero h)
sum_ge_two f (x ∷ xs) j zero d g h = absurd (not-suc-le-zero g)
sum_ge_two f (x ∷ xs) zero (suc k) d g h = omega (arith, sum_ge (λ j. f (suc j)) xs k d (le_of_suc-le-suc h))
sum_ge_two f (x ∷ xs) (suc j) (suc k) d g h = omega (arith, sum_ge_two (λ i. f (suc i)) xs j k d (le_of_suc-le-suc g) (le_of_suc-le-suc h))

-- of equal summands, of no summand, and of a sum that is not 0
pub sum_cong {ℓ} : {A : Type ℓ} (f g : ℕ → A → ℕ) (l : List A) (d : A) → ((k : ℕ) → k < length l → f k (get_or l k d) ≡ g k (get_or l k d)) → sum f l ≡ sum g l
unfolding sum
sum_cong f g [] d h = refl
sum_cong f g (x ∷ xs) d h =
    omega (arith, h 0 (omega arith), sum_cong (λ k. f (suc k)) (λ k. g (suc k)) xs d (λ k p. h (suc k) (omega arith)))

pub sum_zero {ℓ} : {A : Type ℓ} (f : ℕ → A → ℕ) (l : List A) (d : A) → ((k : ℕ) → k < length l → f k (get_or l k d) ≡ 0) → sum f l ≡ 0
unfolding sum
sum_zero f [] d h = refl
sum_zero f (x ∷ xs) d h = omega (arith, h 0 (omega arith), sum_zero (λ k. f (suc k)) xs d (λ k p. h (suc k) (omega arith)))

pub sum_pos {ℓ} : {A : Type ℓ} (f : ℕ → A → ℕ) (l : List A) (d : A) → 1 ≤ sum f l → (k : ℕ) × (k < length l) × (1 ≤ f k (get_or l k d))
unfolding sum
sum_pos f [] d h = absurd (not-suc-le-zero h)
sum_pos f (x ∷ xs) d h = go (λ p. sum_pos (λ k. f (suc k)) xs d p) (dec_lt 0 (f 0 x))
  where
    go : (1 ≤ sum (λ k. f (suc k)) xs → (k : ℕ) × (k < length xs) × (1 ≤ f (suc k) (get_or xs k d)))
        → Dec (0 < f 0 x) → (k : ℕ) × (k < suc (length xs)) × (1 ≤ f k (get_or (x ∷ xs) k d))
    go rec (yes p) = (0, omega arith, p)
    go rec (no q) = let r = rec (omega arith) in (suc r.0, omega (arith, r.1), r.2)
