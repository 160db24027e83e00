-- The laws of classes and sizes, each stated once over the class and never by cases of it. Only the last part reads the number of classes and the
-- longest length.
use Rattle.std.specs.Prelude.{◌≡◌, refl, ◌↔◌}
use Rattle.std.proofs.Common.{sym, ◌∙◌, le_trans, le_of_eq, le_antisymm, le_of_suc-le-suc, lt_of_not-le, arith, lit<, pow_mono, pow_pos}
use Rattle.std.proofs.Math.Path.{ap}
use Prim.Native.Nat.{ℕ, zero, suc, pred, ◌+◌, ◌-◌, ◌*◌, ◌/◌, ◌%◌, ◌^◌, ◌≤◌, ◌<◌, suc-le-suc}
use Rattle.std.proofs.Math.Nat.{pow-suc, suc-pred-eq_of_pos}
use Rattle.std.specs.Int.Bits.{bit_or, or_add_and}
use Rattle.std.proofs.lemmas.Nat.{and_comm, and_mask, or_lt, leading_top}
use Rattle.std.specs.Int.Count.{count_leading_zeros}
use Rattle.sizes.specs.Class.{smallest, class_count, longest, class_of, size_of, ClassOf, SizeOf}

not_more : {a b : ℕ} → ¬ (b < a) → a ≤ b
not_more h = le_of_suc-le-suc (lt_of_not-le h)

-- Sizes: each is twice the one before, a multiple of 4, at least the smallest.

pub size_suc : (c : ℕ) → size_of (suc c) ≡ 2 * size_of c
unfolding size_of
size_suc c = omega (arith, pow-suc 2 c)

pub size_mono : {a b : ℕ} → a ≤ b → size_of a ≤ size_of b
unfolding size_of
size_mono h = omega (arith, pow_mono h)

pub size_more : {a b : ℕ} → a < b → 2 * size_of a ≤ size_of b
size_more {a} h = le_trans (le_of_eq (sym (size_suc a))) (size_mono h)

pub size_least : (c : ℕ) → smallest ≤ size_of c
unfolding size_of
size_least c = omega (arith, pow_pos c)

pub size_fours : (c : ℕ) → size_of c % 4 ≡ 0
unfolding size_of
size_fours c = omega arith

-- from class 62 on no 64-bit word holds the size
pub size_beyond : {c : ℕ} → 62 ≤ c → 2 ^ 64 ≤ size_of c
unfolding size_of
size_beyond h = size_mono h

top_size : size_of 30 ≡ 2 ^ 32
unfolding size_of
top_size = refl

-- The class of a length.

-- (n or 3) is the last number of the group of four that n is in
pub or_three : (n : ℕ) → bit_or 3 n ≡ n / 4 * 4 + 3
or_three n = omega (arith, or_add_and 3 n, and_comm 3 n, and_mask n 2)

pub class_le : (n : ℕ) → class_of n ≤ 30
unfolding class_of
class_le n = omega arith

module _ (n : ℕ) (h : n < 2 ^ 32) where
  -- the place of the highest set digit of (n or 3), which is one more than the class
  top : (t : ℕ) × (count_leading_zeros 32 (bit_or 3 n) + suc t ≡ 32) × (0 < t) × (2 ^ t ≤ n / 4 * 4 + 3) × (n / 4 * 4 + 3 < 2 * 2 ^ t)
  top =
      let t = leading_top 32 (bit_or 3 n) (omega (arith, or_three n)) (or_lt 32 3 n (lit< tt) h) in
      let pos : 0 < t.0 = lt_of_not-le (λ (g : t.0 ≤ 0). omega (arith, t.3, or_three n, pow_mono (suc-le-suc g))) in
      (t.0, t.1, pos, omega (arith, t.2, or_three n), omega (arith, t.3, or_three n, pow-suc 2 t.0))

  pub zeros_le : count_leading_zeros 32 (bit_or 3 n) ≤ 30
  zeros_le = omega (arith, top.1, top.2)

  top_class : 2 ^ top.0 ≡ 2 * 2 ^ class_of n
  unfolding class_of
  top_class =
      let e : top.0 ≡ suc (30 - count_leading_zeros 32 (bit_or 3 n)) = omega (arith, top.1, top.2) in
      ap (λ (k : ℕ). 2 ^ k) e ∙ omega (arith, pow-suc 2 (30 - count_leading_zeros 32 (bit_or 3 n)))

  -- a block of n's class holds the length word and n elements
  pub class_fits : n + 1 ≤ size_of (class_of n)
  unfolding size_of
  class_fits = omega (arith, top.4, top_class)

  -- and half of it does not
  pub class_tight : 0 < class_of n → size_of (class_of n) ≤ 2 * n
  unfolding size_of
  class_tight p = omega (arith, top.3, top_class, pow-suc 2 (pred (class_of n)), ap (λ (k : ℕ). 2 ^ k) (suc-pred-eq_of_pos p))

  -- it is the least class whose block does
  pub class_least : (c : ℕ) → n + 1 ≤ size_of c → class_of n ≤ c
  class_least c low = not_more (λ (g : c < class_of n). omega (arith, class_tight (omega arith), size_more g))

  -- and the only one whose block does and whose half does not
  pub class_unique : (c : ℕ) → n + 1 ≤ size_of c → (0 < c → size_of c ≤ 2 * n) → class_of n ≡ c
  class_unique c low high =
      le_antisymm (class_least c low) (not_more (λ (g : class_of n < c). omega (arith, class_fits, high (omega arith), size_more g)))

-- a number of k digits and more has no zero above its k lowest
leading_none : (k a : ℕ) → 2 ^ k ≤ a → count_leading_zeros k a ≡ 0
unfolding count_leading_zeros
leading_none zero a h = refl
leading_none (suc k) zero h = absurd (omega (arith, pow_pos (suc k)))
leading_none (suc k) (suc a) h = leading_none k (suc a / 2) (omega (arith, pow-suc 2 k))

-- a number beyond 32 bits gets the largest class
class_beyond : (n : ℕ) → 2 ^ 32 ≤ n → class_of n ≡ 30
unfolding class_of
class_beyond n h = rw (leading_none 32 (bit_or 3 n) (omega (arith, or_three n)))

-- So of any number whatever: where the size of its class is below 2^32, a block of it holds the length word and n elements
pub class_holds : (n : ℕ) → size_of (class_of n) < 2 ^ 32 → n + 1 ≤ size_of (class_of n)
class_holds n l = class_fits n (lt_of_not-le (λ (g : 2 ^ 32 ≤ n). omega (arith, ap size_of (class_beyond n g), top_size)))

-- longer lists have no smaller class
pub class_mono : (m n : ℕ) → m ≤ n → n < 2 ^ 32 → class_of m ≤ class_of n
class_mono m n l h = class_least m (omega arith) (class_of n) (omega (arith, class_fits n h))

-- One element more.
module _ (n : ℕ) (h : n + 1 < 2 ^ 32) where
  -- the class stays while the block has room
  pub class_stays : n + 1 < size_of (class_of n) → class_of (n + 1) ≡ class_of n
  class_stays l = class_unique (n + 1) h (class_of n) (omega arith) (λ p. omega (arith, class_tight n (omega arith) p))

  -- and is the next one where it is full
  pub class_moves : n + 1 ≡ size_of (class_of n) → class_of (n + 1) ≡ suc (class_of n)
  class_moves e =
      class_unique (n + 1) h (suc (class_of n)) (omega (arith, size_suc (class_of n), size_least (class_of n)))
      (λ p. omega (arith, size_suc (class_of n)))

  -- "when the new length is 4, 8, 16 and so on": the class changes exactly there
  pub class_changes : (class_of (n + 1) ≡ class_of n → ⊥) ↔ ((c : ℕ) × (n + 1 ≡ size_of c))
  class_changes = (there, only)
    where
      there : (class_of (n + 1) ≡ class_of n → ⊥) → (c : ℕ) × (n + 1 ≡ size_of c)
      there d = (class_of n, le_antisymm (class_fits n (omega arith)) (not_more (λ (g : n + 1 < size_of (class_of n)). d (class_stays g))))

      only : (c : ℕ) × (n + 1 ≡ size_of c) → class_of (n + 1) ≡ class_of n → ⊥
      only (c, e) same =
          let room : n + 1 + 1 ≤ size_of (class_of n) = omega (arith, class_fits (n + 1) h, ap size_of same) in
          let less : c < class_of n = lt_of_not-le (λ (g : class_of n ≤ c). omega (arith, size_mono g)) in
          omega (arith, class_tight n (omega arith) (omega arith), size_more less)

-- The limits.

-- the longest length fills a block of the last class
pub longest_fills : longest + 1 ≡ size_of (pred class_count)
unfolding size_of
longest_fills = refl

-- the lengths up to the longest are exactly those whose class is below the count
pub class_legal : (n : ℕ) → n < 2 ^ 32 → (n ≤ longest) ↔ (class_of n < class_count)
unfolding size_of
class_legal n h = (
  λ l. suc-le-suc (class_least n h (pred class_count) (omega arith)),
  λ (l : class_of n < class_count). omega (arith, class_fits n h, size_mono (le_of_suc-le-suc l)),
)

pub class_below : (n : ℕ) → n ≤ longest → class_of n < class_count
class_below n l = (class_legal n (omega arith)).0 l

-- "any two outcomes that satisfy it are shown equal": of the class of a length, and of the size of a class
pub class_determined : {n r r' : ℕ} → ClassOf n r → ClassOf n r' → r ≡ r'
class_determined a b = a.is ∙ sym b.is

pub size_determined : {c r r' : ℕ} → SizeOf c r → SizeOf c r' → r ≡ r'
size_determined a b = a.is ∙ sym b.is
