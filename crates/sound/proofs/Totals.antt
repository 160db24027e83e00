-- Laws of totals: of a count at each word, added up over the words below n. A block's words are as many as its size.
use Rattle.std.specs.Prelude.{◌≡◌, refl, List, [], ◌∷◌, ℕ, zero, suc, ◌+◌, ◌≤◌, ◌<◌, min}
use Rattle.std.proofs.Common.{◌∙◌, arith}
use Rattle.std.proofs.Math.Decide.{dec_lt}
use Rattle.sound.specs.Sound.{sum, over}
use Rattle.sound.proofs.Sums.{over_in, over_left, over_right}

-- f 0 + .. + f (n - 1)
unfoldable pub upto : ℕ → (ℕ → ℕ) → ℕ
upto zero f = 0
upto (suc n) f = upto n f + f n

pub upto_zero : (n : ℕ) → upto n (λ i. 0) ≡ 0
unfolding upto
upto_zero zero = refl
upto_zero (suc n) = omega (arith, upto_zero n)

pub upto_cong : (n : ℕ) (f g : ℕ → ℕ) → ((i : ℕ) → f i ≡ g i) → upto n f ≡ upto n g
unfolding upto
upto_cong zero f g h = refl
upto_cong (suc n) f g h = omega (arith, upto_cong n f g h, h n)

pub upto_add : (n : ℕ) (f g : ℕ → ℕ) → upto n (λ i. f i + g i) ≡ upto n f + upto n g
unfolding upto
upto_add zero f g = refl
upto_add (suc n) f g = omega (arith, upto_add n f g)

-- a total of sums along a list is a sum of totals
pub upto_sum {ℓ} : {A : Type ℓ} (n : ℕ) (f : ℕ → ℕ → A → ℕ) (l : List A) → upto n (λ i. sum (f i) l) ≡ sum (λ k x. upto n (λ i. f i k x)) l
unfolding sum
upto_sum n f [] = upto_zero n
upto_sum n f (x ∷ xs) = upto_add n (λ i. f i 0 x) (λ i. sum (λ k. f i (suc k)) xs) ∙ omega (arith, upto_sum n (λ i k. f i (suc k)) xs)

-- the words of a block that lie below n, with those before it
upto_before : (b s n : ℕ) → upto n (over b s) + min n b ≡ min n (b + s)
unfolding upto
upto_before b s zero = omega arith
upto_before b s (suc n) = go (dec_lt n b) (dec_lt n (b + s)) (upto_before b s n)
  where
    go : Dec (n < b) → Dec (n < b + s) → upto n (over b s) + min n b ≡ min n (b + s) → upto n (over b s) + over b s n + min (suc n) b ≡ min (suc n) (b + s)
    go (yes p) d e = omega (arith, over_left b s n p)
    go (no p) (yes q) e = omega (arith, over_in b s n (omega arith) q)
    go (no p) (no q) e = omega (arith, over_right b s n (omega arith))

pub upto_over : (b s n : ℕ) → b + s ≤ n → upto n (over b s) ≡ s
upto_over b s n h = omega (arith, upto_before b s n)
