-- Size classes: word rule 1 of paper 01, the class of a length and the size of a class, with their limits.
use Rattle.std.specs.Prelude.{◌≡◌, cond, ℕ, ◌-◌, ◌*◌, ◌^◌, ◌≤◌, ◌<◌, ltb}
use Rattle.std.specs.Int.Bits.{bit_or}
use Rattle.std.specs.Int.Count.{count_leading_zeros}

-- "held with their limits as constants of the class type": the smallest size, the number of classes, the longest length
abbrev pub smallest : ℕ
smallest = 4

abbrev pub class_count : ℕ
class_count = 15

abbrev pub longest : ℕ
longest = 65535

-- "Class of a length n: 30 minus the leading zeros of (n or 3) as 32 bits."
unfoldable pub class_of : ℕ → ℕ
unfolding count_leading_zeros
class_of n = 30 - count_leading_zeros 32 (bit_or 3 n)

-- "Size of class c: 4 shifted left by c."
unfoldable pub size_of : ℕ → ℕ
size_of c = smallest * 2 ^ c

-- The formulas stop at no limit, and neither does the code: the class of every 32-bit length is the formula's,
-- and so is the size of every class, as far as a 64-bit word goes: 0 from class 62 on, where 4 is shifted out.
unfoldable pub size_word : ℕ → ℕ
size_word c = cond (ltb c 62) (size_of c) 0

-- what the code ensures: the class of n, and that it is one of the 31 that 32-bit lengths have
pub record ClassOf (n r : ℕ) : Type 0 where
  pub is : r ≡ class_of n
  pub most : r ≤ 30

-- the size of c, which is exact as far as a 64-bit word goes, and never so large that a sum with a 32-bit number wraps
pub record SizeOf (c r : ℕ) : Type 0 where
  pub is : r ≡ size_word c
  pub exact : c < 62 → r ≡ size_of c
  pub most : r ≤ 2 ^ 63
