-- The size of a class as C's interface gives it, in a 32-bit word.
use Rattle.std.specs.Prelude.{ℕ, cond, ltb}
use Rattle.sizes.specs.Class.{size_of}

-- "Size of class c: 4 shifted left by c." as far as a 32-bit word goes: 0 from class 30 on, where 4 is shifted out
unfoldable pub size_fits : ℕ → ℕ
size_fits c = cond (ltb c 30) (size_of c) 0
