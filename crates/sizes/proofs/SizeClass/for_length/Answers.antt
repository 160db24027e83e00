-- `SizeClass::for_length` meets its contract: the code's `n | 3` is the definition's, with the sides exchanged.
use Rattle.std.proofs.Common.{ℕ, ◌-◌, ap, arith}
use Rattle.std.specs.Int.Count.{count_leading_zeros}
use Rattle.std.proofs.lemmas.Nat.{or_comm}
use Rattle.sizes.specs.Class.{class_of}
use Rattle.sizes.proofs.Laws.{zeros_le}
use Rattle.sizes.proofs.SizeClass.for_length.Goals as goal

pub overflow_sub-result : goal.overflow_sub-result
overflow_sub-result c = omega (arith, zeros_le c.args.n (omega arith), ap (count_leading_zeros 32) (or_comm c.args.n 3))

pub returns : goal.returns
unfolding class_of
returns c = record { is = ap (λ (m : ℕ). 30 - count_leading_zeros 32 m) (or_comm c.args.n 3); most = omega arith }
