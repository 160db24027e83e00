-- `release` meets its contract: the block is freed, and the handle is 0.
use Rattle.std.proofs.Common.{ne_eqb, arith}
use Rattle.pool.specs.Rules.{cleared}
use Rattle.pool.proofs.StepLaws.{can_free}
use Rattle.pool.proofs.ListPool.release.Goals as goal

pub free-requires : goal.free-requires
free-requires c = let p = c.requires in rw c.for_length.ensures.is (can_free _ _ _ p.0 (p.0.live p.1) p.2)

pub returns : goal.returns
unfolding cleared
returns c = rw (ne_eqb c.args.h 0 (omega (arith, c.requires.1)), ← c.for_length.ensures.is, ← c.free.ensures)
