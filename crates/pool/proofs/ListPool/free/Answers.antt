-- `free` meets its contract.
use Rattle.std.proofs.Common.{refl, length-set, arith}
use Rattle.sizes.proofs.Laws.{size_least}
use Rattle.pool.specs.Blocks as blocks
use Rattle.pool.proofs.ListPool.free.Goals as goal

pub bounds-pool-block : goal.bounds-pool-block
bounds-pool-block c = omega (arith, size_least c.args.c)

pub bounds-pool-block-2 : goal.bounds-pool-block-2
bounds-pool-block-2 c = simp length-set (omega (arith, size_least c.args.c))

pub returns : goal.returns
unfolding blocks.free
returns c = refl
