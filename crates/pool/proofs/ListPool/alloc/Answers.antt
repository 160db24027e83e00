-- `alloc` meets its contract.
use Rattle.std.proofs.Common.{eq-eqb, ne_eqb, arith}
use Rattle.pool.specs.Blocks as blocks
use Rattle.pool.proofs.StepLaws.{head_below}
use Rattle.pool.proofs.ListPool.alloc.Goals as goal

pub returns-then-head-eq0 : goal.returns-then-head-eq0
unfolding blocks.alloc blocks.fresh
returns-then-head-eq0 c =
    record {
      is = search (eq-eqb, ← c.size-n.ensures.exact (omega arith), c.fill.ensures);
      ends = c.requires.fresh c.if-head-eq0.true;
    }

pub bounds-pool-head : goal.bounds-pool-head
bounds-pool-head c = head_below _ _ c.args.c c.requires

pub returns : goal.returns
unfolding blocks.alloc blocks.recycled
returns c = record { is = search ne_eqb; ends = c.requires.recycled (omega arith) }
