-- `realloc` meets its contract: the three steps are the rule's.
use Rattle.pool.specs.Blocks as blocks
use Rattle.pool.proofs.ListPool.realloc.Goals as goal

pub returns : goal.returns
unfolding blocks.realloc
returns c =
    record {
      is = rw (← c.alloc-at.ensures.is, ← c.copy.ensures, ← c.free.ensures);
      ends = c.alloc-at.ensures.ends;
    }
