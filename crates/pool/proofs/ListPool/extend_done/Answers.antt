-- `extend_done` meets its contract: the list grows, and the elements are stored behind the old ones.
use Rattle.pool.specs.Rules.{extend_done}
use Rattle.pool.proofs.ListPool.extend_done.Goals as goal

pub returns : goal.returns
unfolding extend_done
returns c = rw (← c.grow.ensures.is, ← c.length_at-old.ensures, ← c.store.ensures)
