-- `deep_clone_done` meets its contract: the list grows, and the other's elements are copied there.
use Rattle.pool.specs.Rules.{deep_clone_done}
use Rattle.pool.proofs.ListPool.deep_clone_done.Goals as goal

pub returns : goal.returns
unfolding deep_clone_done
returns c = rw (← c.length_at-len.ensures, ← c.grow.ensures.is, ← c.copy.ensures)
