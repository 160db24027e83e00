-- `copy_from_done` meets its contract: places are opened, and the range is copied there.
use Rattle.pool.specs.Rules.{copy_from_done}
use Rattle.pool.proofs.ListPool.copy_from_done.Goals as goal

pub returns : goal.returns
unfolding copy_from_done
returns c = rw (← c.opened-at.ensures.rule, ← c.opened-at.ensures.place.0, ← c.copy.ensures)
