-- `check_need` meets its contract.
use Rattle.pool.specs.Numbers.{need_number}
use Rattle.pool.proofs.Tests.{tests}
use Rattle.pool.proofs.ListPool.check_need.Goals as goal

pub returns-then-needs_block : goal.returns-then-needs_block
unfolding need_number
returns-then-needs_block c = search (tests, ← c.needs_block.ensures, c.if-needs_block.true, c.check_room.ensures)

pub returns : goal.returns
unfolding need_number
returns c = search (tests, ← c.needs_block.ensures, c.if-needs_block.false)
