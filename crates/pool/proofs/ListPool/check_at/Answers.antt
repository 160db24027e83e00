-- `check_at` meets its contract.
use Rattle.std.proofs.Common.{arith}
use Rattle.pool.specs.Numbers.{◌or_else◌, given}
use Rattle.pool.specs.Rules.{at_number}
use Rattle.pool.proofs.Refusals.{stopped, entered}
use Rattle.pool.proofs.Tests.{tests}
use Rattle.pool.proofs.ListPool.check_at.Goals as goal

pub returns-in_err-check_entry : goal.returns-in_err-check_entry
unfolding at_number
returns-in_err-check_entry c = stopped _ _ _ c.from_residual.ensures.1 c.in_err-check_entry.ensures

pub offset_bounds-handles-slot : goal.offset_bounds-handles-slot
offset_bounds-handles-slot c = let f = entered c.in_ok-check_entry.ensures in omega arith

pub bounds-handles-slot : goal.bounds-handles-slot
bounds-handles-slot c = (entered c.in_ok-check_entry.ensures).inside

pub length_at-requires : goal.length_at-requires
length_at-requires c = (entered c.in_ok-check_entry.ensures).list.below

pub returns-then-position-length_at : goal.returns-then-position-length_at
unfolding at_number given ◌or_else◌
returns-then-position-length_at c = search (tests, ← c.in_ok-check_entry.ensures, ← c.length_at.ensures)

pub returns : goal.returns
unfolding at_number given ◌or_else◌
returns c = search (tests, ← c.in_ok-check_entry.ensures, ← c.length_at.ensures)
