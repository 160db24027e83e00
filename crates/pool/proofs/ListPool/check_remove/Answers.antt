-- `check_remove` meets its contract: the position's number, then 6 or 7.
use Rattle.std.proofs.Common.{arith}
use Rattle.pool.specs.Numbers.{◌or_else◌}
use Rattle.pool.specs.Rules.{remove_number}
use Rattle.pool.proofs.Refusals.{stopped, entered_at}
use Rattle.pool.proofs.Tests.{tests}
use Rattle.pool.proofs.ListPool.check_remove.Goals as goal

pub returns-in_err-check_at : goal.returns-in_err-check_at
unfolding remove_number
returns-in_err-check_at c = stopped _ _ _ c.from_residual.ensures.1 c.in_err-check_at.ensures

pub offset_bounds-handles-slot : goal.offset_bounds-handles-slot
offset_bounds-handles-slot c = let f = (entered_at c.in_ok-check_at.ensures).1 in omega arith

pub bounds-handles-slot : goal.bounds-handles-slot
bounds-handles-slot c = (entered_at c.in_ok-check_at.ensures).0.inside

pub length_at-old-requires : goal.length_at-old-requires
length_at-old-requires c = let f = (entered_at c.in_ok-check_at.ensures).1 in omega arith

pub overflow_sub-old : goal.overflow_sub-old
overflow_sub-old c = let f = (entered_at c.in_ok-check_at.ensures).1 in omega arith

pub returns : goal.returns
unfolding remove_number ◌or_else◌
returns c = search (tests, ← c.in_ok-check_at.ensures, ← c.length_at-old.ensures, c.check_need.ensures)
