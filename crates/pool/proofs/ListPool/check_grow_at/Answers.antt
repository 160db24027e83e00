-- `check_grow_at` meets its contract.
use Rattle.std.proofs.Common.{arith}
use Rattle.pool.specs.Numbers.{◌or_else◌, given}
use Rattle.pool.specs.Rules.{grow_at_number}
use Rattle.pool.proofs.Refusals.{stopped, entered}
use Rattle.pool.proofs.Tests.{tests}
use Rattle.pool.proofs.ListPool.check_grow_at.Goals as goal

pub returns-in_err-check_entry : goal.returns-in_err-check_entry
unfolding grow_at_number
returns-in_err-check_entry c = stopped _ _ _ c.from_residual.ensures.1 c.in_err-check_entry.ensures

pub offset_bounds-handles-slot : goal.offset_bounds-handles-slot
offset_bounds-handles-slot c = let f = entered c.in_ok-check_entry.ensures in omega arith

pub bounds-handles-slot : goal.bounds-handles-slot
bounds-handles-slot c = (entered c.in_ok-check_entry.ensures).inside

pub length_at-old-requires : goal.length_at-old-requires
length_at-old-requires c = (entered c.in_ok-check_entry.ensures).list.below

pub returns-then-position-old : goal.returns-then-position-old
unfolding grow_at_number given ◌or_else◌
returns-then-position-old c = search (tests, ← c.in_ok-check_entry.ensures, ← c.length_at-old.ensures)

pub check_more-requires : goal.check_more-requires
check_more-requires c = rw c.length_at-old.ensures (entered c.in_ok-check_entry.ensures).list.short

pub returns : goal.returns
unfolding grow_at_number given ◌or_else◌
returns c = let n = c.length_at-old.ensures in search (tests, ← c.in_ok-check_entry.ensures, ← n, c.check_more.ensures)
