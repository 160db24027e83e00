-- `check_from_slice` meets its contract: an empty list grows by the count.
use Rattle.std.proofs.Common.{zero-add, arith}
use Rattle.pool.specs.Numbers.{◌or_else◌, given}
use Rattle.pool.specs.Rules.{from_slice_number}
use Rattle.pool.proofs.Refusals.{stopped, entered}
use Rattle.pool.proofs.Tests.{tests}
use Rattle.pool.proofs.ListPool.check_from_slice.Goals as goal

pub returns-in_err-check_entry : goal.returns-in_err-check_entry
unfolding from_slice_number
returns-in_err-check_entry c = stopped _ _ _ c.from_residual.ensures.1 c.in_err-check_entry.ensures

pub offset_bounds-handles-slot : goal.offset_bounds-handles-slot
offset_bounds-handles-slot c = let f = entered c.in_ok-check_entry.ensures in omega arith

pub bounds-handles-slot : goal.bounds-handles-slot
bounds-handles-slot c = (entered c.in_ok-check_entry.ensures).inside

pub returns-then-handles-slot-ne0 : goal.returns-then-handles-slot-ne0
unfolding from_slice_number given ◌or_else◌
returns-then-handles-slot-ne0 c = search (tests, ← c.in_ok-check_entry.ensures)

pub returns : goal.returns
unfolding from_slice_number given ◌or_else◌
returns c = let e = rw zero-add at c.check_more.ensures in search (tests, ← c.in_ok-check_entry.ensures, e)
