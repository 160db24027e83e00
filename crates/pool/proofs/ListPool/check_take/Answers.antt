-- `check_take` meets its contract: 1, 2 and 3 for both slots, then 5.
use Rattle.std.proofs.Common.{arith}
use Rattle.pool.specs.Numbers.{◌or_else◌, given}
use Rattle.pool.specs.Rules.{take_number}
use Rattle.pool.proofs.Refusals.{stopped, entered₂}
use Rattle.pool.proofs.Tests.{tests}
use Rattle.pool.proofs.ListPool.check_take.Goals as goal
use Rattle.pool.proofs.ListPool.check_take.Goals.{then-slot-to-via-then-slot-to, then-slot-to-via-else-slot-to+then-handles-to-ne0}

pub returns-in_err-check_entries : goal.returns-in_err-check_entries
unfolding take_number
returns-in_err-check_entries c = stopped _ _ _ c.from_residual.ensures.1 c.in_err-check_entries.ensures

pub offset_bounds-handles-to : goal.offset_bounds-handles-to
offset_bounds-handles-to c = let f = entered₂ c.in_ok-check_entries.ensures in omega arith

pub bounds-handles-to : goal.bounds-handles-to
bounds-handles-to c = (entered₂ c.in_ok-check_entries.ensures).1.inside

pub returns-then-slot-to : goal.returns-then-slot-to
unfolding take_number given ◌or_else◌
returns-then-slot-to c =
    elim c.then-slot-to.branch [
      | then-slot-to-via-then-slot-to w ↦ search (tests, ← c.in_ok-check_entries.ensures)
      | then-slot-to-via-else-slot-to+then-handles-to-ne0 w ↦ search (tests, ← c.in_ok-check_entries.ensures)
    ]

pub returns : goal.returns
unfolding take_number given ◌or_else◌
returns c = search (tests, ← c.in_ok-check_entries.ensures)
