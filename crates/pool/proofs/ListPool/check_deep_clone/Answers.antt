-- `check_deep_clone` meets its contract: an empty list grows by the other's length.
use Rattle.std.proofs.Common.{arith}
use Rattle.pool.specs.Numbers.{◌or_else◌, given}
use Rattle.pool.specs.Rules.{deep_clone_number}
use Rattle.pool.proofs.Refusals.{stopped, entered₂}
use Rattle.pool.proofs.Tests.{tests}
use Rattle.pool.proofs.ListPool.check_deep_clone.Goals as goal

pub returns-in_err-check_entries : goal.returns-in_err-check_entries
unfolding deep_clone_number
returns-in_err-check_entries c = stopped _ _ _ c.from_residual.ensures.1 c.in_err-check_entries.ensures

pub offset_bounds-handles-to : goal.offset_bounds-handles-to
offset_bounds-handles-to c = let f = entered₂ c.in_ok-check_entries.ensures in omega arith

pub bounds-handles-to : goal.bounds-handles-to
bounds-handles-to c = (entered₂ c.in_ok-check_entries.ensures).1.inside

pub returns-then-handles-to-ne0 : goal.returns-then-handles-to-ne0
unfolding deep_clone_number given ◌or_else◌
returns-then-handles-to-ne0 c = search (tests, ← c.in_ok-check_entries.ensures)

pub offset_bounds-handles-slot : goal.offset_bounds-handles-slot
offset_bounds-handles-slot c = let f = entered₂ c.in_ok-check_entries.ensures in omega arith

pub bounds-handles-slot : goal.bounds-handles-slot
bounds-handles-slot c = (entered₂ c.in_ok-check_entries.ensures).0.inside

pub length_at-requires : goal.length_at-requires
length_at-requires c = (entered₂ c.in_ok-check_entries.ensures).0.list.below

pub returns : goal.returns
unfolding deep_clone_number given ◌or_else◌
returns c = let n = c.length_at.ensures in search (tests, ← c.in_ok-check_entries.ensures, ← n, c.check_need.ensures)
