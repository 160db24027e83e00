-- `check_copy_from` meets its contract: 4, 5 and the numbers of a list that grows by the range.
use Rattle.std.proofs.Common.{le-ltb, eq-eqb, ne_eqb, arith}
use Rattle.pool.specs.Numbers.{◌or_else◌, given}
use Rattle.pool.specs.Rules.{copy_from_number}
use Rattle.pool.proofs.Refusals.{stopped, entered₂}
use Rattle.pool.proofs.Tests.{tests}
use Rattle.pool.proofs.ListPool.check_copy_from.Goals as goal
use Rattle.pool.proofs.ListPool.check_copy_from.Goals.{then-position-old-via-then-position-old, then-position-old-via-else-position-old+then-start-end, then-position-old-via-else-position-old+else-start-end+then-end-length_at}

pub returns-in_err-check_entries : goal.returns-in_err-check_entries
unfolding copy_from_number
returns-in_err-check_entries c = stopped _ _ _ c.from_residual.ensures.1 c.in_err-check_entries.ensures

pub offset_bounds-handles-slot : goal.offset_bounds-handles-slot
offset_bounds-handles-slot c = let f = entered₂ c.in_ok-check_entries.ensures in omega arith

pub bounds-handles-slot : goal.bounds-handles-slot
bounds-handles-slot c = (entered₂ c.in_ok-check_entries.ensures).0.inside

pub length_at-old-requires : goal.length_at-old-requires
length_at-old-requires c = (entered₂ c.in_ok-check_entries.ensures).0.list.below

pub offset_bounds-handles-source : goal.offset_bounds-handles-source
offset_bounds-handles-source c = let f = entered₂ c.in_ok-check_entries.ensures in omega arith

pub bounds-handles-source : goal.bounds-handles-source
bounds-handles-source c = (entered₂ c.in_ok-check_entries.ensures).1.inside

pub length_at-requires : goal.length_at-requires
length_at-requires c = (entered₂ c.in_ok-check_entries.ensures).1.list.below

pub returns-then-position-old : goal.returns-then-position-old
unfolding copy_from_number given ◌or_else◌
returns-then-position-old c =
    let n = c.length_at-old.ensures in
    elim c.then-position-old.branch [
      | then-position-old-via-then-position-old w ↦ search (tests, ← c.in_ok-check_entries.ensures, ← n)
      | then-position-old-via-else-position-old+then-start-end w ↦ search (tests, ← c.in_ok-check_entries.ensures, ← n)
      | then-position-old-via-else-position-old+else-start-end+then-end-length_at w ↦ search (tests, ← c.in_ok-check_entries.ensures, ← n, ← w.length_at.ensures)
    ]

pub offset_bounds-handles-slot-2 : goal.offset_bounds-handles-slot-2
offset_bounds-handles-slot-2 c = let f = entered₂ c.in_ok-check_entries.ensures in omega arith

pub bounds-handles-slot-2 : goal.bounds-handles-slot-2
bounds-handles-slot-2 c = (entered₂ c.in_ok-check_entries.ensures).0.inside

pub offset_bounds-handles-source-2 : goal.offset_bounds-handles-source-2
offset_bounds-handles-source-2 c = let f = entered₂ c.in_ok-check_entries.ensures in omega arith

pub bounds-handles-source-2 : goal.bounds-handles-source-2
bounds-handles-source-2 c = (entered₂ c.in_ok-check_entries.ensures).1.inside

pub returns-then-handles-slot : goal.returns-then-handles-slot
unfolding copy_from_number given ◌or_else◌
returns-then-handles-slot c = search (tests, ← c.in_ok-check_entries.ensures, ← c.length_at-old.ensures, ← c.length_at.ensures)

pub check_more-requires : goal.check_more-requires
check_more-requires c = rw c.length_at-old.ensures (entered₂ c.in_ok-check_entries.ensures).0.list.short

pub returns : goal.returns
unfolding copy_from_number given ◌or_else◌
returns c =
    let n = c.length_at-old.ensures in
    search (le-ltb, eq-eqb, ne_eqb, ← c.in_ok-check_entries.ensures, ← n, ← c.length_at.ensures, c.check_more.ensures)
