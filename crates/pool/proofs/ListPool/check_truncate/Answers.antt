-- `check_truncate` meets its contract: a list that has no more elements keeps its block.
use Rattle.std.proofs.Common.{◌≡◌, min, arith}
use Rattle.pool.specs.Numbers.{◌or_else◌}
use Rattle.pool.specs.Rules.{len_of, truncate_number}
use Rattle.pool.proofs.StepLaws.{need_same}
use Rattle.pool.proofs.Refusals.{stopped, entered}
use Rattle.pool.proofs.Tests.{tests}
use Rattle.pool.proofs.ListPool.check_truncate.Goals as goal

pub returns-in_err-check_entry : goal.returns-in_err-check_entry
unfolding truncate_number
returns-in_err-check_entry c = stopped _ _ _ c.from_residual.ensures.1 c.in_err-check_entry.ensures

pub offset_bounds-handles-slot : goal.offset_bounds-handles-slot
offset_bounds-handles-slot c = let f = entered c.in_ok-check_entry.ensures in omega arith

pub bounds-handles-slot : goal.bounds-handles-slot
bounds-handles-slot c = (entered c.in_ok-check_entry.ensures).inside

pub length_at-old-requires : goal.length_at-old-requires
length_at-old-requires c = (entered c.in_ok-check_entry.ensures).list.below

pub returns-then-new-old : goal.returns-then-new-old
unfolding truncate_number ◌or_else◌
returns-then-new-old c =
    let a = c.args in
    let f = entered c.in_ok-check_entry.ensures in
    let len = len_of a.pool.now a.handles.now a.slot in
    let none = need_same a.self.now a.pool.now len (min len a.new) f.list.short (omega arith) in
    search (tests, ← c.in_ok-check_entry.ensures, none)

pub returns : goal.returns
unfolding truncate_number ◌or_else◌
returns c =
    let least : min c.length_at-old.result c.args.new ≡ c.args.new = omega arith in
    search (tests, ← c.in_ok-check_entry.ensures, ← c.length_at-old.ensures, least, c.check_need.ensures)
