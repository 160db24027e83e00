-- `resize` meets its contract: the list is cleared, or lies in the block that `moved` gives.
use Rattle.std.proofs.Common.{refl}
use Rattle.pool.specs.Steps.{taken}
use Rattle.pool.proofs.CallLaws.{released_meets, resized_meets}
use Rattle.pool.proofs.ListPool.resize.Goals as goal

pub returns-then-new-eq0 : goal.returns-then-new-eq0
returns-then-new-eq0 c =
    let none = c.if-new-eq0.true in
    released_meets _ _ _ _ _ _ _ _ c.requires.2 none (c.requires.1 none) c.release.ensures

pub returns-else-new-eq0 : goal.returns-else-new-eq0
returns-else-new-eq0 c =
    let m = c.moved-block in
    resized_meets _ _ _ _ _ _ _ _ (taken m.result m.new.self m.new.pool) c.requires.2 c.if-new-eq0.false m.ensures.is m.ensures.ends refl
    c.seat.ensures.0 c.seat.ensures.1
