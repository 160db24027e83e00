-- `push_done` meets its contract, in the block that `moved` gives.
use Rattle.std.proofs.Common.{refl}
use Rattle.pool.specs.Steps.{taken}
use Rattle.pool.proofs.CallLaws.{push_meets}
use Rattle.pool.proofs.ListPool.push_done.Goals as goal

pub returns : goal.returns
returns c =
    let n = c.length_at-old in
    let m = c.moved-block in
    push_meets _ _ _ _ _ _ n.result (taken m.result m.new.self m.new.pool) c.requires.inside n.ensures m.ensures.is m.ensures.ends refl
    c.seat.ensures.0 c.seat.ensures.1
