-- `truncate_done` meets its contract: fewer elements, or as it was.
use Rattle.std.proofs.Common.{sym, arith}
use Rattle.pool.proofs.CallLaws.{truncate_none, truncate_resized}
use Rattle.pool.proofs.ListPool.truncate_done.Goals as goal

pub returns-then-new-old : goal.returns-then-new-old
returns-then-new-old c =
    let a = c.args in
    let n = c.length_at-old.ensures in
    rw (truncate_resized a.self.now a.pool.now a.handles.now a.slot a.new (omega (arith, n, c.if-new-old.true)), ← n) c.resize.ensures.is

pub returns-else-new-old : goal.returns-else-new-old
returns-else-new-old c = sym (truncate_none _ _ _ _ _ _ c.requires.can.list (rw (← c.length_at-old.ensures) c.if-new-old.false))
