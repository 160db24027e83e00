-- `grow` meets its contract: the list is resized, or nothing is done where no element is left.
use Rattle.std.proofs.Common.{◌+◌, eq-eqb, arith}
use Rattle.pool.specs.Rules.{grown}
use Rattle.pool.proofs.CallLaws.{grown_resized}
use Rattle.pool.proofs.ListPool.grow.Goals as goal

pub returns-then-new-ne0 : goal.returns-then-new-ne0
returns-then-new-ne0 c =
    let a = c.args in
    let n = c.length_at-old.ensures in
    record {
      is = rw (grown_resized a.self.now a.pool.now a.handles.now a.slot a.count (rw (← n) c.if-new-ne0.true), ← n) c.resize.ensures.is;
      ends = rw (← n) c.resize.ensures.ends;
    }

pub returns-else-new-ne0 : goal.returns-else-new-ne0
unfolding grown
returns-else-new-ne0 c =
    let n = c.length_at-old.ensures in
    record {
      is = rw (← n, eq-eqb (c.length_at-old.result + c.args.count) 0 c.if-new-ne0.false);
      ends = rw (← n, c.if-new-ne0.false) (omega (arith, c.requires.can.list.below));
    }
