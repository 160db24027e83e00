-- `store` meets its contract. What the loop keeps: the words passed so far are stored.
use Rattle.std.proofs.Common.{length-set, take_all, arith}
use Rattle.words.specs.Runs.{stored}
use Rattle.words.specs.RunLaws.{set_sets_take}
use Rattle.words.proofs.store.Goals as goal

pub loop-i-preserved : goal.loop-i-preserved
loop-i-preserved c =
    let a = c.args in
    let l = c.loop-i in
    (simp length-set l.invariant.0, rw l.invariant.1 (set_sets_take a.s.now a.at a.t.now l.i (omega (arith, c.loop-i-test.true))))

pub returns : goal.returns
unfolding stored
returns c =
    let l = c.loop-i in
    rw (take_all l.i c.args.t.now (omega (arith, c.loop-i-test.false))) at l.invariant.1
