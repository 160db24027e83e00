-- `mark_chains` meets its contract. The loop's invariant: the chains that are left, from here, leave what all leave.
use Rattle.std.proofs.Common.{refl, length, arith}
use Rattle.std.proofs.Math.Nat.{le_refl}
use Rattle.audit.specs.Passes.{left_end, left_next, chains_end, chains_next}
use Rattle.audit.proofs.Exits.{passed_on}
use Rattle.audit.proofs.mark_chains.Goals as goal

pub returns-in_err-mark_chain : goal.returns-in_err-mark_chain
returns-in_err-mark_chain c =
    let a = c.args in
    let l = c.loop-c in
    passed_on _ l.invariant _ (chains_next (length a.used.now) a.used.now a.heads.now l.c l.map (omega arith)) (le_refl _) c.in_err-mark_chain.ensures _ c.from_residual.ensures.1

pub loop-c-preserved : goal.loop-c-preserved
loop-c-preserved c =
    let a = c.args in
    let l = c.loop-c in
    left_next l.invariant _ (chains_next (length a.used.now) a.used.now a.heads.now l.c l.map (omega arith)) (le_refl _) c.in_ok-mark_chain.ensures refl c.mark_chain.auto.map

pub returns : goal.returns
returns c =
    let a = c.args in
    let l = c.loop-c in
    left_end l.invariant _ (chains_end (length a.used.now) a.used.now a.heads.now l.c l.map (omega arith))
