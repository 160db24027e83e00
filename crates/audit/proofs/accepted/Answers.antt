-- `accepted` meets its contract: the handles, then the chains, then the sweep.
use Rattle.std.proofs.Common.{length, ◌/◌, refl}
use Rattle.std.proofs.Math.Nat.{le_refl}
use Rattle.pool.specs.Numbers.{state_of}
use Rattle.audit.specs.Audit.{accepted}
use Rattle.audit.specs.Passes.{left_start, left_end, left_next}
use Rattle.audit.proofs.Exits.{passed_on}
use Rattle.audit.proofs.accepted.Goals as goal

pub returns-in_err-mark_handles : goal.returns-in_err-mark_handles
unfolding accepted
returns-in_err-mark_handles c =
    let a = c.args in
    passed_on _ (left_start (length a.used.now / 4) (accepted (state_of (length a.used.now) a.heads.now) a.used.now a.handles.now a.map.now) a.map.now) _ refl (le_refl _) c.in_err-mark_handles.ensures _ c.from_residual.ensures.1

pub returns-in_err-mark_chains : goal.returns-in_err-mark_chains
unfolding accepted
returns-in_err-mark_chains c =
    let a = c.args in
    let l = left_next (left_start (length a.used.now / 4) (accepted (state_of (length a.used.now) a.heads.now) a.used.now a.handles.now a.map.now) a.map.now) _ refl (le_refl _) c.in_ok-mark_handles.ensures refl c.mark_handles.auto.map in
    passed_on _ l _ refl (le_refl _) c.in_err-mark_chains.ensures _ c.from_residual-in_err-mark_chains.ensures.1

pub returns : goal.returns
unfolding accepted
returns c =
    let a = c.args in
    let l = left_next (left_start (length a.used.now / 4) (accepted (state_of (length a.used.now) a.heads.now) a.used.now a.handles.now a.map.now) a.map.now) _ refl (le_refl _) c.in_ok-mark_handles.ensures refl c.mark_handles.auto.map in
    left_end (left_next l _ refl (le_refl _) c.in_ok-mark_chains.ensures refl c.mark_chains.auto.map) _ (rw (← c.swept.ensures))
