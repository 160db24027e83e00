-- `mark_chain` meets its contract. The loop's invariant: the chain that is left, from here, leaves what the whole leaves.
use Rattle.std.proofs.Common.{refl, length, ◌≡◌, ◌+◌, ◌-◌, ◌/◌, sym, ◌∙◌, arith}
use Rattle.audit.specs.Passes.{left_end, left_next, chain_end, chain_long, chain_refused, chain_free, group_free}
use Rattle.audit.proofs.Exits.{passed_on}
use Rattle.audit.proofs.mark_chain.Goals as goal
use Rattle.audit.proofs.mark_chain.Goals.{else-loop-test, then-loop-test+then-h-eq0}

pub returns-then-not-sound_head : goal.returns-then-not-sound_head
returns-then-not-sound_head c =
    let a = c.args in
    let l = c.loop in
    left_end l.invariant.1 _ (chain_refused (length a.used.now) a.used.now a.c l.h l.map c.if-h-eq0.false _ (sym c.sound_head.ensures ∙ c.if-not-sound_head.true))

pub mark-requires : goal.mark-requires
mark-requires c =
    let a = c.args in
    let below = group_free (length a.used.now) a.used.now a.c _ (sym c.sound_head.ensures ∙ c.if-not-sound_head.false) c.if-h-eq0.false in
    (omega arith, omega (arith, c.loop.auto.map))

pub returns-in_err-mark : goal.returns-in_err-mark
returns-in_err-mark c =
    let a = c.args in
    let l = c.loop in
    let some = c.if-h-eq0.false in
    let sound = sym c.sound_head.ensures ∙ c.if-not-sound_head.false in
    passed_on _ l.invariant.1 _ (chain_free (length a.used.now) a.used.now a.c l.h l.map some _ (omega arith) sound)
    (group_free (length a.used.now) a.used.now a.c _ sound some).0 c.in_err-mark.ensures _ c.from_residual.ensures.1

pub bounds-used-h : goal.bounds-used-h
bounds-used-h c =
    let a = c.args in
    omega (arith, (group_free (length a.used.now) a.used.now a.c _ (sym c.sound_head.ensures ∙ c.if-not-sound_head.false) c.if-h-eq0.false).1)

pub loop-preserved : goal.loop-preserved
loop-preserved c =
    let a = c.args in
    let l = c.loop in
    let some = c.if-h-eq0.false in
    let sound = sym c.sound_head.ensures ∙ c.if-not-sound_head.false in
    let less : length a.used.now / 4 - l.counter - 1 ≡ length a.used.now / 4 - (l.counter + 1) = omega arith in
    (omega (arith, c.type_inv.used l.h), rw less at (left_next l.invariant.1 _ (chain_free (length a.used.now) a.used.now a.c l.h l.map some _ (omega arith) sound) (group_free (length a.used.now) a.used.now a.c _ sound some).0 c.in_ok-mark.ensures refl c.mark.auto.map))

pub returns-then-h-ne0 : goal.returns-then-h-ne0
returns-then-h-ne0 c =
    let a = c.args in
    let l = c.loop in
    elim c.loop-test.branch [
      | else-loop-test w ↦ left_end l.invariant.1 _ (chain_long (length a.used.now) a.used.now a.c l.h l.map c.if-h-ne0.true _ (omega arith))
      | then-loop-test+then-h-eq0 w ↦ absurd (omega arith)
    ]

pub returns : goal.returns
returns c =
    let a = c.args in
    let l = c.loop in
    left_end l.invariant.1 _ (chain_end (length a.used.now) a.used.now a.c l.h l.map _ c.if-h-ne0.false)
