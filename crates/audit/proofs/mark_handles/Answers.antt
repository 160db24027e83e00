-- `mark_handles` meets its contract. The loop's invariant: the handles that are left, from here, leave what all leave.
use Rattle.std.proofs.Common.{refl, length, sym, ◌∙◌, arith}
use Rattle.audit.specs.Passes.{left_end, left_is, left_next, handles_end, handles_refused, handles_empty, handles_live, group_live}
use Rattle.audit.proofs.Exits.{passed_on}
use Rattle.audit.proofs.mark_handles.Goals as goal
use Rattle.audit.proofs.mark_handles.Goals.{then-h-ne0+in_ok-mark, else-h-ne0}

pub returns-then-not-sound_handle : goal.returns-then-not-sound_handle
returns-then-not-sound_handle c =
    let a = c.args in
    let l = c.loop-slot in
    left_end l.invariant _ (handles_refused (length a.used.now) a.used.now a.handles.now l.slot l.map c.loop-slot-test.true (sym c.sound_handle.ensures ∙ c.if-not-sound_handle.true))

pub mark-requires : goal.mark-requires
mark-requires c =
    let a = c.args in
    let below = group_live (length a.used.now) a.used.now _ (sym c.sound_handle.ensures ∙ c.if-not-sound_handle.false) c.if-h-ne0.true in
    (omega arith, omega (arith, c.loop-slot.auto.map))

pub returns-in_err-mark : goal.returns-in_err-mark
returns-in_err-mark c =
    let a = c.args in
    let l = c.loop-slot in
    let sound = sym c.sound_handle.ensures ∙ c.if-not-sound_handle.false in
    passed_on _ l.invariant _ (handles_live (length a.used.now) a.used.now a.handles.now l.slot l.map c.loop-slot-test.true sound c.if-h-ne0.true)
    (group_live (length a.used.now) a.used.now _ sound c.if-h-ne0.true) c.in_err-mark.ensures _ c.from_residual.ensures.1

pub loop-slot-preserved : goal.loop-slot-preserved
loop-slot-preserved c =
    let a = c.args in
    let l = c.loop-slot in
    let below = c.loop-slot-test.true in
    let sound = sym c.sound_handle.ensures ∙ c.if-not-sound_handle.false in
    elim c.if-h-ne0.branch [
      | then-h-ne0+in_ok-mark w ↦ rw w.map-is (left_next l.invariant _ (handles_live (length a.used.now) a.used.now a.handles.now l.slot l.map below sound w.if-h-ne0.true) (group_live (length a.used.now) a.used.now _ sound w.if-h-ne0.true) w.in_ok-mark.ensures refl w.mark.auto.map)
      | else-h-ne0 w ↦ rw w.map-is (left_is l.invariant (handles_empty (length a.used.now) a.used.now a.handles.now l.slot l.map below sound w.if-h-ne0.false))
    ]

pub returns : goal.returns
returns c =
    let a = c.args in
    let l = c.loop-slot in
    left_end l.invariant _ (handles_end (length a.used.now) a.used.now a.handles.now l.slot l.map c.loop-slot-test.false)
