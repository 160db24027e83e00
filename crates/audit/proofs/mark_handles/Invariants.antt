-- `mark_handles` meets its contract. The loop's invariant: the handles that are left, from here, leave what all leave.
use Rattle.std.proofs.Common.{length, ◌/◌, drop}
use Rattle.audit.specs.Audit.{handles_marked}
use Rattle.audit.specs.Passes.{Left}
use Rattle.audit.proofs.mark_handles.Given as goal

abbrev pub invariant-loop-slot : goal.invariant-loop-slot
invariant-loop-slot l =
    Left (length l.used / 4) (handles_marked (length l.used) l.used 0 l.handles l.initial.map) l.initial.map l.map
    (handles_marked (length l.used) l.used l.slot (drop l.slot l.handles) l.map)
