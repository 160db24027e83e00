-- `mark_chains` meets its contract. The loop's invariant: the chains that are left, from here, leave what all leave.
use Rattle.std.proofs.Common.{length, ◌/◌, drop}
use Rattle.audit.specs.Audit.{chains_marked}
use Rattle.audit.specs.Passes.{Left}
use Rattle.audit.proofs.mark_chains.Given as goal

abbrev pub invariant-loop-c : goal.invariant-loop-c
invariant-loop-c l =
    Left (length l.used / 4) (chains_marked (length l.used) l.used 0 l.heads l.initial.map) l.initial.map l.map
    (chains_marked (length l.used) l.used l.c (drop l.c l.heads) l.map)
