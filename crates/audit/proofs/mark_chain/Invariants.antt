-- `mark_chain` meets its contract. The loop's invariant: the chain that is left, from here, leaves what the whole leaves.
use Rattle.std.proofs.Common.{length, ◌-◌, ◌/◌, ◌^◌, ◌<◌}
use Rattle.audit.specs.Audit.{chain_marked}
use Rattle.audit.specs.Passes.{Left}
use Rattle.audit.proofs.mark_chain.Given as goal

abbrev pub invariant-loop : goal.invariant-loop
invariant-loop l =
    (l.h < 2 ^ 32) × Left (length l.used / 4) (chain_marked (length l.used) l.used (length l.used / 4) l.c l.head l.initial.map) l.initial.map l.map
    (chain_marked (length l.used) l.used (length l.used / 4 - l.counter) l.c l.h l.map)
