-- `swept` meets its contract. The loop's invariant: the sweep over the marks that are left, from here, says what the whole says.
use Rattle.std.proofs.Common.{◌≡◌, ◌/◌, ◌%◌, length, take, drop}
use Rattle.audit.specs.Audit.{swept}
use Rattle.audit.proofs.swept.Given as goal

abbrev pub invariant-loop-g : goal.invariant-loop-g
invariant-loop-g l = (l.next % 4 ≡ 0) × (swept l.used 0 0 (take (length l.used / 4) l.map) ≡ swept l.used l.g (l.next / 4) (drop l.g (take (length l.used / 4) l.map)))
