-- `rust_answers::read_full` is safe and ends: what is read lies in the buffer. The measure is what is left of it.
use Rattle.std.proofs.Common.{◌≤◌, ◌-◌, length}
use Rattle.rust_answers.proofs.read_full.Given as goal

abbrev pub invariant-loop-n : goal.invariant-loop-n
invariant-loop-n g l = l.done ≤ length l.buf

abbrev pub decreases-loop-n : goal.decreases-loop-n
decreases-loop-n g l = length l.initial.buf - l.done
