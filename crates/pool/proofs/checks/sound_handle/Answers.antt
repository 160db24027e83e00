-- `sound_handle` meets its contract: the tests are the definition's, in its order, and past the pool's end there is no length.
use Rattle.std.proofs.Common.{◌-◌, arith}
use Rattle.std.proofs.Math.ListN.{get_or-eq_default}
use Rattle.pool.specs.Numbers.{sound_handle}
use Rattle.pool.proofs.Tests.{tests}
use Rattle.pool.proofs.checks.sound_handle.Goals as goal
use Rattle.pool.proofs.checks.sound_handle.Goals.{then-h-ne1-via-then-h-ne1, then-h-ne1-via-else-h-ne1+then-at-used, then-h-ne1-via-else-h-ne1+else-at-used+then-at-pool}

pub returns-then-h-eq0 : goal.returns-then-h-eq0
unfolding sound_handle
returns-then-h-eq0 c = search tests

pub returns-then-h-ne1 : goal.returns-then-h-ne1
unfolding sound_handle
returns-then-h-ne1 c =
    let a = c.args in
    elim c.then-h-ne1.branch [
      | then-h-ne1-via-then-h-ne1 w ↦ search tests
      | then-h-ne1-via-else-h-ne1+then-at-used w ↦ search tests
      | then-h-ne1-via-else-h-ne1+else-at-used+then-at-pool w ↦ search (tests, get_or-eq_default a.pool.now 0 {n = a.h - 1} (omega arith))
    ]

pub returns-then-n-ge1 : goal.returns-then-n-ge1
unfolding sound_handle
returns-then-n-ge1 c = search (tests, ← c.size.ensures.exact (omega arith), ← c.for_length.ensures.is)

pub returns-else-n-ge1 : goal.returns-else-n-ge1
unfolding sound_handle
returns-else-n-ge1 c = search tests
