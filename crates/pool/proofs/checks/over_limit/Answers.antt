-- `over_limit` meets its contract: the tests are the definition's, in its order.
use Rattle.std.proofs.Common.{sym, ◌∙◌, true≢false}
use Rattle.pool.specs.Numbers.{over_limit}
use Rattle.pool.proofs.Tests.{tests}
use Rattle.pool.proofs.checks.over_limit.Goals as goal
use Rattle.pool.proofs.checks.over_limit.Goals.{then-too_long, else-too_long}

pub returns-then-used-pool : goal.returns-then-used-pool
unfolding over_limit
returns-then-used-pool c =
    elim c.if-too_long.branch [
      | then-too_long w ↦ search (tests, ← c.too_long.ensures, w.if-too_long.true)
      | else-too_long w ↦ search (tests, ← c.too_long.ensures, w.if-too_long.false, ← w.value-is, c.if-used-pool.true)
    ]

pub returns-else-used-pool : goal.returns-else-used-pool
unfolding over_limit
returns-else-used-pool c =
    elim c.if-too_long.branch [
      | then-too_long w ↦ absurd (true≢false (sym w.if-too_long.true ∙ sym w.value-is ∙ c.if-used-pool.false))
      | else-too_long w ↦ search (tests, ← c.too_long.ensures, w.if-too_long.false, ← w.value-is, c.if-used-pool.false)
    ]
