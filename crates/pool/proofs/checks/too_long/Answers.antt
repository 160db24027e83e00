-- `too_long` meets its contract.
use Rattle.pool.specs.Numbers.{too_long}
use Rattle.pool.proofs.Tests.{tests}
use Rattle.pool.proofs.checks.too_long.Goals as goal

pub returns-then-pool-gt-POOL_LIMIT : goal.returns-then-pool-gt-POOL_LIMIT
unfolding too_long
returns-then-pool-gt-POOL_LIMIT c = search tests

pub returns-else-pool-gt-POOL_LIMIT : goal.returns-else-pool-gt-POOL_LIMIT
unfolding too_long
returns-else-pool-gt-POOL_LIMIT c = search tests
