-- `length_at` meets its contract.
use Rattle.pool.specs.Numbers.{length_at}
use Rattle.pool.proofs.Tests.{tests}
use Rattle.pool.proofs.numbers.length_at.Goals as goal

pub returns-then-h-eq0 : goal.returns-then-h-eq0
unfolding length_at
returns-then-h-eq0 c = search tests

pub returns : goal.returns
unfolding length_at
returns c = search tests
