-- `needs_block` meets its contract.
use Rattle.std.proofs.Common.{◌<◌, arith}
use Rattle.sizes.specs.Class.{longest}
use Rattle.pool.specs.Numbers.{needs_block}
use Rattle.pool.proofs.Tests.{tests}
use Rattle.pool.proofs.numbers.needs_block.Goals as goal
use Rattle.pool.proofs.numbers.needs_block.Goals.{then-old-eq0, else-old-eq0}

pub returns-then-new-gt-LONGEST : goal.returns-then-new-gt-LONGEST
unfolding needs_block
returns-then-new-gt-LONGEST c =
    elim c.if-old-eq0.branch [
      | then-old-eq0 w ↦ search tests
      | else-old-eq0 w ↦ let e = c.if-new-gt-LONGEST.either in let long : longest < c.args.new = omega arith in search tests
    ]

pub returns-else-new-gt-LONGEST : goal.returns-else-new-gt-LONGEST
unfolding needs_block
returns-else-new-gt-LONGEST c = search (tests, ← c.for_length.ensures.is, ← c.for_length-else-new-gt-LONGEST.ensures.is)

pub returns-else-new-ne0 : goal.returns-else-new-ne0
unfolding needs_block
returns-else-new-ne0 c = search tests
