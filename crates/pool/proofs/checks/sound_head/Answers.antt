-- `sound_head` meets its contract: the tests are the definition's, in its order, and past the pool's end every word counts as 0.
use Rattle.std.proofs.Common.{◌+◌, ◌-◌, arith}
use Rattle.std.proofs.Math.ListN.{get_or-eq_default}
use Rattle.std.proofs.lemmas.Bool.{lt-leb}
use Rattle.sizes.specs.Class.{size_of}
use Rattle.sizes.proofs.Laws.{size_beyond}
use Rattle.pool.specs.Numbers.{sound_head}
use Rattle.pool.proofs.Tests.{tests}
use Rattle.pool.proofs.checks.sound_head.Goals as goal
use Rattle.pool.proofs.checks.sound_head.Goals.{then-h-ne1-via-then-h-ne1, then-h-ne1-via-else-h-ne1+then-c-ge62}

pub returns-then-h-eq0 : goal.returns-then-h-eq0
unfolding sound_head
returns-then-h-eq0 c = search tests

pub returns-then-h-ne1 : goal.returns-then-h-ne1
unfolding sound_head
returns-then-h-ne1 c =
    let a = c.args in
    elim c.then-h-ne1.branch [
      | then-h-ne1-via-then-h-ne1 w ↦ search tests
      | then-h-ne1-via-else-h-ne1+then-c-ge62 w ↦ let wide = size_beyond w.if-c-ge62.true in search (tests, lt-leb (a.h - 1 + size_of a.c) a.used (omega arith))
    ]

pub returns-then-at-pool : goal.returns-then-at-pool
unfolding sound_head
returns-then-at-pool c = let a = c.args in search (tests, ← c.size.ensures.exact (omega arith), get_or-eq_default a.pool.now 0 {n = a.h - 1} (omega arith))

pub returns-else-at-pool : goal.returns-else-at-pool
unfolding sound_head
returns-else-at-pool c = search (tests, ← c.size.ensures.exact (omega arith))

pub returns-else-at-size : goal.returns-else-at-size
unfolding sound_head
returns-else-at-size c = search (tests, ← c.size.ensures.exact (omega arith))
