-- `opened` meets its contract: the list grows, and its tail goes up.
use Rattle.std.proofs.Common.{refl, arith}
use Rattle.pool.specs.Rules.{opened}
use Rattle.pool.proofs.ListPool.opened.Goals as goal

pub returns : goal.returns
unfolding opened
returns c =
    record {
      rule = rw (← c.grow.ensures.is, ← c.length_at-old.ensures, ← c.copy.ensures);
      place = (refl, omega (arith, c.grow.ensures.ends, c.grow.auto.pool, c.copy.auto.s, c.length_at-old.ensures, c.requires.0));
    }
