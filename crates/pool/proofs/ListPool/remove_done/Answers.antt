-- `remove_done` meets its contract: the elements behind it shift down, and the last place goes.
use Rattle.std.proofs.Common.{arith}
use Rattle.pool.specs.Rules.{remove_done}
use Rattle.pool.proofs.CallLaws.{last_resized}
use Rattle.pool.proofs.ListPool.remove_done.Goals as goal

pub returns : goal.returns
unfolding remove_done
returns c =
    let n = c.length_at-old.ensures in
    rw (← n, ← c.copy.ensures, last_resized _ _ _ _ _ c.length_at-old.result (omega (arith, n, c.requires.0.before))) c.resize.ensures.is
