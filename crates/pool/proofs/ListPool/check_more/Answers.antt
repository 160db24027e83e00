-- `check_more` meets its contract: a count over the longest makes a length that is.
use Rattle.std.proofs.Common.{sym, arith}
use Rattle.pool.proofs.Facts.{need_over}
use Rattle.pool.proofs.ListPool.check_more.Goals as goal

pub returns-then-count : goal.returns-then-count
returns-then-count c = let a = c.args in sym (need_over a.self.now a.pool.now a.old _ (omega arith))
