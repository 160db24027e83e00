-- `grow_at` meets its contract: refused with its number, or done.
use Rattle.std.proofs.Common.{sym}
use Rattle.pool.specs.Rules.{number_of, done_of, grow_at_done}
use Rattle.pool.proofs.Facts.{grow_at_facts}
use Rattle.pool.proofs.Refusals.{refused_called, done_called}
use Rattle.pool.proofs.ListPool.grow_at.Goals as goal

pub opened-requires : goal.opened-requires
opened-requires c = grow_at_facts _ _ _ _ _ _ (sym c.in-Ok.ensures)

pub returns-in-Ok : goal.returns-in-Ok
unfolding number_of done_of grow_at_done
returns-in-Ok c = done_called _ _ _ _ c.in-Ok.ensures c.done.ensures c.opened.ensures.rule

pub returns-in-Err : goal.returns-in-Err
unfolding number_of
returns-in-Err c = refused_called _ _ _ _ _ c.in-Err.ensures c.refused.ensures
