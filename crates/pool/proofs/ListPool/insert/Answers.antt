-- `insert` meets its contract: refused with its number, or done.
use Rattle.std.proofs.Common.{sym}
use Rattle.pool.specs.Rules.{number_of, done_of}
use Rattle.pool.proofs.Facts.{grow_at_facts}
use Rattle.pool.proofs.Refusals.{refused_called, done_called}
use Rattle.pool.proofs.ListPool.insert.Goals as goal

pub insert_done-requires : goal.insert_done-requires
insert_done-requires c = grow_at_facts _ _ _ _ _ _ (sym c.in-Ok.ensures)

pub returns-in-Ok : goal.returns-in-Ok
unfolding number_of done_of
returns-in-Ok c = done_called _ _ _ _ c.in-Ok.ensures c.done.ensures c.insert_done.ensures

pub returns-in-Err : goal.returns-in-Err
unfolding number_of
returns-in-Err c = refused_called _ _ _ _ _ c.in-Err.ensures c.refused.ensures
