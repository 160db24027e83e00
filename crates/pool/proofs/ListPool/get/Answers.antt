-- `get` meets its contract: refused with its number, or done.
use Rattle.std.specs.Prelude.{refl}
use Rattle.std.proofs.Common.{sym, arith}
use Rattle.pool.specs.Rules.{number_of, done_of, get_done}
use Rattle.pool.proofs.Facts.{at_facts}
use Rattle.pool.proofs.Refusals.{refused_called, done_called}
use Rattle.pool.proofs.ListPool.get.Goals as goal

pub offset_bounds-handles-slot : goal.offset_bounds-handles-slot
offset_bounds-handles-slot c = let f = (at_facts _ _ _ _ _ (sym c.in-Ok.ensures)).0 in omega arith

pub bounds-handles-slot : goal.bounds-handles-slot
bounds-handles-slot c = (at_facts _ _ _ _ _ (sym c.in-Ok.ensures)).1.inside

pub overflow_add-handles : goal.overflow_add-handles
overflow_add-handles c = let f = at_facts _ _ _ _ _ (sym c.in-Ok.ensures) in omega arith

pub offset_bounds-pool-handles : goal.offset_bounds-pool-handles
offset_bounds-pool-handles c = let f = at_facts _ _ _ _ _ (sym c.in-Ok.ensures) in omega arith

pub bounds-pool-handles : goal.bounds-pool-handles
bounds-pool-handles c = let f = at_facts _ _ _ _ _ (sym c.in-Ok.ensures) in omega arith

pub returns-in-Ok : goal.returns-in-Ok
unfolding number_of done_of get_done
returns-in-Ok c = done_called _ _ _ _ c.in-Ok.ensures c.done.ensures refl

pub returns-in-Err : goal.returns-in-Err
unfolding number_of
returns-in-Err c = refused_called _ _ _ _ _ c.in-Err.ensures c.refused.ensures
