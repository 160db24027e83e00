-- `len` meets its contract: refused with its number, or done.
use Rattle.std.proofs.Common.{sym, arith}
use Rattle.std.specs.Prelude.{refl}
use Rattle.pool.specs.Rules.{number_of, done_of, len_done}
use Rattle.pool.proofs.Facts.{entry_facts}
use Rattle.pool.proofs.Refusals.{refused_called, done_called}
use Rattle.pool.proofs.ListPool.len.Goals as goal

pub offset_bounds-handles-slot : goal.offset_bounds-handles-slot
offset_bounds-handles-slot c = let f = entry_facts _ _ _ _ (sym c.in-Ok.ensures) in omega arith

pub bounds-handles-slot : goal.bounds-handles-slot
bounds-handles-slot c = (entry_facts _ _ _ _ (sym c.in-Ok.ensures)).inside

pub length_at-requires : goal.length_at-requires
length_at-requires c = (entry_facts _ _ _ _ (sym c.in-Ok.ensures)).list.below

pub returns-in-Ok : goal.returns-in-Ok
unfolding number_of done_of len_done
returns-in-Ok c = done_called _ _ _ _ c.in-Ok.ensures c.done.ensures (rw c.length_at.ensures refl)

pub returns-in-Err : goal.returns-in-Err
unfolding number_of
returns-in-Err c = refused_called _ _ _ _ _ c.in-Err.ensures c.refused.ensures
