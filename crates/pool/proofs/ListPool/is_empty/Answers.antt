-- `is_empty` meets its contract: refused with its number, or done.
use Rattle.std.specs.Prelude.{◌≡◌, refl, Bool, true, false, cond, eqb}
use Rattle.std.proofs.Common.{sym, arith}
use Rattle.std.specs.Int.{from_bool}
use Rattle.pool.specs.Numbers.{handle_at}
use Rattle.pool.specs.Rules.{number_of, done_of, is_empty_done}
use Rattle.pool.proofs.Facts.{entry_facts}
use Rattle.pool.proofs.Refusals.{refused_called, done_called}
use Rattle.pool.proofs.ListPool.is_empty.Goals as goal

pub offset_bounds-handles-slot : goal.offset_bounds-handles-slot
offset_bounds-handles-slot c = let f = entry_facts _ _ _ _ (sym c.in-Ok.ensures) in omega arith

pub bounds-handles-slot : goal.bounds-handles-slot
bounds-handles-slot c = (entry_facts _ _ _ _ (sym c.in-Ok.ensures)).inside

-- 1 where a test holds, else 0
one_if : (t : Bool) → from_bool t ≡ cond t 1 0
one_if true = refl
one_if false = refl

pub returns-in-Ok : goal.returns-in-Ok
unfolding number_of done_of is_empty_done
returns-in-Ok c =
    done_called _ _ _ _ c.in-Ok.ensures c.done.ensures
    (rw (c.from.ensures, one_if (eqb (handle_at c.args.handles.now c.args.slot) 0)) refl)

pub returns-in-Err : goal.returns-in-Err
unfolding number_of
returns-in-Err c = refused_called _ _ _ _ _ c.in-Err.ensures c.refused.ensures
