-- `part` meets its contract: nothing at 0, or from the handle on as many words as the length says.
use Rattle.std.specs.Prelude.{refl}
use Rattle.std.proofs.Common.{sym, arith}
use Rattle.pool.specs.Rules.{part}
use Rattle.pool.proofs.Facts.{entry_facts}
use Rattle.pool.proofs.Refusals.{refusal_eqb}
use Rattle.pool.proofs.ListPool.part.Goals as goal

pub offset_bounds-handles-slot : goal.offset_bounds-handles-slot
offset_bounds-handles-slot c = let f = entry_facts _ _ _ _ (sym c.in-Ok.ensures) in omega arith

pub bounds-handles-slot : goal.bounds-handles-slot
bounds-handles-slot c = (entry_facts _ _ _ _ (sym c.in-Ok.ensures)).inside

pub length_at-requires : goal.length_at-requires
length_at-requires c = (entry_facts _ _ _ _ (sym c.in-Ok.ensures)).list.below

pub returns-in-Ok : goal.returns-in-Ok
unfolding part
returns-in-Ok c =
    let f = entry_facts _ _ _ _ (sym c.in-Ok.ensures) in
    record { is = rw (← c.in-Ok.ensures, c.length_at.ensures) refl; order = omega arith; ends = omega arith }

pub returns-in-Err : goal.returns-in-Err
unfolding part
returns-in-Err c =
    record {
      is = rw (← c.in-Err.ensures, refusal_eqb c.in-Err.field-0, c.default.ensures.0, c.default.ensures.1) refl;
      order = omega arith;
      ends = omega arith;
    }
