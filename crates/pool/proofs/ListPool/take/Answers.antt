-- `take` meets its contract: refused with its number, or done.
use Rattle.std.specs.Prelude.{refl}
use Rattle.std.proofs.Common.{sym, length-set, arith}
use Rattle.pool.specs.Rules.{answer, number_of, done_of, take_done}
use Rattle.pool.proofs.Facts.{take_facts}
use Rattle.pool.proofs.Refusals.{refused_called, done_called}
use Rattle.pool.proofs.ListPool.take.Goals as goal
use Rattle.pool.proofs.ListPool.take.Goals.{in-Ok, in-Err}

pub offset_bounds-handles-slot : goal.offset_bounds-handles-slot
offset_bounds-handles-slot c = let f = take_facts _ _ _ _ _ (sym c.in-Ok.ensures) in omega arith

pub bounds-handles-slot : goal.bounds-handles-slot
bounds-handles-slot c = (take_facts _ _ _ _ _ (sym c.in-Ok.ensures)).0

pub offset_bounds-handles-to : goal.offset_bounds-handles-to
offset_bounds-handles-to c = let f = take_facts _ _ _ _ _ (sym c.in-Ok.ensures) in omega arith

pub bounds-handles-to : goal.bounds-handles-to
bounds-handles-to c = (take_facts _ _ _ _ _ (sym c.in-Ok.ensures)).1

pub offset_bounds-handles-slot-in-Ok : goal.offset_bounds-handles-slot-in-Ok
offset_bounds-handles-slot-in-Ok c = let f = take_facts _ _ _ _ _ (sym c.in-Ok.ensures) in omega arith

pub bounds-handles-slot-in-Ok : goal.bounds-handles-slot-in-Ok
bounds-handles-slot-in-Ok c = simp length-set (take_facts _ _ _ _ _ (sym c.in-Ok.ensures)).0

pub returns : goal.returns
unfolding number_of done_of take_done
returns c = elim c.match-check_take.branch [
  | in-Ok w ↦ done_called _ _ _ _ {done = answer 0 0 c.args.self} w.in-Ok.ensures (rw (w.number-is, c.done.ensures) refl) (rw w.handles-is refl)
  | in-Err w ↦ rw w.handles-is (refused_called _ _ _ _ _ w.in-Err.ensures (rw (w.number-is, c.done.ensures, w.from-number.ensures) refl))
]
