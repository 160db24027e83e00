-- `set` meets its contract: refused with its number, or done.
use Rattle.std.specs.Prelude.{refl}
use Rattle.std.proofs.Common.{sym, arith}
use Rattle.pool.specs.Rules.{answer, number_of, done_of, set_done}
use Rattle.pool.proofs.Facts.{at_facts}
use Rattle.pool.proofs.Refusals.{refused_called, done_called}
use Rattle.pool.proofs.ListPool.set.Goals as goal
use Rattle.pool.proofs.ListPool.set.Goals.{in-Ok, in-Err}

pub offset_bounds-handles-slot : goal.offset_bounds-handles-slot
offset_bounds-handles-slot c = let f = (at_facts _ _ _ _ _ (sym c.in-Ok.ensures)).0 in omega arith

pub bounds-handles-slot : goal.bounds-handles-slot
bounds-handles-slot c = (at_facts _ _ _ _ _ (sym c.in-Ok.ensures)).1.inside

pub overflow_add-pool : goal.overflow_add-pool
overflow_add-pool c = let f = at_facts _ _ _ _ _ (sym c.in-Ok.ensures) in omega arith

pub offset_bounds-pool-handles : goal.offset_bounds-pool-handles
offset_bounds-pool-handles c = let f = at_facts _ _ _ _ _ (sym c.in-Ok.ensures) in omega arith

pub bounds-pool-handles : goal.bounds-pool-handles
bounds-pool-handles c = let f = at_facts _ _ _ _ _ (sym c.in-Ok.ensures) in omega arith

pub returns : goal.returns
unfolding number_of done_of set_done
returns c = elim c.match-check_at.branch [
  | in-Ok w ↦ done_called _ _ _ _ {done = answer 0 0 c.args.self} w.in-Ok.ensures (rw (w.number-is, c.done.ensures) refl) (rw w.pool-is refl)
  | in-Err w ↦ rw w.pool-is (refused_called _ _ _ _ _ w.in-Err.ensures (rw (w.number-is, c.done.ensures, w.from-number.ensures) refl))
]
