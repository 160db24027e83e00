-- `clear` meets its contract: refused with its number, or done.
use Rattle.std.specs.Prelude.{refl}
use Rattle.std.proofs.Common.{sym, arith}
use Rattle.pool.specs.Rules.{answer, number_of, done_of, clear_done, cleared}
use Rattle.pool.proofs.Facts.{entry_facts}
use Rattle.pool.proofs.Refusals.{refused_called, done_called}
use Rattle.pool.proofs.ListPool.clear.Goals as goal
use Rattle.pool.proofs.ListPool.clear.Goals.{in-Ok+then-h-ne0, in-Ok+else-h-ne0, in-Err}

pub offset_bounds-handles-slot : goal.offset_bounds-handles-slot
offset_bounds-handles-slot c = let f = entry_facts _ _ _ _ (sym c.in-Ok.ensures) in omega arith

pub bounds-handles-slot : goal.bounds-handles-slot
bounds-handles-slot c = (entry_facts _ _ _ _ (sym c.in-Ok.ensures)).inside

pub length_at-len-requires : goal.length_at-len-requires
length_at-len-requires c = (entry_facts _ _ _ _ (sym c.in-Ok.ensures)).list.below

pub release-requires : goal.release-requires
release-requires c =
    let f = entry_facts _ _ _ _ (sym c.in-Ok.ensures) in
    (rw c.length_at-len.ensures f.list, omega (arith, c.if-h-ne0.true), f.limits.pool_within, f.inside)

pub returns : goal.returns
unfolding number_of done_of clear_done cleared
returns c = elim c.match-check_entry.branch [
  | in-Ok+then-h-ne0 w ↦ done_called _ _ _ _ {done = answer 0 0 c.match-check_entry.self} w.in-Ok.ensures (rw (w.number-is, c.done.ensures) refl)
      (rw (w.pool-is, w.handles-is, w.self-is, ← w.length_at-len.ensures) w.release.ensures)
  | in-Ok+else-h-ne0 w ↦ done_called _ _ _ _ {done = answer 0 0 c.match-check_entry.self} w.in-Ok.ensures (rw (w.number-is, c.done.ensures) refl)
      (rw (w.pool-is, w.handles-is, w.self-is, w.if-h-ne0.false) refl)
  | in-Err w ↦ rw (w.pool-is, w.handles-is)
      (refused_called _ _ _ _ _ w.in-Err.ensures (rw (w.number-is, c.done.ensures, w.self-is, w.from-number.ensures) refl))
]
