-- `insert_done` meets its contract: the element is pushed, the tail goes up, and the element is written at the position.
use Rattle.std.proofs.Common.{◌≡◌, ap, arith}
use Rattle.pool.specs.Rules.{Outcome, len_of, push_done, insert_done}
use Rattle.pool.proofs.ListPool.insert_done.Goals as goal
use Rattle.pool.proofs.ListPool.insert_done.Goals.{After-push_done-old}

-- the value of the push is the old length
old_length : (c : After-push_done-old) → c.push_done-old.result ≡ len_of c.args.pool.now c.args.handles.now c.args.slot
unfolding push_done
old_length c = ap (λ (o : Outcome). o.answer.value) c.push_done-old.ensures.is

pub overflow_sub-old : goal.overflow_sub-old
overflow_sub-old c = omega (arith, old_length (goal.at.overflow_sub-old c).After-push_done-old, c.requires.0)

pub copy-requires : goal.copy-requires
copy-requires c =
    let n = old_length (goal.at.copy-requires c).After-push_done-old in
    let p = c.push_done-old in
    (omega (arith, n, c.requires.0, p.ensures.ends, p.auto.pool), omega (arith, n, c.requires.0, p.ensures.ends, p.auto.pool))

pub returns : goal.returns
unfolding insert_done
returns c = rw (← c.push_done-old.ensures.is, ← old_length (goal.at.returns c).After-push_done-old, ← c.copy.ensures)
