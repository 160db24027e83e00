-- `swap_remove_done` meets its contract: it and the last one are exchanged, and the last place goes.
use Rattle.std.proofs.Common.{◌+◌, ◌-◌, ◌<◌, length, arith}
use Rattle.std.proofs.lemmas.List.Edits.{swap_is}
use Rattle.pool.specs.Numbers.{handle_at}
use Rattle.pool.specs.Rules.{swap_remove_done}
use Rattle.pool.proofs.CallLaws.{last_resized}
use Rattle.pool.proofs.ListPool.swap_remove_done.Goals as goal

pub returns : goal.returns
unfolding swap_remove_done
returns c =
    let a = c.args in
    let n = c.length_at-old in
    let p = c.requires.0 in
    let at = handle_at a.handles.now a.slot + a.position in
    let last = handle_at a.handles.now a.slot + (n.result - 1) in
    let at_in : at < length a.pool.now = omega (arith, p.ends, p.before) in
    let last_in : last < length a.pool.now = omega (arith, n.ensures, p.ends, p.before) in
    rw (
      ← n.ensures,
      swap_is a.pool.now at last 0 at_in last_in,
      ← c.swap.ensures.after,
      last_resized _ _ _ _ _ n.result (omega (arith, n.ensures, p.before)),
    )
    c.resize.ensures.is
