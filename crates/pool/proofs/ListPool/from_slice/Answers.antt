-- `from_slice` meets its contract: refused with its number, or the empty list is extended.
use Rattle.std.proofs.Common.{sym, ◌∙◌}
use Rattle.pool.specs.Rules.{number_of, done_of}
use Rattle.pool.proofs.Facts.{from_slice_facts, from_slice_empty}
use Rattle.pool.proofs.CallLaws.{put_extended}
use Rattle.pool.proofs.Refusals.{refused_called, done_called}
use Rattle.pool.proofs.ListPool.from_slice.Goals as goal

pub extend_done-requires : goal.extend_done-requires
extend_done-requires c = from_slice_facts _ _ _ _ _ (sym c.in-Ok.ensures)

pub returns-in-Ok : goal.returns-in-Ok
unfolding number_of done_of
returns-in-Ok c =
    done_called _ _ _ _ c.in-Ok.ensures c.done.ensures
    (c.extend_done.ensures ∙ put_extended _ _ _ _ _ (from_slice_empty _ _ _ _ _ (sym c.in-Ok.ensures)))

pub returns-in-Err : goal.returns-in-Err
unfolding number_of
returns-in-Err c = refused_called _ _ _ _ _ c.in-Err.ensures c.refused.ensures
