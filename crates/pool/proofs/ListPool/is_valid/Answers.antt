-- `is_valid` meets its contract: refused with its number, or done.
use Rattle.std.specs.Prelude.{refl}
use Rattle.pool.specs.Rules.{number_of, done_of, is_valid_done}
use Rattle.pool.proofs.Refusals.{refused_called, done_called}
use Rattle.pool.proofs.ListPool.is_valid.Goals as goal

pub returns-in-Ok : goal.returns-in-Ok
unfolding number_of done_of is_valid_done
returns-in-Ok c = done_called _ _ _ _ c.in-Ok.ensures c.done.ensures refl

pub returns-in-Err : goal.returns-in-Err
unfolding number_of
returns-in-Err c = refused_called _ _ _ _ _ c.in-Err.ensures c.refused.ensures
