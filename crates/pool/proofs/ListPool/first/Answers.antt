-- `first` meets its contract: it is `get` at 0.
use Rattle.pool.specs.Rules.{called, number_of, done_of}
use Rattle.pool.proofs.ListPool.first.Goals as goal

pub returns : goal.returns
unfolding called number_of done_of
returns c = c.get.ensures
