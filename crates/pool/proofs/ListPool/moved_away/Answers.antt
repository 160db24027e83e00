-- `moved_away` meets its contract: a block for an empty list, or the list's block exchanged.
use Rattle.std.proofs.Common.{◌+◌, ◌≤◌, eq-eqb, ne_eqb, arith}
use Rattle.sizes.specs.Class.{size_of}
use Rattle.pool.specs.Blocks as blocks
use Rattle.pool.proofs.StepLaws.{can_realloc, block_fits}
use Rattle.pool.proofs.ListPool.moved_away.Goals as goal
use Rattle.pool.proofs.ListPool.moved_away.Goals.{After-for_length-to}

-- a block of the new class holds the length and the elements
fits : (c : After-for_length-to) → c.args.new + 1 ≤ size_of c.for_length-to.result
fits c = rw c.for_length-to.ensures.is (block_fits _ _ _ _ c.args.new c.requires.0)

pub returns-then-old-eq0 : goal.returns-then-old-eq0
unfolding blocks.moved
returns-then-old-eq0 c =
    let made = c.alloc.ensures in
    record {
      is = rw (c.requires.1, eq-eqb c.args.old 0 c.if-old-eq0.true, ← c.for_length-to.ensures.is) made.is;
      ends = omega (arith, made.ends, fits (goal.at.returns-then-old-eq0 c).After-for_length-to);
    }

pub realloc-requires : goal.realloc-requires
realloc-requires c =
    rw (c.for_length-to.ensures.is, c.for_length-from.ensures.is, c.min.ensures) (can_realloc _ _ _ _ _ c.requires.0 (omega arith) c.requires.1)

pub returns : goal.returns
unfolding blocks.moved
returns c =
    let made = c.realloc.ensures in
    record {
      is =
          rw
          (c.requires.1, ne_eqb c.args.old 0 c.if-old-eq0.false, ← c.for_length-to.ensures.is, ← c.for_length-from.ensures.is, ← c.min.ensures)
          made.is;
      ends = omega (arith, made.ends, fits (goal.at.returns c).After-for_length-to);
    }
