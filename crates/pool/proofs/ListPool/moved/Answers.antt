-- `moved` meets its contract: another block where one is needed, else the list's own.
use Rattle.std.proofs.Common.{not, ◌+◌, ◌-◌, ◌≤◌, length, refl, ap, sym, ◌∙◌, arith}
use Rattle.pool.specs.Blocks as blocks
use Rattle.pool.proofs.StepLaws.{stay_ends}
use Rattle.pool.proofs.ListPool.moved.Goals as goal
use Rattle.pool.proofs.ListPool.moved.Goals.{Else-needs_block}

-- where no block is needed, the list's own holds the new length
stays : (c : Else-needs_block) → (1 ≤ c.args.h) × (c.args.h - 1 + (c.args.new + 1) ≤ length c.args.pool.now)
stays c = stay_ends _ _ _ _ _ c.requires.0 c.requires.1 c.needs_block.ensures (ap not c.if-needs_block.false)

pub overflow_sub-result : goal.overflow_sub-result
overflow_sub-result c = (stays (goal.at.overflow_sub-result c).Else-needs_block).0

pub returns-else-needs_block : goal.returns-else-needs_block
unfolding blocks.moved
returns-else-needs_block c =
    record {
      is = rw (sym c.needs_block.ensures ∙ c.if-needs_block.false) refl;
      ends = (stays (goal.at.returns-else-needs_block c).Else-needs_block).1;
    }
