-- `words_at` meets its contract: the class is the length's where the block is live, else the mark's; a block's words are four for each group.
use Rattle.std.proofs.Common.{◌≡◌, ℕ, ◌*◌, ◌/◌, ◌<◌, arith, lt-ltb, le-ltb}
use Rattle.std.proofs.Math.Decide.{dec_lt}
use Rattle.sizes.specs.Class.{size_word}
use Rattle.sizes.proofs.Laws.{size_fours}
use Rattle.audit.specs.Audit.{free_mark, class_at, groups_at}
use Rattle.audit.proofs.words_at.Goals as goal
use Rattle.audit.proofs.words_at.Goals.{then-word-lt-FREE, else-word-lt-FREE}

whole_groups : (c : ℕ) → size_word c ≡ size_word c / 4 * 4
unfolding size_word
whole_groups c = go (dec_lt c 62)
  where
    go : Dec (c < 62) → size_word c ≡ size_word c / 4 * 4
    go (yes l) = rw (lt-ltb c 62 l) (omega (arith, size_fours c))
    go (no n) = rw (le-ltb c 62 (omega arith)) (omega arith)

pub returns : goal.returns
unfolding class_at groups_at
returns c =
    let a = c.args in (
      elim c.if-word-lt-FREE.branch [
        | then-word-lt-FREE w ↦ rw (lt-ltb a.word (free_mark 0) w.if-word-lt-FREE.true, ← w.for_length-c.ensures.is, ← w.c-is, c.size.ensures.is) (whole_groups _)
        | else-word-lt-FREE w ↦ rw (le-ltb a.word (free_mark 0) w.if-word-lt-FREE.false, ← w.c-is, c.size.ensures.is) (whole_groups _)
      ],
      c.size.ensures.most,
    )
