-- `swept` meets its contract. The loop's invariant: the sweep over the marks that are left, from here, says what the whole says.
use Rattle.std.proofs.Common.{◌≡◌, ◌+◌, ◌/◌, ◌≤◌, ◌<◌, List, ℕ, get_or, length, take, sym, ◌∙◌, arith, eq-eqb, ne_eqb, get_or-take, length-take-le}
use Rattle.audit.specs.Audit.{groups_at}
use Rattle.audit.specs.Passes.{swept_end, swept_gap, swept_block, swept_overlap, swept_inside}
use Rattle.audit.proofs.swept.Goals as goal
use Rattle.audit.proofs.swept.Goals.{then-g-next+else-word-eq0, else-g-next+else-word-ne0}

-- a turn of the loop is at one of the first groups
within : (map : List ℕ) (groups g : ℕ) → groups ≤ length map → g < length (take groups map) → g < groups
within map groups g long h = rw (length-take-le groups map long) at h

pub returns-then-word-eq0 : goal.returns-then-word-eq0
returns-then-word-eq0 c =
    let a = c.args in
    let l = c.loop-g in
    let below = within a.map.now (length a.used.now / 4) l.g (omega arith) c.loop-g-test.true in
    sym (l.invariant.1 ∙ swept_gap a.used.now a.map.now (length a.used.now / 4) l.g _ (omega arith) below (omega arith) (rw (get_or-take (length a.used.now / 4) a.map.now l.g 0 below) at c.if-word-eq0.true))

pub returns-then-word-ne0 : goal.returns-then-word-ne0
returns-then-word-ne0 c =
    let a = c.args in
    let l = c.loop-g in
    let below = within a.map.now (length a.used.now / 4) l.g (omega arith) c.loop-g-test.true in
    sym (l.invariant.1 ∙ swept_overlap a.used.now a.map.now (length a.used.now / 4) l.g _ (omega arith) below (omega arith) (rw (get_or-take (length a.used.now / 4) a.map.now l.g 0 below) at c.if-word-ne0.true))

pub loop-g-preserved : goal.loop-g-preserved
loop-g-preserved c =
    let a = c.args in
    let l = c.loop-g in
    let long : (length a.used.now / 4) ≤ length a.map.now = omega arith in
    let below = within a.map.now (length a.used.now / 4) l.g long c.loop-g-test.true in
    let word = get_or-take (length a.used.now / 4) a.map.now l.g 0 below in
    elim c.if-g-next.branch [
      | then-g-next+else-word-eq0 w ↦
          let size = rw word at w.words_at-next.ensures.0 in
          let to : c.if-g-next.next / 4 ≡ l.g + groups_at a.used.now l.g (get_or a.map.now l.g 0) = omega arith in
          (omega arith, l.invariant.1 ∙ rw to (swept_block a.used.now a.map.now (length a.used.now / 4) l.g _ long below (omega arith) (rw word at w.if-word-eq0.false)))
      | else-g-next+else-word-ne0 w ↦ rw w.next-is (l.invariant.0, l.invariant.1 ∙ swept_inside a.used.now a.map.now (length a.used.now / 4) l.g _ long below (omega arith) (rw word at w.if-word-ne0.false))
    ]

pub returns-then-next-groups : goal.returns-then-next-groups
returns-then-next-groups c =
    let a = c.args in
    let l = c.loop-g in
    let end = length-take-le (length a.used.now / 4) a.map.now (omega arith) in
    sym (l.invariant.1 ∙ swept_end a.used.now a.map.now (length a.used.now / 4) l.g _ (omega arith) (omega arith) ∙ ne_eqb l.g (l.next / 4) (omega arith))

pub returns : goal.returns
returns c =
    let a = c.args in
    let l = c.loop-g in
    let end = length-take-le (length a.used.now / 4) a.map.now (omega arith) in
    sym (l.invariant.1 ∙ swept_end a.used.now a.map.now (length a.used.now / 4) l.g _ (omega arith) (omega arith) ∙ eq-eqb l.g (l.next / 4) (omega arith))
