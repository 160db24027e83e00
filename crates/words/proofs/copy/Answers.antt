-- `copy` meets its contract.
use Rattle.std.proofs.Common.{arith, ◌∙◌, ◌≡◌, ◌+◌, ◌-◌, drop, length-drop}
use Rattle.words.specs.Runs.{copied}
use Rattle.words.proofs.Pastes.{paste_sets}
use Rattle.words.proofs.copy.Goals as goal

pub returns : goal.returns
unfolding copied
returns c =
    let a = c.args in
    let n : a.from + a.n - a.from ≡ a.n = omega arith in
    c.copy_within.ensures.after ∙ rw n (paste_sets a.s.now a.to (drop a.from a.s.now) a.n (simp length-drop (omega arith)) (omega arith))
