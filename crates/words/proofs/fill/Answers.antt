-- `fill` meets its contract.
use Rattle.std.proofs.Common.{◌∙◌, ◌≡◌, ap, ◌+◌, ◌-◌, length, take, drop, replicate, length-take, length-drop, arith}
use Rattle.std.proofs.lemmas.List.{length-replicate}
use Rattle.words.specs.Runs.{filled}
use Rattle.words.proofs.Pastes.{part_sets}
use Rattle.words.proofs.fill.Goals as goal

pub returns : goal.returns
unfolding filled
returns c =
    let a = c.args in
    let n : length (take (a.at + a.n - a.at) (drop a.at a.s.now)) ≡ a.n = simp (length-take, length-drop) (omega arith) in
    part_sets a.s.now a.at _ (replicate a.n a.v) _ (c.fill.ensures.after (λ y h. h) ∙ ap (λ k. replicate k a.v) n) (simp length-replicate (omega arith)) (omega arith)
