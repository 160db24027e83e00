-- `store` meets its contract. What the loop keeps: the words passed so far are stored.
use Rattle.std.proofs.Common.{◌≡◌, length, take}
use Rattle.std.proofs.lemmas.List.Edits.{sets}
use Rattle.words.proofs.store.Given as goal

abbrev pub invariant-loop-i : goal.invariant-loop-i
invariant-loop-i l = (length l.s ≡ length l.initial.s) × (l.s ≡ sets l.initial.s l.at (take l.i l.t))
