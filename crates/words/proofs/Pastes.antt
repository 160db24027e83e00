-- What the library's methods leave, as the runs of specs/Runs.antt: a part of a slice that is written over as a whole is a run that is stored.
use Rattle.std.specs.Prelude.{◌≡◌, List, ℕ, ◌+◌, ◌≤◌, length, take}
use Rattle.std.proofs.Common.{◌∙◌, sym, length-take-le, take_all, arith}
use borrow.Rule.Slice.PartMut.{put_mid}
use Rattle.std.proofs.lemmas.List.Edits.{sets, sets-eq}
use Rattle.std.proofs.lemmas.Slice.{put_mid-paste}
use Rattle.std.proofs.Math.Seq.{paste}

-- the first n words of xs, written over the words from `at` on
pub paste_sets : (ws : List ℕ) (at : ℕ) (xs : List ℕ) (n : ℕ) → n ≤ length xs → at + n ≤ length ws → paste ws at xs n ≡ sets ws at (take n xs)
paste_sets ws at xs n h g = let long = length-take-le n xs h in sym (sets-eq (take n xs) ws at (rw long g) ∙ rw long)

-- a part of as many words as xs, which holds xs now
pub part_sets : (ws : List ℕ) (at k : ℕ) (xs ys : List ℕ) → ys ≡ xs → k ≡ length xs → at + k ≤ length ws → put_mid at k ws ys ≡ sets ws at xs
part_sets ws at k xs ys e long g =
    put_mid-paste at k ws ys xs (length xs) e (omega arith) (omega arith)
    ∙ paste_sets ws at xs (length xs) (omega arith) (omega arith)
    ∙ rw (take_all (length xs) xs (omega arith))
