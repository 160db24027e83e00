-- Laws of runs: which word stands where after a run of stores, and how a run grows by a word at its end or at its start.
use Rattle.std.specs.Prelude.{◌≡◌, refl, List, [], ◌∷◌, ◌++◌, ℕ, zero, suc, ◌+◌, ◌≤◌, ◌<◌, length, get_or, set, take, drop, replicate}
use Rattle.std.proofs.Common.{◌∙◌, append-nil, add-zero, add-suc, suc-add, add-one, arith, length-set, length-take, length-drop, drop_of_length-le}
use Rattle.std.proofs.Common.{get_or-set_other, get_or-set_same, get_or-take, get_or-drop, length-take-le, take-suc, drop-cons}
use Rattle.std.proofs.lemmas.List.{length-replicate, get_or-replicate, set_comm}
use Rattle.std.proofs.lemmas.List.Edits.{sets, sets-eq}
use Rattle.std.proofs.Math.Seq.{length-sets}
use Rattle.words.specs.Runs.{filled, copied}

-- a run keeps the length
pub length_filled : (ws : List ℕ) (at n v : ℕ) → length (filled ws at n v) ≡ length ws
unfolding filled
length_filled ws at n v = length-sets ws at (replicate n v)

pub length_copied : (ws : List ℕ) (from to n : ℕ) → length (copied ws from to n) ≡ length ws
unfolding copied
length_copied ws from to n = length-sets ws to (take n (drop from ws))

-- a word below the run, and one above it, stays
pub get_or_sets_below : (ws : List ℕ) (at : ℕ) (xs : List ℕ) (k : ℕ) → k < at → get_or (sets ws at xs) k 0 ≡ get_or ws k 0
get_or_sets_below ws at [] k h = refl
get_or_sets_below ws at (x ∷ xs) k h = get_or_sets_below (set ws at x) (suc at) xs k (omega arith) ∙ get_or-set_other ws at k x 0 (omega arith)

pub get_or_sets_above : (ws : List ℕ) (at : ℕ) (xs : List ℕ) (k : ℕ) → at + length xs ≤ k → get_or (sets ws at xs) k 0 ≡ get_or ws k 0
get_or_sets_above ws at [] k h = refl
get_or_sets_above ws at (x ∷ xs) k h = get_or_sets_above (set ws at x) (suc at) xs k (omega arith) ∙ get_or-set_other ws at k x 0 (omega arith)

-- a word within the run is what was stored
pub get_or_sets_within : (ws : List ℕ) (at : ℕ) (xs : List ℕ) (i : ℕ) → i < length xs → at + i < length ws → get_or (sets ws at xs) (at + i) 0 ≡ get_or xs i 0
get_or_sets_within ws at [] i h g = omega arith
get_or_sets_within ws at (x ∷ xs) zero h g =
    rw add-zero (get_or_sets_below (set ws at x) (suc at) xs at (omega arith) ∙ get_or-set_same ws at x 0 (omega arith))
get_or_sets_within ws at (x ∷ xs) (suc i) h g =
    rw (add-suc, ← suc-add)
    (get_or_sets_within (set ws at x) (suc at) xs i (omega arith) (simp length-set (omega arith)))

-- a run that is read: its length and its words
pub length_take_drop : (ws : List ℕ) (from n : ℕ) → from + n ≤ length ws → length (take n (drop from ws)) ≡ n
length_take_drop ws from n h = simp (length-take, length-drop) (omega arith)

pub get_or_take_drop : (ws : List ℕ) (from n i : ℕ) → i < n → get_or (take n (drop from ws)) i 0 ≡ get_or ws (from + i) 0
get_or_take_drop ws from n i h = rw (get_or-take, get_or-drop)

-- a word within a run that was filled, and within one that was copied
pub get_or_filled_within : (ws : List ℕ) (at n v i : ℕ) → i < n → at + n ≤ length ws → get_or (filled ws at n v) (at + i) 0 ≡ v
unfolding filled
get_or_filled_within ws at n v i h g = get_or_sets_within ws at (replicate n v) i (simp length-replicate h) (omega arith) ∙ get_or-replicate n i v 0 h

pub get_or_copied_within : (ws : List ℕ) (from to n i : ℕ) → i < n → from + n ≤ length ws → to + n ≤ length ws
    → get_or (copied ws from to n) (to + i) 0 ≡ get_or ws (from + i) 0
unfolding copied
get_or_copied_within ws from to n i h f t =
    get_or_sets_within ws to (take n (drop from ws)) i (rw length_take_drop h) (omega arith) ∙ get_or_take_drop ws from n i h

-- two runs end to end are one
pub sets_append : (ws : List ℕ) (at : ℕ) (xs ys : List ℕ) → sets ws at (xs ++ ys) ≡ sets (sets ws at xs) (at + length xs) ys
sets_append ws at [] ys = rw add-zero
sets_append ws at (x ∷ xs) ys = rw (add-suc, ← suc-add) (sets_append (set ws at x) (suc at) xs ys)

-- a store below a run may be made first
pub set_sets_below : (ws : List ℕ) (at : ℕ) (xs : List ℕ) (k v : ℕ) → k < at → set (sets ws at xs) k v ≡ sets (set ws k v) at xs
set_sets_below ws at [] k v h = refl
set_sets_below ws at (x ∷ xs) k v h = rw (set_comm ws k at v x (omega arith)) (set_sets_below (set ws at x) (suc at) xs k v (omega arith))

-- one word more of xs, which is stored lowest word first, and highest word first
pub set_sets_take : (ws : List ℕ) (at : ℕ) (xs : List ℕ) (i : ℕ) → i < length xs
    → set (sets ws at (take i xs)) (at + i) (get_or xs i 0) ≡ sets ws at (take (i + 1) xs)
set_sets_take ws at xs i h = rw (add-one, take-suc xs i 0 h, sets_append, length-take-le i xs (omega arith))

pub set_sets_drop : (ws : List ℕ) (at : ℕ) (xs : List ℕ) (i : ℕ) → i < length xs
    → set (sets ws (at + (i + 1)) (drop (i + 1) xs)) (at + i) (get_or xs i 0) ≡ sets ws (at + i) (drop i xs)
set_sets_drop ws at xs i h =
    rw (add-one, drop-cons xs i 0 h, add-suc) (set_sets_below ws (suc (at + i)) (drop (suc i) xs) (at + i) (get_or xs i 0) (omega arith))

-- a run over every word
pub filled_whole : (ws : List ℕ) (v : ℕ) → filled ws 0 (length ws) v ≡ replicate (length ws) v
unfolding filled
filled_whole ws v =
    sets-eq (replicate (length ws) v) ws 0 (rw length-replicate (omega arith))
    ∙ rw (length-replicate, drop_of_length-le ws {i = 0 + length ws} (omega arith), append-nil)
