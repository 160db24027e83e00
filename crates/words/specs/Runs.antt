-- Runs of words in a slice: what the slice holds after a run is filled, copied or stored. `sets ws at xs` stores xs word by word from `at` on.
use Rattle.std.specs.Prelude.{List, ℕ, take, drop, replicate}
use Rattle.std.proofs.lemmas.List.Edits.{sets}

-- n words from `at` on become v
unfoldable pub filled : List ℕ → ℕ → ℕ → ℕ → List ℕ
filled ws at n v = sets ws at (replicate n v)

-- n words from `from` on stand at `to` on: all are read before any is written
unfoldable pub copied : List ℕ → ℕ → ℕ → ℕ → List ℕ
copied ws from to n = sets ws to (take n (drop from ws))

-- the words xs stand from `at` on
unfoldable pub stored : List ℕ → ℕ → List ℕ → List ℕ
stored ws at xs = sets ws at xs
