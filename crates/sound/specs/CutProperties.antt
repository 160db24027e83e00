-- The blocks of a sound pool by their places: of a slot, or on a chain.
use Rattle.std.specs.Prelude.{◌≡◌, ◌≢◌, ℕ, ◌+◌, ◌-◌, ◌≤◌, ◌<◌, get_or}
use mathlib.Core.List.{List, []}
use Rattle.std.proofs.Math.ListN.{length}
use Rattle.sizes.specs.Class.{class_count, class_of, size_of}
use Rattle.pool.specs.Numbers.{handle_at}
use Rattle.pool.specs.Rules.{len_of}

-- where a block is: the live block of a slot, or the free block at a place of a class's chain
pub data Place : Type 0 where
  live : ℕ → Place
  free : ℕ → ℕ → Place

-- there is a block: "one block for each non-empty handle", and one at each place of each chain
abbrev pub Block : List ℕ → List (List ℕ) → Place → Type 0
Block hs fs (live slot) = (slot < length hs) × (handle_at hs slot ≢ 0)
Block hs fs (free c k) = (c < class_count) × (k < length (get_or fs c []))

-- where it starts: "The handle is block start + 1."
abbrev pub start_of : List ℕ → List (List ℕ) → Place → ℕ
start_of hs fs (live slot) = handle_at hs slot - 1
start_of hs fs (free c k) = get_or (get_or fs c []) k 0

-- how many words it has, by the class of its length, or of its chain
abbrev pub words_of : List ℕ → List ℕ → Place → ℕ
words_of ws hs (live slot) = size_of (class_of (len_of ws hs slot))
words_of ws hs (free c k) = size_of c

-- the word i lies in that block
pub record Lies (ws hs : List ℕ) (fs : List (List ℕ)) (i : ℕ) (p : Place) : Type 0 where
  pub block : Block hs fs p
  pub from : start_of hs fs p ≤ i
  pub to : i < start_of hs fs p + words_of ws hs p

-- the block that starts at b is at the place k of the chain of the class c
abbrev pub OnChain : List (List ℕ) → ℕ → ℕ → ℕ → Type 0
OnChain fs c k b = (k < length (get_or fs c [])) × (get_or (get_or fs c []) k 0 ≡ b)
