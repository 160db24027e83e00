-- When there is no room, in the words of demand 3, and when a call needs a block.
use Rattle.std.specs.Prelude.{◌≡◌, ◌⊎◌, ℕ, ◌-◌, ◌<◌, length, get_or}
use Rattle.std.proofs.Math.Bool.{true}
use mathlib.Core.List.{List, []}
use Rattle.sizes.specs.Class.{longest, class_of, size_of}
use Rattle.pool.specs.declared.ListPool.{ListPool}
use Rattle.pool.specs.Numbers.{needs_block}
use Rattle.pool.specs.Rules.{Call}
use Rattle.sound.specs.Sound.{SoundWith}
use Rattle.sound.specs.Refusals.{lengths}

-- There is no room for n elements: n is over the longest, and has no class; or the class of n has no free block, and the unused tail is too short.
abbrev pub NoRoom : ListPool → List ℕ → List (List ℕ) → ℕ → Type 0
NoRoom st ws fs n = (longest < n) ⊎ ((get_or fs (class_of n) [] ≡ []) × (length ws - st.used < size_of (class_of n)))

-- "A call that needs a block": for the length that it gives a list
abbrev pub NeedsBlock : Call → List (List ℕ) → Type 0
NeedsBlock call ls = needs_block (lengths call ls).old (lengths call ls).new ≡ true

-- the starts of a sound pool's free blocks, by class: there is but one such table (`cut_unique`)
abbrev pub free_blocks : {st : ListPool} {ws hs : List ℕ} {ls : List (List ℕ)} → SoundWith st ws hs ls → List (List ℕ)
free_blocks P = P.sound.0
