-- The audit's rule: paper 01, "The audit". Every handle and every pointer on each chain is judged and its block marked in the map, at the block's
-- first group of four words; then the map is swept once: the marked blocks have to follow one another without gap or overlap up to used.
use Rattle.std.specs.Prelude.{ℕ, zero, suc, ◌+◌, ◌-◌, ◌*◌, ◌/◌, Bool, cond, not, ◌&&◌, List, [], ◌∷◌, length, get_or, set, take, eqb, ltb}
use Rattle.std.proofs.Math.Option.{Option, none, some}
use Rattle.sizes.specs.Class.{class_of, size_word}
use Rattle.words.specs.Runs.{filled}
use Rattle.pool.specs.declared.ListPool.{ListPool}
use Rattle.pool.specs.declared.Answer.{Answer}
use Rattle.pool.specs.Numbers.{◌or_else◌, given, over_limit, sound_handle, sound_head}
use Rattle.pool.specs.Rules.{answer}

-- "slot + 1 (live) or 2,147,483,648 + class (free)"
abbrev pub live_mark : ℕ → ℕ
live_mark slot = slot + 1

abbrev pub free_mark : ℕ → ℕ
free_mark c = 2147483648 + c

-- "at a block's first group of four words": of the block before a handle or pointer h
abbrev pub group_of : ℕ → ℕ
group_of h = (h - 1) / 4

-- The map with a block's mark; nothing where its first group is marked already: a block met twice, by whatever way, is not sound.
unfoldable pub marked : ℕ → ℕ → List ℕ → Option (List ℕ)
marked h mark map = cond (eqb (get_or map (group_of h) 0) 0) (some (set map (group_of h) mark)) none

-- go on with a map, if there is one
unfoldable pub and_then : Option (List ℕ) → (List ℕ → Option (List ℕ)) → Option (List ℕ)
and_then none next = none
and_then (some map) next = next map

module _ (used : ℕ) (ws : List ℕ) where
  -- "every handle .. locally sound": the handles of the table from a slot on, the empty ones passed over
  unfoldable pub handles_marked : ℕ → List ℕ → List ℕ → Option (List ℕ)
  handles_marked slot [] map = some map
  handles_marked slot (h ∷ hs) map =
      cond (sound_handle used ws h)
      (cond (eqb h 0) (handles_marked (suc slot) hs map) (and_then (marked h (live_mark slot) map) (handles_marked (suc slot) hs)))
      none

  -- "every pointer on each chain locally sound, chains ending": the chain of the class c from the pointer h, of at most so many blocks
  unfoldable pub chain_marked : ℕ → ℕ → ℕ → List ℕ → Option (List ℕ)
  chain_marked zero c h map = cond (eqb h 0) (some map) none
  chain_marked (suc most) c h map =
      cond (eqb h 0) (some map)
      (cond (sound_head used ws c h) (and_then (marked h (free_mark c) map) (chain_marked most c (get_or ws h 0))) none)

  -- the chains of all heads, from a class on: no chain has more blocks than there are groups
  unfoldable pub chains_marked : ℕ → List ℕ → List ℕ → Option (List ℕ)
  chains_marked c [] map = some map
  chains_marked c (h ∷ heads) map = and_then (chain_marked (used / 4) c h map) (chains_marked (suc c) heads)

-- the class of the block that starts at the group g and is marked so: of its length where it is live, else the mark's own
unfoldable pub class_at : List ℕ → ℕ → ℕ → ℕ
class_at ws g mark = cond (ltb mark (free_mark 0)) (class_of (get_or ws (g * 4) 0)) (mark - free_mark 0)

-- and how many groups it has
unfoldable pub groups_at : List ℕ → ℕ → ℕ → ℕ
groups_at ws g mark = size_word (class_at ws g mark) / 4

-- "blocks disjoint and covering all used words": over the marks from the group g on, where the next block has to start at the group next,
-- there is a mark just there, and the last block ends at the end
unfoldable pub swept : List ℕ → ℕ → ℕ → List ℕ → Bool
swept ws g next [] = eqb g next
swept ws g next (mark ∷ marks) =
    cond (eqb g next) (not (eqb mark 0) && swept ws (suc g) (g + groups_at ws g mark) marks) (eqb mark 0 && swept ws (suc g) next marks)

-- the map of an accepted state
unfoldable pub accepted : ListPool → List ℕ → List ℕ → List ℕ → Option (List ℕ)
accepted st ws hs map =
    and_then (handles_marked st.used ws 0 hs map)
    (λ map₁. and_then (chains_marked st.used ws 0 st.heads map₁)
    (λ map₂. cond (swept ws 0 0 (take (st.used / 4) map₂)) (some map₂) none))

-- All that the audit decides: the answer and every map word. It touches no pool word and no handle.
pub record Audited : Type 0 where
  pub answer : Answer
  pub map : List ℕ

abbrev pub audited : Answer → List ℕ → Audited
audited r map = record { answer = r; map = map }

-- 1, and 8: "map shorter than used / 4 words"
unfoldable pub audit_number : ℕ → List ℕ → List ℕ → List ℕ → ℕ
audit_number used ws hs map = given 1 (over_limit used (length ws) (length hs)) or_else given 8 (ltb (length map) (used / 4))

-- 0 with the map of an accepted state, else 9: "with 9 the first used / 4 map words become 0"
unfoldable pub verdict : ListPool → List ℕ → Option (List ℕ) → Audited
verdict st clean none = audited (answer 9 0 st) clean
verdict st clean (some map) = audited (answer 0 0 st) map

-- The audit: "Map words past used / 4 stay." The marks are made on a map whose first used / 4 words are 0.
unfoldable pub audit : ListPool → List ℕ → List ℕ → List ℕ → Audited
audit st ws hs map =
    let number = audit_number st.used ws hs map in
    let clean = filled map 0 (st.used / 4) 0 in
    cond (eqb number 0) (verdict st clean (accepted st ws hs clean)) (audited (answer number 0 st) map)
