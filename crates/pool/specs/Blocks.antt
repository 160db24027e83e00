-- The word rules of the inner steps: `alloc`, `free`, `realloc` (word rules 2 to 4), and the move of a list to the block of another length.
use Rattle.std.specs.Prelude.{ℕ, ◌+◌, ◌-◌, min, cond, List, get_or, set, eqb}
use Rattle.sizes.specs.Class.{class_of, size_of}
use Rattle.words.specs.Runs.{filled, copied}
use Rattle.pool.specs.declared.ListPool.{ListPool}
use Rattle.pool.specs.Numbers.{state_of, head_of, needs_block}

-- "4,294,967,295 included (written MAX below ..)", the reserved value
abbrev pub MAX : ℕ
MAX = 4294967295

-- a block that was taken, with the state and the pool's words after that
pub record Taken : Type 0 where
  pub block : ℕ
  pub state : ListPool
  pub words : List ℕ

-- the state and the pool's words once a block is freed
pub record Freed : Type 0 where
  pub state : ListPool
  pub words : List ℕ

-- 2. "with a head h, the head becomes the word at h and the block is h - 1, its words untouched."
unfoldable pub recycled : ListPool → List ℕ → ℕ → Taken
recycled st ws c =
    let h = head_of st c in
    record { block = h - 1; state = state_of st.used (set st.heads c (get_or ws h 0)); words = ws }

-- "Else the block starts at used, all its words become MAX, used grows."
unfoldable pub fresh : ListPool → List ℕ → ℕ → Taken
fresh st ws c =
    record {
      block = st.used;
      state = state_of (st.used + size_of c) st.heads;
      words = filled ws st.used (size_of c) MAX;
    }

unfoldable pub alloc : ListPool → List ℕ → ℕ → Taken
alloc st ws c = cond (eqb (head_of st c) 0) (fresh st ws c) (recycled st ws c)

-- 3. "word 0 becomes 0, word 1 the old head, the head block + 1; other words stay."
unfoldable pub free : ListPool → List ℕ → ℕ → ℕ → Freed
free st ws block c =
    record {
      state = state_of st.used (set st.heads c (block + 1));
      words = set (set ws block 0) (block + 1) (head_of st c);
    }

-- 4. "allocate, copy the first words (all read before any is written), then free the old block."
unfoldable pub realloc : ListPool → List ℕ → ℕ → ℕ → ℕ → ℕ → Taken
realloc st ws block from to n =
    let a = alloc st ws to in
    let f = free a.state (copied a.words block a.block n) block from in
    record { block = a.block; state = f.state; words = f.words }

-- The block for the new length of the list at h, which has the old one: where one is needed, a new one for an empty list, and else another one
-- with the length and the elements that both have copied ("copying length + 1 words" up, "old-length words" or "new length + 1" down);
-- where none is needed, the list's own.
unfoldable pub moved : ListPool → List ℕ → ℕ → ℕ → ℕ → Taken
moved st ws h old new =
    cond (needs_block old new)
    (cond (eqb old 0) (alloc st ws (class_of new)) (realloc st ws (h - 1) (class_of old) (class_of new) (min old new + 1)))
    (record { block = h - 1; state = st; words = ws })
