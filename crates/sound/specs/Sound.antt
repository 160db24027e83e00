-- What a sound pool is, in the words of paper 01 and of demand 3, and which lists it holds.
-- What a reader has to believe is listed in docs/BELIEVE.md. The rest of this crate is proved.
-- Throughout `st` is the pool's state, `ws` its words, `hs` the table's handles, `fs` the starts of the free blocks, a list for each class.
use Rattle.std.specs.Prelude.{◌≡◌, true, cond, ◌&&◌, List, [], ◌∷◌, map, ℕ, suc, ◌+◌, ◌-◌, length, get_or, take, drop, ltb, leb, eqb}
use Rattle.sizes.specs.Class.{class_count, class_of, size_of}
use Rattle.pool.specs.declared.ListPool.{ListPool}
use Rattle.pool.specs.Numbers.{head_of, handle_at, length_at, sound_handle, sound_head}
use Rattle.pool.specs.Rules.{Outcome}
use Rattle.pool.specs.Facts.{Within}

-- the sum of f k x over the elements x of a list, each with its place k
unfoldable pub sum {ℓ} : {A : Type ℓ} → (ℕ → A → ℕ) → List A → ℕ
sum f [] = 0
sum f (x ∷ xs) = f 0 x + sum (λ k. f (suc k)) xs

-- 1 where the word i is one of the s words from b on, else 0
unfoldable pub over : ℕ → ℕ → ℕ → ℕ
over b s i = cond (leb b i && ltb i (b + s)) 1 0

-- the block of a handle over the word i: "one block for each non-empty handle", from h - 1 on, of the class of its length
unfoldable pub live_over : List ℕ → ℕ → ℕ → ℕ
live_over ws i h = cond (eqb h 0) 0 (over (h - 1) (size_of (class_of (get_or ws (h - 1) 0))) i)

-- how many free blocks of the class c, which start at bs, are over the word i
unfoldable pub free_over : ℕ → ℕ → List ℕ → ℕ
free_over i c bs = sum (λ k b. over b (size_of c) i) bs

-- "every pointer on each chain locally sound, chains ending": the chain of the class c from the pointer h passes just the blocks that start at bs
abbrev pub Chain : ℕ → List ℕ → ℕ → ℕ → List ℕ → Type 0
Chain used ws c h [] = h ≡ 0
Chain used ws c h (b ∷ bs) = (h ≡ b + 1) × (sound_head used ws c h ≡ true) × Chain used ws c (get_or ws h 0) bs

-- The used words are cut, without gap or overlap, into one block for each non-empty handle and free blocks each once on the chain of its size:
-- over each used word there is one block, counted as often as it occurs, and over no other word there is any.
pub record Cut (st : ListPool) (ws hs : List ℕ) (fs : List (List ℕ)) : Type 0 where
  pub heads : length st.heads ≡ class_count
  pub classes : length fs ≡ class_count
  pub handles : (slot : ℕ) → sound_handle st.used ws (handle_at hs slot) ≡ true
  pub chains : (c : ℕ) → Chain st.used ws c (head_of st c) (get_or fs c [])
  pub once : (i : ℕ) → sum (λ slot h. live_over ws i h) hs + sum (free_over i) fs ≡ over 0 st.used i

-- A sound pool.
abbrev pub Sound : ListPool → List ℕ → List ℕ → Type 0
Sound st ws hs = (fs : List (List ℕ)) × Cut st ws hs fs

-- the list at a handle, as a plain sequence: "a live block holds its length, the elements .. The handle is block start + 1."
unfoldable pub list_of : List ℕ → ℕ → List ℕ
list_of ws h = take (length_at ws h) (drop h ws)

-- the lists of the whole table, by slot
unfoldable pub lists : List ℕ → List ℕ → List (List ℕ)
lists ws hs = map (list_of ws) hs

-- the list in a slot of such a table
abbrev pub list_at : List (List ℕ) → ℕ → List ℕ
list_at ls slot = get_or ls slot []

-- A sound pool within paper 01's limits, with the lists ls in its table.
pub record SoundWith (st : ListPool) (ws hs : List ℕ) (ls : List (List ℕ)) : Type 0 where
  pub sound : Sound st ws hs
  pub within : Within st.used (length ws) (length hs)
  pub are : lists ws hs ≡ ls

-- A call leaves such a pool.
abbrev pub LeavesWith : Outcome → List (List ℕ) → Type 0
LeavesWith o ls = SoundWith o.answer.state o.words o.handles ls
