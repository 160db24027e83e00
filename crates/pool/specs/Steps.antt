-- What the inner steps of the code ask of their callers and give them. What is asked for a block speaks of the state, of numbers and of the pool's
-- LENGTH, never of what the words are, so that it stands whatever was written before. Nobody has to believe this file: the calls' own contracts ask nothing.
use Rattle.std.specs.Prelude.{◌≡◌, ℕ, ◌+◌, ◌-◌, ◌≤◌, ◌<◌, true, cond, List, length, eqb}
use Rattle.sizes.specs.Class.{longest, class_count, class_of, size_of}
use Rattle.pool.specs.declared.ListPool.{ListPool}
use Rattle.pool.specs.Numbers.{pool_limit, head_of, handle_at, needs_block}
use Rattle.pool.specs.Blocks.{Taken, Freed, moved}
use Rattle.pool.specs.declared.Answer.{Answer}
use Rattle.pool.specs.Rules.{Outcome, outcome, cleared, len_of, seated}

-- a list of n elements at the handle h, in a pool of p words: it is empty at 0 and only there, and its block lies in the pool
pub record ListAt (p h n : ℕ) : Type 0 where
  pub short : n ≤ longest
  pub below : h ≤ p
  pub ends : h + n ≤ p
  pub none : h ≡ 0 → n ≡ 0
  pub some : 0 < n → 1 ≤ h
  pub live : 0 < h → 0 < n
  pub block : 0 < n → h - 1 + size_of (class_of n) ≤ p

-- a block of the class c can be taken: its head's block lies in the pool, or there is room at the end
pub record CanAlloc (st : ListPool) (p c : ℕ) : Type 0 where
  pub class : c < class_count
  pub limit : p ≤ pool_limit
  pub recycled : 0 < head_of st c → head_of st c - 1 + size_of c ≤ p
  pub fresh : head_of st c ≡ 0 → st.used + size_of c ≤ p

-- a block of the class c can be freed
pub record CanFree (p block c : ℕ) : Type 0 where
  pub class : c < class_count
  pub limit : p ≤ pool_limit
  pub whole : block + size_of c ≤ p

-- k words can be moved from a block of one class to a new one of another
pub record CanRealloc (st : ListPool) (p block from to k : ℕ) : Type 0 where
  pub new : CanAlloc st p to
  pub old : CanFree p block from
  pub leaves : k ≤ size_of from
  pub fits : k ≤ size_of to

-- the list of the old length at h can get the new one
pub record CanResize (st : ListPool) (p h old new : ℕ) : Type 0 where
  pub limit : p ≤ pool_limit
  pub list : ListAt p h old
  pub most : new ≤ longest
  pub room : needs_block old new ≡ true → CanAlloc st p (class_of new)

-- a call that leaves a slot's list with the new length can be done
pub record Ready (st : ListPool) (ws hs : List ℕ) (slot new : ℕ) : Type 0 where
  pub inside : slot < length hs
  pub can : CanResize st (length ws) (handle_at hs slot) (len_of ws hs slot) new

-- a position in a slot's list, whose elements lie in the pool
pub record HasAt (ws hs : List ℕ) (slot position : ℕ) : Type 0 where
  pub inside : slot < length hs
  pub before : position < len_of ws hs slot
  pub ends : handle_at hs slot + len_of ws hs slot ≤ length ws

-- a range of the source's list, and a position of a slot's list that can grow by as much
pub record CanCopy (st : ListPool) (ws hs : List ℕ) (slot source start end position : ℕ) : Type 0 where
  pub ready : Ready st ws hs slot (len_of ws hs slot + (end - start))
  pub place : position ≤ len_of ws hs slot
  pub order : start ≤ end
  pub named : source < length hs
  pub range : handle_at hs source + end ≤ length ws

-- the block that the code has taken, with the state and the words it left, as the rules have it
abbrev pub taken : ℕ → ListPool → List ℕ → Taken
taken block st ws = record { block = block; state = st; words = ws }

abbrev pub freed : ListPool → List ℕ → Freed
freed st ws = record { state = st; words = ws }

-- the list of the old length at h gets the new one: it is cleared, or lies in the block for that
unfoldable pub resized : ListPool → List ℕ → List ℕ → ℕ → ℕ → ℕ → ℕ → Outcome
resized st ws hs slot h old new = cond (eqb new 0) (cleared st ws hs slot h old) (seated 0 (moved st ws h old new) hs slot new)

-- a step did what the rule says, and the first n elements of the slot's list lie in the pool
pub record Meets (p : ℕ) (rule : Outcome) (slot n : ℕ) (r : Answer) (after tabled : List ℕ) : Type 0 where
  pub is : outcome r after tabled ≡ rule
  pub ends : handle_at tabled slot + n ≤ p

-- a step did what the rule says, and the first k words of the block it took lie in the pool
pub record Takes (p : ℕ) (rule : Taken) (k : ℕ) (block : ℕ) (st : ListPool) (after : List ℕ) : Type 0 where
  pub is : taken block st after ≡ rule
  pub ends : block + k ≤ p
