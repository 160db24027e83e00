-- What the tests and numbers of a call say where they do not refuse it: the records that the facts of proofs/Facts.antt give.
use Rattle.std.specs.Prelude.{ℕ, ◌+◌, ◌-◌, ◌%◌, ◌≤◌, ◌<◌, ◌≡◌, List, length, get_or}
use Rattle.sizes.specs.Class.{longest, class_of, size_of}
use Rattle.pool.specs.Numbers.{pool_limit, table_limit, handle_at}
use Rattle.pool.specs.Rules.{len_of}
use Rattle.pool.specs.Steps.{ListAt}

-- 1: the limits are kept
pub record Within (used pool table : ℕ) : Type 0 where
  pub pool_within : pool ≤ pool_limit
  pub table_within : table ≤ table_limit
  pub below : used ≤ pool
  pub fours : used % 4 ≡ 0

-- 3: a handle that is not 0, and is locally sound
pub record Live (used : ℕ) (ws : List ℕ) (h : ℕ) : Type 0 where
  pub one : h % 4 ≡ 1
  pub below : h < used
  pub some : 1 ≤ get_or ws (h - 1) 0
  pub ends : h - 1 + size_of (class_of (get_or ws (h - 1) 0)) ≤ used

-- 1, 2 and 3 do not refuse a call that names the list in a slot
pub record Entered (used : ℕ) (ws hs : List ℕ) (slot : ℕ) : Type 0 where
  pub limits : Within used (length ws) (length hs)
  pub inside : slot < length hs
  pub list : ListAt (length ws) (handle_at hs slot) (len_of ws hs slot)

-- where no block is needed and some elements are left, there were some before, in a block of the same class
pub record Stays (old new : ℕ) : Type 0 where
  pub some : 0 < old
  pub most : new ≤ longest
  pub class : class_of old ≡ class_of new

-- a head that is not 0, and is locally sound
pub record Head (used : ℕ) (ws : List ℕ) (c h : ℕ) : Type 0 where
  pub one : h % 4 ≡ 1
  pub ends : h - 1 + size_of c ≤ used
  pub zero : get_or ws (h - 1) 0 ≡ 0
