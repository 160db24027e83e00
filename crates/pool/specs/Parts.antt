-- The parts of the pool that calls hand out: "`as_slice` gives back a part of the caller's pool, not a copy; where the call would be refused,
-- and for handle 0, the part is empty." Throughout `ws` is the pool's words and `hs` the table's handles.
use Rattle.std.specs.Prelude.{ℕ, ◌+◌, ◌-◌, ◌*◌, ◌≤◌, ◌≡◌, List, length, take, drop}
use Rattle.std.proofs.Common.{sym, ◌∙◌}
use Rattle.std.specs.Borrow.{Bor, MutBor}
use Rattle.pool.specs.declared.ListPool.{ListPool}
use Rattle.pool.specs.declared.Part.{Part}
use Rattle.pool.specs.Rules.{part}

-- p is the part where a slot's elements lie, and it lies in the pool
pub record PartOf (st : ListPool) (ws hs : List ℕ) (slot : ℕ) (p : Part) : Type 0 where
  pub is : p ≡ part st ws hs slot
  pub order : p.start ≤ p.end
  pub ends : p.end ≤ length ws

-- r is that part of the pool: its words, and its place, 4 bytes a word from where the pool lies, so that it is no copy
pub record LiesIn (st : ListPool) (hs : List ℕ) (slot : ℕ) (pool r : Bor (List ℕ)) : Type 0 where
  pub words : r.now ≡ (let p = part st pool.now hs slot in take (p.end - p.start) (drop p.start pool.now))
  pub place : r.ref_ptr ≡ (pool.ref_ptr.0, (part st pool.now hs slot).start * 4 + pool.ref_ptr.1)

-- the same of a part that is lent to be written
pub record LiesInMut (st : ListPool) (hs : List ℕ) (slot : ℕ) (pool r : MutBor (List ℕ)) : Type 0 where
  pub words : r.now ≡ (let p = part st pool.now hs slot in take (p.end - p.start) (drop p.start pool.now))
  pub place : r.ref_ptr ≡ (pool.ref_ptr.0, (part st pool.now hs slot).start * 4 + pool.ref_ptr.1)

-- "any two outcomes that satisfy it are shown equal": two parts of one list, and two slices that lie there: the same words at the same place
pub part_determined : {st : ListPool} {ws hs : List ℕ} {slot : ℕ} {p q : Part} → PartOf st ws hs slot p → PartOf st ws hs slot q → p ≡ q
part_determined a b = a.is ∙ sym b.is

pub lies_determined : {st : ListPool} {hs : List ℕ} {slot : ℕ} {pool r r' : Bor (List ℕ)} → LiesIn st hs slot pool r → LiesIn st hs slot pool r'
    → (r.now ≡ r'.now) × (r.ref_ptr ≡ r'.ref_ptr)
lies_determined a b = (a.words ∙ sym b.words, a.place ∙ sym b.place)

pub lies_mut_determined : {st : ListPool} {hs : List ℕ} {slot : ℕ} {pool r r' : MutBor (List ℕ)} → LiesInMut st hs slot pool r → LiesInMut st hs slot pool r'
    → (r.now ≡ r'.now) × (r.ref_ptr ≡ r'.ref_ptr)
lies_mut_determined a b = (a.words ∙ sym b.words, a.place ∙ sym b.place)
