-- What the calls that read answer on a sound pool within the limits: what the plain sequence in the slot says. They change nothing.
-- And the one value that a call that changes a list gives.
use Rattle.std.specs.Prelude.{◌≡◌, cond, List, [], get_or, take, drop, eqb}
use Rattle.std.proofs.Math.Path.{sym, ap}
use Prim.Native.Nat.{ℕ, ◌+◌, ◌-◌, ◌≤◌, ◌<◌}
use Rattle.std.proofs.Common.{arith}
use Rattle.std.proofs.Math.Decide.{dec_lt}
use borrow.Author.Tests.{le-leb, lt-leb}
use Rattle.std.proofs.Math.ListN.{length, get_or-eq_default}
use Rattle.pool.specs.declared.ListPool.{ListPool}
use Rattle.pool.specs.Numbers.{◌or_else◌, handle_at, length_at, given, entry_number}
use Rattle.pool.specs.Rules.{is_empty, len, is_valid, get, first, push, len_of, done, refused, number_of, done_of, unless, called}
use Rattle.pool.specs.Rules.{at_number, is_empty_done, len_done, is_valid_done, get_done, push_done, part}
use Rattle.sound.specs.Sound.{list_at, SoundWith}
use Rattle.sound.proofs.Changes.{list_is, list_element, length_list, length_lists}
use Rattle.sound.proofs.Refusals.{entry_is, empty_is}

module _ {st : ListPool} {ws hs : List ℕ} {ls : List (List ℕ)} (P : SoundWith st ws hs ls) where
  named : {slot : ℕ} → slot < length hs → entry_number st.used ws hs slot ≡ 0
  unfolding given
  named {slot} l = rw (entry_is P slot, length_lists P, lt-leb (length hs) slot l)

  unnamed : {slot : ℕ} → length hs ≤ slot → entry_number st.used ws hs slot ≡ 2
  unfolding given
  unnamed {slot} h = rw (entry_is P slot, length_lists P, le-leb (length hs) slot h)

  -- `len` gives the length of the list.
  pub len_reads : (slot : ℕ) → slot < length hs → called (len slot) st ws hs ≡ done (length (list_at ls slot)) st ws hs
  unfolding called unless number_of done_of len_done
  len_reads slot l = rw (named l, length_list P slot)

  -- `is_valid` gives 1.
  pub is_valid_reads : (slot : ℕ) → slot < length hs → called (is_valid slot) st ws hs ≡ done 1 st ws hs
  unfolding called unless number_of done_of is_valid_done
  is_valid_reads slot l = rw (named l)

  -- `is_empty` gives 1 for the list of no elements, else 0.
  pub is_empty_reads : (slot : ℕ) → slot < length hs → called (is_empty slot) st ws hs ≡ done (cond (eqb (length (list_at ls slot)) 0) 1 0) st ws hs
  unfolding called unless number_of done_of is_empty_done
  is_empty_reads slot l = rw (named l, empty_is P slot)

  -- `get` gives the element at a position of the list,
  pub get_reads : (slot position : ℕ) → slot < length hs → position < length (list_at ls slot)
      → called (get slot position) st ws hs ≡ done (get_or (list_at ls slot) position 0) st ws hs
  unfolding called unless number_of done_of at_number get_done given ◌or_else◌
  get_reads slot position l h =
      let n = length_list P slot in
      rw (named l, lt-leb (len_of ws hs slot) position (omega arith), list_element P slot position (omega arith))

  -- and is refused with 4 at any other.
  pub get_beyond : (slot position : ℕ) → slot < length hs → length (list_at ls slot) ≤ position → called (get slot position) st ws hs ≡ refused st ws hs 4
  unfolding called unless number_of at_number given ◌or_else◌
  get_beyond slot position l h =
      rw (named l, le-leb (len_of ws hs slot) position (omega (arith, length_list P slot)))

  -- `first` gives the first element of the list,
  pub first_reads : (slot : ℕ) → slot < length hs → 0 < length (list_at ls slot) → called (first slot) st ws hs ≡ done (get_or (list_at ls slot) 0 0) st ws hs
  unfolding called unless number_of done_of
  first_reads slot l h = get_reads slot 0 l h

  -- and is refused with 4 where it has none.
  pub first_beyond : (slot : ℕ) → slot < length hs → list_at ls slot ≡ [] → called (first slot) st ws hs ≡ refused st ws hs 4
  unfolding called unless number_of done_of
  first_beyond slot l e = get_beyond slot 0 l (omega (arith, ap length e))

  -- The part that `as_slice` gives back is the list; of a slot that is not in the table it is empty.
  pub part_reads : (slot : ℕ) → (let p = part st ws hs slot in take (p.end - p.start) (drop p.start ws)) ≡ list_at ls slot
  unfolding part
  part_reads slot = go (dec_lt slot (length hs))
    where
      h : ℕ
      h = handle_at hs slot

      go : Dec (slot < length hs) → (let p = part st ws hs slot in take (p.end - p.start) (drop p.start ws)) ≡ list_at ls slot
      go (yes l) = let size : h + length_at ws h - h ≡ length_at ws h = omega arith in rw (named l, size) (sym (list_is P slot))
      go (no q) = rw (unnamed {slot = slot} (omega arith)) (sym (get_or-eq_default ls [] {n = slot} (omega (arith, length_lists P))))

  -- Of a slot that is not in the table all calls that read are refused with 2.
  pub reads_refused : (slot position : ℕ) → length hs ≤ slot
      → (called (len slot) st ws hs ≡ refused st ws hs 2)
      × (called (is_valid slot) st ws hs ≡ refused st ws hs 2)
      × (called (is_empty slot) st ws hs ≡ refused st ws hs 2)
      × (called (get slot position) st ws hs ≡ refused st ws hs 2)
      × (called (first slot) st ws hs ≡ refused st ws hs 2)
  unfolding called unless number_of at_number given ◌or_else◌
  reads_refused slot position h =
      let e = unnamed h in
      (rw e, rw e, rw e, rw e, rw e)

  -- `push` gives the length that the list had, which is where the element stands.
  pub push_value : (slot x : ℕ) → (done_of (push slot x) st ws hs).answer.value ≡ length (list_at ls slot)
  unfolding done_of push_done
  push_value slot x = sym (length_list P slot)
