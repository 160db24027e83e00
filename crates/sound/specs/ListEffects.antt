-- What every call does to the lists of the table, as plain sequences, and which of them it changes: to be read and believed.
use Rattle.std.specs.Prelude.{◌≡◌, cond, List, [], ◌∷◌, ◌++◌, ◌⊎◌, ℕ, ◌+◌, length, set, replicate, drop, eqb}
use Rattle.std.proofs.Math.ListN as plain
use Rattle.sizes.specs.Class.{class_of}
use Rattle.pool.specs.declared.ListPool.{ListPool}
use Rattle.pool.specs.Numbers.{head_of, handle_at, needs_block}
use Rattle.pool.specs.Blocks.{MAX}
use Rattle.pool.specs.Rules.{len_of, Call, from_slice, is_empty, len, is_valid, get, first, set_at, deep_clone, clear, take, push}
use Rattle.pool.specs.Rules.{extend, copy_from, insert, remove, swap_remove, truncate, grow_at, clear_pool}
use Rattle.sound.specs.Sound.{list_at}
use Rattle.sound.specs.Sequences.{insert_all, open_at, remove_at, swap_remove_at, range}

-- "the opened places keep what stood there": what stands behind the list in a slot once it is grown by a count. Where no block is needed, what
-- stood in its own block; else what stood in the block at the head of its new class, "its words untouched", or MAX in a new block, "all its words".
unfoldable pub behind : ListPool → List ℕ → List ℕ → ℕ → ℕ → List ℕ
behind st ws hs slot count =
    let old = len_of ws hs slot in
    let h = head_of st (class_of (old + count)) in
    cond (needs_block old (old + count))
    (cond (eqb h 0) (replicate count MAX) (plain.take count (drop (h + old) ws)))
    (plain.take count (drop (handle_at hs slot + old) ws))

-- What a call that answers 0 makes of the lists ls. Only `grow_at` asks what stands behind a list, bs.
unfoldable pub lists_after : (ℕ → ℕ → List ℕ) → Call → List (List ℕ) → List (List ℕ)
lists_after bs (from_slice slot xs) ls = set ls slot xs
lists_after bs (is_empty slot) ls = ls
lists_after bs (len slot) ls = ls
lists_after bs (is_valid slot) ls = ls
lists_after bs (get slot position) ls = ls
lists_after bs (first slot) ls = ls
lists_after bs (set_at slot position x) ls = set ls slot (set (list_at ls slot) position x)
lists_after bs (deep_clone slot to) ls = set ls to (list_at ls slot)
lists_after bs (clear slot) ls = set ls slot []
lists_after bs (take slot to) ls = set (set ls to (list_at ls slot)) slot []
lists_after bs (push slot x) ls = set ls slot (list_at ls slot ++ x ∷ [])
lists_after bs (extend slot xs) ls = set ls slot (list_at ls slot ++ xs)
lists_after bs (copy_from slot source start end position) ls = set ls slot (insert_all position (range start end (list_at ls source)) (list_at ls slot))
lists_after bs (insert slot position x) ls = set ls slot (insert_all position (x ∷ []) (list_at ls slot))
lists_after bs (remove slot position) ls = set ls slot (remove_at position (list_at ls slot))
lists_after bs (swap_remove slot position) ls = set ls slot (swap_remove_at position (list_at ls slot))
lists_after bs (truncate slot new) ls = set ls slot (plain.take new (list_at ls slot))
lists_after bs (grow_at slot position count) ls = set ls slot (open_at position (bs slot count) (list_at ls slot))
lists_after bs clear_pool ls = replicate (length ls) []

-- The slots whose lists a call changes.
abbrev pub Target : Call → ℕ → Type 0
Target (from_slice slot xs) k = k ≡ slot
Target (is_empty slot) k = ⊥
Target (len slot) k = ⊥
Target (is_valid slot) k = ⊥
Target (get slot position) k = ⊥
Target (first slot) k = ⊥
Target (set_at slot position x) k = k ≡ slot
Target (deep_clone slot to) k = k ≡ to
Target (clear slot) k = k ≡ slot
Target (take slot to) k = (k ≡ slot) ⊎ (k ≡ to)
Target (push slot x) k = k ≡ slot
Target (extend slot xs) k = k ≡ slot
Target (copy_from slot source start end position) k = k ≡ slot
Target (insert slot position x) k = k ≡ slot
Target (remove slot position) k = k ≡ slot
Target (swap_remove slot position) k = k ≡ slot
Target (truncate slot new) k = k ≡ slot
Target (grow_at slot position count) k = k ≡ slot
Target clear_pool k = Unit {0}
