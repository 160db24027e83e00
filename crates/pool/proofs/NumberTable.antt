-- The rules follow the table of numbers, which stands in specs/NumberTable.antt: of every call, on every state, "The lowest number that applies is given".
use Rattle.std.specs.Prelude.{ℕ, ◌-◌, ◌≤◌, ◌≡◌, Bool, true, false, cond, ◌&&◌, ◌||◌, List, [], ◌∷◌, eqb, leb, ltb}
use Rattle.std.proofs.Math.Path.{refl, sym}
use Rattle.std.proofs.Common.{◌∙◌, ⊎_elim, ltb-false, lt-ltb, le-ltb, le-leb, eq-zero-or-pos, arith}
use Rattle.std.proofs.Math.Bool.{not}
use Rattle.std.proofs.lemmas.Bool.{lt-leb}
use Rattle.pool.specs.declared.ListPool.{ListPool}
use Rattle.pool.specs.Numbers.{◌or_else◌, handle_at, given, entry_number, entry_number₂}
use Rattle.pool.specs.Numbers.{bad_head, no_room, room_number, needs_block, need_number}
use Rattle.pool.specs.Rules as rules
use Rattle.pool.specs.Rules.{len_of, Call, number_of, called}
use Rattle.pool.proofs.Facts.{neither, else_none, else_assoc}
use Rattle.pool.proofs.Promises.{number_given}
use Rattle.pool.specs.NumberTable.{Judged, absent, unsound, limits, judged, any_of, applies, order, first_that}

-- THE RULES FOLLOW THE TABLE

or_none : (t : Bool) → (t || false) ≡ t
or_none true = refl
or_none false = refl

-- no position 0: the length is not "≥ 1"
no_first : (n : ℕ) → leb n 0 ≡ ltb n 1
no_first n =
    ⊎_elim (λ z. le-leb n 0 (omega arith) ∙ sym (lt-ltb n 1 (omega arith))) (λ p. lt-leb n 0 p ∙ sym (le-ltb n 1 (omega arith))) (eq-zero-or-pos n)

-- the seven tests of a call, in their order
in_order : (one two three four five block six seven : Bool)
    → (given 1 one or_else given 2 two or_else given 3 three) or_else given 4 four or_else given 5 five or_else cond block (given 6 six or_else given 7 seven) 0
    ≡ cond one 1 (cond two 2 (cond three 3 (cond four 4 (cond five 5 (cond (block && six) 6 (cond (block && seven) 7 0))))))
unfolding given ◌or_else◌
in_order true two three four five block six seven = refl
in_order false true three four five block six seven = refl
in_order false false true four five block six seven = refl
in_order false false false true five block six seven = refl
in_order false false false false true block six seven = refl
in_order false false false false false true true seven = refl
in_order false false false false false true false true = refl
in_order false false false false false true false false = refl
in_order false false false false false false six seven = refl

module _ (st : ListPool) (ws hs : List ℕ) where
  -- what the rules give for a call that is judged so, after 1, 2 and 3
  abbrev after_entry : ℕ → Judged → ℕ
  after_entry entry j = entry or_else given 4 j.outside or_else given 5 j.clash or_else need_number st ws j.old j.new

  -- what the table gives
  abbrev by_table : Bool → Bool → Bool → Judged → ℕ
  by_table one two three j =
      cond one 1 (cond two 2 (cond three 3 (cond j.outside 4 (cond j.clash 5
      (cond (needs_block j.old j.new && bad_head st ws j.new) 6 (cond (needs_block j.old j.new && no_room st ws j.new) 7 0))))))

  one_slot : (slot : ℕ) (j : Judged)
      → after_entry (entry_number st.used ws hs slot) j
      ≡ by_table (limits st ws hs) (any_of (absent st ws hs) (slot ∷ [])) (any_of (unsound st ws hs) (slot ∷ [])) j
  unfolding any_of entry_number need_number room_number
  one_slot slot j =
      rw (or_none (absent st ws hs slot), or_none (unsound st ws hs slot))
      (in_order (limits st ws hs) (absent st ws hs slot) (unsound st ws hs slot) j.outside j.clash
      (needs_block j.old j.new) (bad_head st ws j.new) (no_room st ws j.new))

  two_slots : (slot other : ℕ) (j : Judged)
      → after_entry (entry_number₂ st.used ws hs slot other) j
      ≡ by_table (limits st ws hs) (any_of (absent st ws hs) (slot ∷ other ∷ [])) (any_of (unsound st ws hs) (slot ∷ other ∷ [])) j
  unfolding any_of entry_number₂ need_number room_number
  two_slots slot other j =
      rw (or_none (absent st ws hs other), or_none (unsound st ws hs other))
      (in_order (limits st ws hs) (absent st ws hs slot || absent st ws hs other) (unsound st ws hs slot || unsound st ws hs other) j.outside j.clash
      (needs_block j.old j.new) (bad_head st ws j.new) (no_room st ws j.new))

  at_slot : (slot position : ℕ)
      → rules.at_number st.used ws hs slot position ≡ entry_number st.used ws hs slot or_else given 4 (leb (len_of ws hs slot) position) or_else 0
  unfolding rules.at_number
  at_slot slot position = rw (else_none (given 4 (leb (len_of ws hs slot) position)))

  remove_slot : (slot position : ℕ)
      → rules.remove_number st ws hs slot position
      ≡ entry_number st.used ws hs slot or_else given 4 (leb (len_of ws hs slot) position) or_else need_number st ws (len_of ws hs slot) (len_of ws hs slot - 1)
  unfolding rules.remove_number rules.at_number
  remove_slot slot position = else_assoc (entry_number st.used ws hs slot) _ _

  take_slots : (slot to : ℕ)
      → rules.take_number st.used ws hs slot to
      ≡ entry_number₂ st.used ws hs slot to or_else given 5 (eqb slot to || not (eqb (handle_at hs to) 0)) or_else 0
  unfolding rules.take_number
  take_slots slot to = rw (else_none (given 5 (eqb slot to || not (eqb (handle_at hs to) 0))))

  row_by_row : (call : Call) → number_of call st ws hs ≡ first_that (applies call st ws hs) order
  unfolding number_of first_that applies order judged any_of given ◌or_else◌ needs_block need_number
      rules.from_slice_number rules.deep_clone_number rules.grow_number rules.copy_from_number rules.grow_at_number rules.truncate_number
      rules.clear_pool_number
  row_by_row (rules.from_slice slot xs) = one_slot slot (judged st ws hs (rules.from_slice slot xs))
  row_by_row (rules.is_empty slot) = sym (else_none _) ∙ one_slot slot (judged st ws hs (rules.is_empty slot))
  row_by_row (rules.len slot) = sym (else_none _) ∙ one_slot slot (judged st ws hs (rules.len slot))
  row_by_row (rules.is_valid slot) = sym (else_none _) ∙ one_slot slot (judged st ws hs (rules.is_valid slot))
  row_by_row (rules.get slot position) = at_slot slot position ∙ one_slot slot (judged st ws hs (rules.get slot position))
  row_by_row (rules.first slot) = at_slot slot 0 ∙ rw (no_first (len_of ws hs slot)) (one_slot slot (judged st ws hs (rules.first slot)))
  row_by_row (rules.set_at slot position x) = at_slot slot position ∙ one_slot slot (judged st ws hs (rules.set_at slot position x))
  row_by_row (rules.deep_clone slot to) = two_slots slot to (judged st ws hs (rules.deep_clone slot to))
  row_by_row (rules.clear slot) = sym (else_none _) ∙ one_slot slot (judged st ws hs (rules.clear slot))
  row_by_row (rules.take slot to) = take_slots slot to ∙ two_slots slot to (judged st ws hs (rules.take slot to))
  row_by_row (rules.push slot x) = one_slot slot (judged st ws hs (rules.push slot x))
  row_by_row (rules.extend slot xs) = one_slot slot (judged st ws hs (rules.extend slot xs))
  row_by_row (rules.copy_from slot source start end position) = two_slots slot source (judged st ws hs (rules.copy_from slot source start end position))
  row_by_row (rules.insert slot position x) = one_slot slot (judged st ws hs (rules.insert slot position x))
  row_by_row (rules.remove slot position) = remove_slot slot position ∙ one_slot slot (judged st ws hs (rules.remove slot position))
  row_by_row (rules.swap_remove slot position) = remove_slot slot position ∙ one_slot slot (judged st ws hs (rules.swap_remove slot position))
  row_by_row (rules.truncate slot new) = one_slot slot (judged st ws hs (rules.truncate slot new))
  row_by_row (rules.grow_at slot position count) = one_slot slot (judged st ws hs (rules.grow_at slot position count))
  row_by_row rules.clear_pool = refl

  -- "The lowest number that applies is given": of every call, whatever the state, the words and the handles are.
  pub lowest_given : (call : Call) → (called call st ws hs).answer.number ≡ first_that (applies call st ws hs) order
  lowest_given call = number_given call st ws hs ∙ row_by_row call

-- 8 and 9 are "audit only": the number of a call is one of the order, or 0
first_within : (most : ℕ) (test : ℕ → Bool) (ns : List ℕ) → any_of (ltb most) ns ≡ false → first_that test ns ≤ most
unfolding first_that any_of
first_within most test [] none = omega arith
first_within most test (n ∷ ns) none = let (here, later) = neither none in go (test n) here (first_within most test ns later)
  where
    go : (t : Bool) → ltb most n ≡ false → first_that test ns ≤ most → cond t n (first_that test ns) ≤ most
    go true here later = ltb-false most n here
    go false here later = later

pub numbers_to_7 : (call : Call) (st : ListPool) (ws hs : List ℕ) → number_of call st ws hs ≤ 7
unfolding any_of order
numbers_to_7 call st ws hs = rw (row_by_row st ws hs call) (first_within 7 (applies call st ws hs) order refl)
