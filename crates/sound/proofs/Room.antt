-- What a sound pool within the limits answers: never 1, 3 or 6, and 7 exactly where a block is needed and there is none.
use Rattle.std.specs.Prelude.{◌≡◌, Bool, cond, ◌&&◌, ◌||◌, ◌↔◌, ◌≢◌, ◌⊎◌, ℕ, ◌+◌, ◌≤◌, ◌<◌, length, get_or, ltb, leb, eqb}
use Rattle.std.proofs.Math.Path.{refl}
use Rattle.std.proofs.Common.{sym, ap, ◌∙◌, ⊎_elim, arith, ltb-true, eqb-true, eq-eqb, ne_eqb, lt-ltb}
use Rattle.std.proofs.Math.Bool.{true, false, and-eq-true_iff, or-true, and-false}
use Rattle.std.proofs.lemmas.Bool.{false≢true}
use mathlib.Core.List.{List, [], ◌∷◌}
use Rattle.std.proofs.Math.Logic.{inl, inr}
use mathlib.Core.Logic.Iff
use Rattle.std.proofs.Math.Decide.{ℕ_discrete}
use Rattle.sizes.specs.Class.{longest, class_of, size_of}
use Rattle.sizes.proofs.Laws.{size_least}
use Rattle.pool.specs.declared.ListPool.{ListPool}
use Rattle.pool.specs.Numbers.{◌or_else◌, head_of, sound_head, given, bad_head, no_room, room_number, needs_block, need_number}
use Rattle.pool.specs.Rules.{Call, from_slice, is_empty, len, is_valid, get, first, set_at, deep_clone, clear, take, push}
use Rattle.pool.specs.Rules.{extend, copy_from, insert, remove, swap_remove, truncate, grow_at, clear_pool, number_of}
use Rattle.sound.specs.Sound.{Chain, Cut, SoundWith}
use Rattle.sound.specs.Refusals.{refusal, lengths}
use Rattle.sound.proofs.Refusals.{number_is}
use Rattle.sound.specs.Room.{NoRoom, NeedsBlock, free_blocks}

-- THE NUMBERS OF A BLOCK

-- a chain is empty just where its head is 0
chain_none : (used : ℕ) (ws : List ℕ) (c h : ℕ) (bs : List ℕ) → Chain used ws c h bs → (h ≡ 0) ↔ (bs ≡ [])
chain_none used ws c h [] C = (λ z. refl, λ e. C)
chain_none used ws c h (b ∷ bs) C = (λ z. absurd (omega (arith, C.0)), λ e. absurd (omega (arith, ap length e)))

chain_head : (used : ℕ) (ws : List ℕ) (c h : ℕ) (bs : List ℕ) → Chain used ws c h bs → sound_head used ws c h ≡ true
unfolding sound_head
chain_head used ws c h [] C = rw (eq-eqb h 0 C)
chain_head used ws c h (b ∷ bs) C = C.1

or_cases : {a b : Bool} → (a || b) ≡ true → (a ≡ true) ⊎ (b ≡ true)
or_cases {a = true} e = inl refl
or_cases {a = false} e = inr e

given_is : (n : ℕ) (t : Bool) → 0 < n → (given n t ≡ n) ↔ (t ≡ true)
unfolding given
given_is n true p = (λ e. refl, λ e. refl)
given_is n false p = (λ e. absurd (omega arith), λ e. absurd (false≢true e))

module _ {st : ListPool} {ws hs : List ℕ} {fs : List (List ℕ)} (C : Cut st ws hs fs) where
  -- the test for 7 says just that there is no room
  no_room_lem : (n : ℕ) → (no_room st ws n ≡ true) ↔ NoRoom st ws fs n
  unfolding no_room
  no_room_lem n = (there, back)
    where
      none : (head_of st (class_of n) ≡ 0) ↔ (get_or fs (class_of n) [] ≡ [])
      none = chain_none st.used ws (class_of n) (head_of st (class_of n)) (get_or fs (class_of n) []) (C.chains (class_of n))

      there : (ltb longest n || (eqb (head_of st (class_of n)) 0 && ltb (length ws) (st.used + size_of (class_of n)))) ≡ true → NoRoom st ws fs n
      there e = go (or_cases e)
        where
          go : (ltb longest n ≡ true) ⊎ ((eqb (head_of st (class_of n)) 0 && ltb (length ws) (st.used + size_of (class_of n))) ≡ true) → NoRoom st ws fs n
          go (inl a) = inl (ltb-true _ _ a)
          go (inr b) = let (z, t) = (and-eq-true_iff _ _).0 b in
              inr (none.0 (eqb-true _ _ z), omega (arith, ltb-true (length ws) (st.used + size_of (class_of n)) t, size_least (class_of n)))

      back : NoRoom st ws fs n → (ltb longest n || (eqb (head_of st (class_of n)) 0 && ltb (length ws) (st.used + size_of (class_of n)))) ≡ true
      back (inl a) = rw (lt-ltb longest n a)
      back (inr b) =
          rw (eq-eqb (head_of st (class_of n)) 0 (none.1 b.0), lt-ltb (length ws) (st.used + size_of (class_of n)) (omega (arith, b.1)))
          (or-true (ltb longest n))

  -- 6 is out of the question
  room_number_lem : (n : ℕ) → room_number st ws n ≡ given 7 (no_room st ws n)
  unfolding room_number bad_head given ◌or_else◌
  room_number_lem n =
      rw (chain_head st.used ws (class_of n) (head_of st (class_of n)) (get_or fs (class_of n) []) (C.chains (class_of n)), and-false (leb n longest))

  -- Where a block is needed for n elements the number is 7 exactly where there is no room, and else 0.
  pub room_7 : (n : ℕ) → (room_number st ws n ≡ 7) ↔ NoRoom st ws fs n
  room_7 n = rw (room_number_lem n) (Iff.trans (given_is 7 (no_room st ws n) (omega arith)) (no_room_lem n))

  pub room_0_7 : (n : ℕ) → (room_number st ws n ≡ 0) ⊎ (room_number st ws n ≡ 7)
  unfolding given
  room_0_7 n = rw (room_number_lem n) (go (no_room st ws n))
    where
      go : (t : Bool) → (given 7 t ≡ 0) ⊎ (given 7 t ≡ 7)
      go true = inr refl
      go false = inl refl

  -- And where a list of the old length gets the new one the number is 7 exactly where a block is needed and there is no room, and else 0.
  pub need_7 : (old new : ℕ) → (need_number st ws old new ≡ 7) ↔ ((needs_block old new ≡ true) × NoRoom st ws fs new)
  unfolding need_number
  need_7 old new = go (needs_block old new)
    where
      go : (t : Bool) → (cond t (room_number st ws new) 0 ≡ 7) ↔ ((t ≡ true) × NoRoom st ws fs new)
      go true = (λ e. (refl, (room_7 new).0 e), λ (e, r). (room_7 new).1 r)
      go false = (λ e. absurd (omega arith), λ (e, r). absurd (false≢true e))

  pub need_0_7 : (old new : ℕ) → (need_number st ws old new ≡ 0) ⊎ (need_number st ws old new ≡ 7)
  unfolding need_number
  need_0_7 old new = go (needs_block old new)
    where
      go : (t : Bool) → (cond t (room_number st ws new) 0 ≡ 0) ⊎ (cond t (room_number st ws new) 0 ≡ 7)
      go true = room_0_7 new
      go false = inl refl

-- THE NUMBERS OF A CALL

-- a number that arguments can be refused with on a sound pool: 2, 4 or 5
record Low (e : ℕ) : Type 0 where
  most : e ≤ 5
  not_1 : e ≢ 1
  not_3 : e ≢ 3

low_none : Low 0
low_none = record { most = omega arith; not_1 = λ e. omega arith; not_3 = λ e. omega arith }

low_given : (n : ℕ) (t : Bool) → Low n → Low (given n t)
unfolding given
low_given n true L = L
low_given n false L = low_none

low_2 : (t : Bool) → Low (given 2 t)
low_2 t = low_given 2 t (record { most = omega arith; not_1 = λ e. omega arith; not_3 = λ e. omega arith })

low_4 : (t : Bool) → Low (given 4 t)
low_4 t = low_given 4 t (record { most = omega arith; not_1 = λ e. omega arith; not_3 = λ e. omega arith })

low_5 : (t : Bool) → Low (given 5 t)
low_5 t = low_given 5 t (record { most = omega arith; not_1 = λ e. omega arith; not_3 = λ e. omega arith })

low_else : {a b : ℕ} → Low a → Low b → Low (a or_else b)
unfolding ◌or_else◌
low_else {a} {b} L M = go (eqb a 0)
  where
    go : (t : Bool) → Low (cond t b a)
    go true = M
    go false = L

low_refusal : (call : Call) (ls : List (List ℕ)) → Low (refusal call ls)
unfolding refusal
low_refusal (from_slice slot xs) ls = low_else (low_2 _) (low_5 _)
low_refusal (is_empty slot) ls = low_2 _
low_refusal (len slot) ls = low_2 _
low_refusal (is_valid slot) ls = low_2 _
low_refusal (get slot position) ls = low_else (low_2 _) (low_4 _)
low_refusal (first slot) ls = low_else (low_2 _) (low_4 _)
low_refusal (set_at slot position x) ls = low_else (low_2 _) (low_4 _)
low_refusal (deep_clone slot other) ls = low_else (low_2 _) (low_5 _)
low_refusal (clear slot) ls = low_2 _
low_refusal (take slot other) ls = low_else (low_2 _) (low_5 _)
low_refusal (push slot x) ls = low_2 _
low_refusal (extend slot xs) ls = low_2 _
low_refusal (copy_from slot source start end position) ls = low_else (low_2 _) (low_else (low_4 _) (low_5 _))
low_refusal (insert slot position x) ls = low_else (low_2 _) (low_4 _)
low_refusal (remove slot position) ls = low_else (low_2 _) (low_4 _)
low_refusal (swap_remove slot position) ls = low_else (low_2 _) (low_4 _)
low_refusal (truncate slot new) ls = low_2 _
low_refusal (grow_at slot position count) ls = low_else (low_2 _) (low_4 _)
low_refusal clear_pool ls = low_none

else_cases : (a b : ℕ) → ((a ≡ 0) × ((a or_else b) ≡ b)) ⊎ ((a ≢ 0) × ((a or_else b) ≡ a))
unfolding ◌or_else◌
else_cases a b = go (ℕ_discrete a 0)
  where
    go : Dec (a ≡ 0) → ((a ≡ 0) × (cond (eqb a 0) b a ≡ b)) ⊎ ((a ≢ 0) × (cond (eqb a 0) b a ≡ a))
    go (yes z) = inl (z, rw (eq-eqb a 0 z))
    go (no n) = inr (n, rw (ne_eqb a 0 n))

module _ {st : ListPool} {ws hs : List ℕ} {ls : List (List ℕ)} (P : SoundWith st ws hs ls) (call : Call) where
  -- the number of the block for the length that the call gives a list
  block_number : ℕ
  block_number = need_number st ws (lengths call ls).old (lengths call ls).new

  -- that number, where the arguments do not refuse the call
  abbrev Numbers : Type 0
  Numbers = ((refusal call ls ≡ 0) × (number_of call st ws hs ≡ block_number)) ⊎ ((refusal call ls ≢ 0) × (number_of call st ws hs ≡ refusal call ls))

  numbers : Numbers
  unfolding block_number
  numbers = rw (number_is P call) (else_cases (refusal call ls) (need_number st ws (lengths call ls).old (lengths call ls).new))

  block_7 : (block_number ≡ 7) ↔ (NeedsBlock call ls × NoRoom st ws (free_blocks P) (lengths call ls).new)
  unfolding block_number
  block_7 = need_7 P.sound.1 (lengths call ls).old (lengths call ls).new

  block_0_7 : (block_number ≡ 0) ⊎ (block_number ≡ 7)
  unfolding block_number
  block_0_7 = need_0_7 P.sound.1 (lengths call ls).old (lengths call ls).new

  -- what is neither such a number nor that of a block does not come back
  never : (n : ℕ) → 1 ≤ n → n ≢ 7 → (Low n → ⊥) → number_of call st ws hs ≢ n
  never n l m not_low e = go numbers block_0_7
    where
      go : Numbers → (block_number ≡ 0) ⊎ (block_number ≡ 7) → ⊥
      go (inr (r, f)) d = let same : refusal call ls ≡ n = sym f ∙ e in not_low (rw same at (low_refusal call ls))
      go (inl (r, f)) (inl z) = omega arith
      go (inl (r, f)) (inr s) = m (sym e ∙ f ∙ s)

  unrefused : refusal call ls ≡ 0 → number_of call st ws hs ≡ block_number
  unrefused z = ⊎_elim (λ (y, e). e) (λ (n, e). absurd (n z)) numbers

  -- No call answers 1.
  pub never_1 : number_of call st ws hs ≢ 1
  never_1 = never 1 (omega arith) (λ e. omega arith) (λ L. L.not_1 refl)

  -- No call answers 3.
  pub never_3 : number_of call st ws hs ≢ 3
  never_3 = never 3 (omega arith) (λ e. omega arith) (λ L. L.not_3 refl)

  -- No call answers 6.
  pub never_6 : number_of call st ws hs ≢ 6
  never_6 = never 6 (omega arith) (λ e. omega arith) (λ L. omega (arith, L.most))

  -- A call that its arguments refuse, with 2, 4 or 5, answers so, whether there is room or not.
  pub answers_refusal : refusal call ls ≢ 0 → number_of call st ws hs ≡ refusal call ls
  answers_refusal r = ⊎_elim (λ (z, e). absurd (r z)) (λ (n, e). e) numbers

  -- A call answers 7 exactly where it has no earlier refusal, needs a block and there is no room for it:
  -- its class has no free block and the unused tail is too short, or its length is over the longest.
  pub answers_7 : (number_of call st ws hs ≡ 7) ↔ ((refusal call ls ≡ 0) × NeedsBlock call ls × NoRoom st ws (free_blocks P) (lengths call ls).new)
  answers_7 = (λ e. go e numbers, λ (z, b, n). unrefused z ∙ block_7.1 (b, n))
    where
      go : number_of call st ws hs ≡ 7
          → Numbers
          → (refusal call ls ≡ 0) × NeedsBlock call ls × NoRoom st ws (free_blocks P) (lengths call ls).new
      go e (inl (z, f)) = let (b, n) = block_7.0 (sym f ∙ e) in (z, b, n)
      go e (inr (r, f)) = absurd (omega (arith, (low_refusal call ls).most))

  -- A call answers 0 exactly where it has no earlier refusal and needs no block or there is room for it.
  pub answers_0 : (number_of call st ws hs ≡ 0) ↔ ((refusal call ls ≡ 0) × (NeedsBlock call ls → NoRoom st ws (free_blocks P) (lengths call ls).new → ⊥))
  answers_0 = (λ e. go e numbers, λ (z, room). unrefused z ∙ ⊎_elim (λ y. y) (λ s. absurd (let (b, n) = block_7.0 s in room b n)) block_0_7)
    where
      go : number_of call st ws hs ≡ 0
          → Numbers
          → (refusal call ls ≡ 0) × (NeedsBlock call ls → NoRoom st ws (free_blocks P) (lengths call ls).new → ⊥)
      go e (inl (z, f)) = (z, λ b n. omega (arith, block_7.1 (b, n)))
      go e (inr (r, f)) = absurd (r (sym f ∙ e))
