-- What the tests and numbers of a call say where they do not refuse it. Each fact is stated once and cited by every call.
use Rattle.std.specs.Prelude.{ℕ, ◌+◌, ◌-◌, ◌≤◌, ◌<◌, min, ◌≡◌, ◌⊎◌, Bool, ◌&&◌, ◌||◌, List, length, get_or, leb, eqb}
use Rattle.std.proofs.Math.Path.{refl, ap}
use Rattle.std.proofs.Common.{sym, ◌∙◌, inl, inr, ⊎_elim, true≢false, eq-zero-or-pos, zero-add, arith}
use Rattle.std.proofs.Math.Bool.{true, false, cond, not, and-eq-true_iff}
use Rattle.std.proofs.Math.Dec.{ltb}
use Rattle.std.proofs.Common.{ltb-true, ltb-false, leb-true, leb-false, eq-eqb, ne_eqb, lt-ltb, le-ltb, le-leb}
use Rattle.std.proofs.lemmas.Bool.{eqb-true, eqb-false, lt-leb, not-false}
use Rattle.pool.specs.Facts.{Within, Live, Entered, Stays, Head}
use Rattle.sizes.specs.Class.{longest, class_of, size_of}
use Rattle.sizes.proofs.Laws.{class_holds, class_below}
use Rattle.pool.specs.declared.ListPool.{ListPool}
use Rattle.pool.specs.Numbers.{◌or_else◌, pool_limit, head_of, handle_at, length_at, sound_handle, sound_head, given}
use Rattle.pool.specs.Numbers.{too_long, over_limit, entry_number, entry_number₂, bad_head, no_room, room_number, needs_block, need_number}
use Rattle.pool.specs.Rules.{len_of, at_number, take_number, grow_number, from_slice_number}
use Rattle.pool.specs.Rules.{deep_clone_number, grow_at_number, copy_from_number, remove_number, truncate_number}
use Rattle.pool.specs.Steps.{ListAt, CanAlloc, Ready, HasAt, CanCopy}

-- TESTS

pub both : {a b : Bool} → (a && b) ≡ true → (a ≡ true) × (b ≡ true)
both {a} {b} e = (and-eq-true_iff a b).0 e

pub neither : {a b : Bool} → (a || b) ≡ false → (a ≡ false) × (b ≡ false)
neither {a = false} e = (refl, e)
neither {a = true} e = absurd (true≢false e)

-- of a test that passes at 0, at a number that is not 0
beyond : (h : ℕ) {t : Bool} → 0 < h → (eqb h 0 || t) ≡ true → t ≡ true
beyond h {t} p e = sym (ap (λ (x : Bool). x || t) (ne_eqb h 0 (omega arith))) ∙ e

-- NUMBERS

pub given_zero : (n : ℕ) (t : Bool) → 0 < n → given n t ≡ 0 → t ≡ false
unfolding given
given_zero n true p e = absurd (omega arith)
given_zero n false p e = refl

pub else_first : (a b : ℕ) → (a or_else b) ≡ 0 → a ≡ 0
unfolding ◌or_else◌
else_first a b e = go (eqb a 0) refl e
  where
    go : (t : Bool) → eqb a 0 ≡ t → cond t b a ≡ 0 → a ≡ 0
    go true q e = eqb-true a 0 q
    go false q e = e

pub else_second : (a b : ℕ) → (a or_else b) ≡ 0 → b ≡ 0
unfolding ◌or_else◌
else_second a b e = ap (λ (t : Bool). cond t b a) (sym (eq-eqb a 0 (else_first a b e))) ∙ e

-- the first number that is not 0: with none behind it, and of three
pub else_none : (a : ℕ) → (a or_else 0) ≡ a
unfolding ◌or_else◌
else_none a = go (eqb a 0) refl
  where
    go : (t : Bool) → eqb a 0 ≡ t → cond t 0 a ≡ a
    go true e = sym (eqb-true a 0 e)
    go false e = refl

pub else_assoc : (a b c : ℕ) → ((a or_else b) or_else c) ≡ (a or_else (b or_else c))
unfolding ◌or_else◌
else_assoc a b c = go (eqb a 0) refl
  where
    go : (t : Bool) → eqb a 0 ≡ t → cond (eqb (cond t b a) 0) c (cond t b a) ≡ cond t (cond (eqb b 0) c b) a
    go true e = refl
    go false e = rw e

pub within_facts : (used pool table : ℕ) → over_limit used pool table ≡ false → Within used pool table
unfolding over_limit too_long
within_facts used pool table e =
    let a = neither e in
    let b = neither a.0 in
    let d = neither b.0 in
    record {
      pool_within = ltb-false _ _ d.0;
      table_within = ltb-false _ _ d.1;
      below = ltb-false _ _ b.1;
      fours = eqb-true _ _ (not-false _ a.1);
    }

pub within_limits : {used pool table : ℕ} → Within used pool table → over_limit used pool table ≡ false
unfolding over_limit too_long
within_limits W = rw (le-ltb _ _ W.pool_within, le-ltb _ _ W.table_within, le-ltb _ _ W.below, eq-eqb _ _ W.fours)

pub handle_facts : (used : ℕ) (ws : List ℕ) (h : ℕ) → sound_handle used ws h ≡ true → 0 < h → Live used ws h
unfolding sound_handle
handle_facts used ws h e p =
    let a = both (beyond h p e) in
    let b = both a.0 in
    let d = both b.0 in
    record { one = eqb-true _ _ d.0; below = ltb-true _ _ d.1; some = leb-true _ _ b.1; ends = leb-true _ _ a.1 }

-- the list there
pub list_at_lem : (used : ℕ) (ws : List ℕ) (h : ℕ) → used ≤ length ws → length ws ≤ pool_limit → sound_handle used ws h ≡ true
    → ListAt (length ws) h (length_at ws h)
unfolding length_at
list_at_lem used ws h below limit e = go (eq-zero-or-pos h)
  where
    go : (h ≡ 0) ⊎ (0 < h) → ListAt (length ws) h (cond (eqb h 0) 0 (get_or ws (h - 1) 0))
    go (inl z) =
        rw (eq-eqb h 0 z)
        (record {
          short = omega arith;
          below = omega arith;
          ends = omega arith;
          none = λ q. refl;
          some = λ q. absurd (omega arith);
          live = λ q. absurd (omega arith);
          block = λ q. absurd (omega arith);
        })
    go (inr p) =
        let live = handle_facts used ws h e p in
        let fits = class_holds (get_or ws (h - 1) 0) (omega arith) in
        rw (ne_eqb h 0 (omega arith))
        (record {
          short = omega arith;
          below = omega arith;
          ends = omega arith;
          none = λ q. absurd (omega arith);
          some = λ q. p;
          live = λ q. live.some;
          block = λ q. omega arith;
        })

module _ (used : ℕ) (ws hs : List ℕ) where
  entered : (slot : ℕ) → over_limit used (length ws) (length hs) ≡ false → leb (length hs) slot ≡ false
      → not (sound_handle used ws (handle_at hs slot)) ≡ false → Entered used ws hs slot
  entered slot e1 e2 e3 =
      let w = within_facts used (length ws) (length hs) e1 in
      record {
        limits = w;
        inside = leb-false _ _ e2;
        list = list_at_lem used ws (handle_at hs slot) w.below w.pool_within (not-false _ e3);
      }

  pub entry_facts : (slot : ℕ) → entry_number used ws hs slot ≡ 0 → Entered used ws hs slot
  unfolding entry_number
  entry_facts slot e =
      let e2 = else_second _ _ e in
      entered slot (given_zero 1 _ (omega arith) (else_first _ _ e)) (given_zero 2 _ (omega arith) (else_first _ _ e2))
      (given_zero 3 _ (omega arith) (else_second _ _ e2))

  pub entry_facts₂ : (slot other : ℕ) → entry_number₂ used ws hs slot other ≡ 0 → (Entered used ws hs slot) × (Entered used ws hs other)
  unfolding entry_number₂
  entry_facts₂ slot other e =
      let e1 = given_zero 1 _ (omega arith) (else_first _ _ e) in
      let e2 = neither (given_zero 2 _ (omega arith) (else_first _ _ (else_second _ _ e))) in
      let e3 = neither (given_zero 3 _ (omega arith) (else_second _ _ (else_second _ _ e))) in
      (entered slot e1 e2.0 e3.0, entered other e1 e2.1 e3.1)

pub stays : (old new : ℕ) → 0 < new → needs_block old new ≡ false → Stays old new
unfolding needs_block
stays old new p e =
    let test = ap (λ (x : Bool). not x && (eqb old 0 || ltb longest new || not (eqb (class_of old) (class_of new)))) (ne_eqb new 0 (omega arith)) in
    let t = neither (sym test ∙ e) in
    let u = neither t.0 in
    record { some = omega (arith, eqb-false old 0 u.0); most = ltb-false _ _ u.1; class = eqb-true _ _ (not-false _ t.1) }

pub head_facts : (used : ℕ) (ws : List ℕ) (c h : ℕ) → sound_head used ws c h ≡ true → 0 < h → Head used ws c h
unfolding sound_head
head_facts used ws c h e p =
    let a = both (beyond h p e) in
    let b = both a.0 in
    record { one = eqb-true _ _ b.0; ends = leb-true _ _ b.1; zero = eqb-true _ _ a.1 }

module _ (st : ListPool) (ws : List ℕ) (limit : length ws ≤ pool_limit) (below : st.used ≤ length ws) where
  -- 6 and 7 do not refuse: there is a block for n elements
  pub room_facts : (n : ℕ) → room_number st ws n ≡ 0 → (n ≤ longest) × CanAlloc st (length ws) (class_of n)
  unfolding room_number bad_head no_room
  room_facts n e =
      let h = head_of st (class_of n) in
      let long = neither (given_zero 7 _ (omega arith) (else_second _ _ e)) in
      let short = ltb-false longest n long.0 in
      let test = ap (λ (t : Bool). t && not (sound_head st.used ws (class_of n) h)) (le-leb n longest short) in
      let sound = not-false _ (sym test ∙ given_zero 6 _ (omega arith) (else_first _ _ e)) in (
        short,
        record {
          class = class_below n short;
          limit = limit;
          recycled = λ p. omega (arith, (head_facts st.used ws (class_of n) h sound p).ends);
          fresh = λ z. ltb-false _ _ (sym (ap (λ (t : Bool). t && ltb (length ws) (st.used + size_of (class_of n))) (eq-eqb h 0 z)) ∙ long.1);
        },
      )

  pub need_facts : (old new : ℕ) → need_number st ws old new ≡ 0 → (new ≤ longest) × (needs_block old new ≡ true → CanAlloc st (length ws) (class_of new))
  unfolding need_number
  need_facts old new e = go (needs_block old new) refl e
    where
      go : (t : Bool) → needs_block old new ≡ t → cond t (room_number st ws new) 0 ≡ 0
          → (new ≤ longest) × (needs_block old new ≡ true → CanAlloc st (length ws) (class_of new))
      go true m z = let r = room_facts new z in (r.0, λ q. r.1)
      go false m z =
          (⊎_elim (λ q. omega arith) (λ p. (stays old new p m).most) (eq-zero-or-pos new), λ q. absurd (true≢false (sym q ∙ m)))

-- a call that neither 1, 2, 3 nor 6, 7 refuse can leave a slot's list with the new length
pub ready : (st : ListPool) (ws hs : List ℕ) (slot new : ℕ) → Entered st.used ws hs slot
    → need_number st ws (len_of ws hs slot) new ≡ 0 → Ready st ws hs slot new
ready st ws hs slot new f e =
    let n = need_facts st ws f.limits.pool_within f.limits.below (len_of ws hs slot) new e in
    record { inside = f.inside; can = record { limit = f.limits.pool_within; list = f.list; most = n.0; room = n.1 } }

-- an empty list can get what no number of an empty list refuses
pub ready_empty : (st : ListPool) (ws hs : List ℕ) (slot count : ℕ) → Entered st.used ws hs slot → handle_at hs slot ≡ 0 → need_number st ws 0 count ≡ 0
    → Ready st ws hs slot (len_of ws hs slot + count)
ready_empty st ws hs slot count f z e = ready st ws hs slot _ f (rw (f.list.none z, zero-add) e)

-- a length over the longest is 7, whatever the heads are
pub need_over : (st : ListPool) (ws : List ℕ) (old new : ℕ) → longest < new → need_number st ws old new ≡ 7
unfolding need_number needs_block room_number bad_head no_room given ◌or_else◌
need_over st ws old new h = rw (ne_eqb new 0 (omega arith), lt-ltb longest new h, lt-leb new longest h) (go (eqb old 0))
  where
    go : (t : Bool) → ◌≡◌ {A = ℕ} (cond (t || true || not (eqb (class_of old) (class_of new))) 7 0) 7
    go true = refl
    go false = refl

-- "moves when the class changes": a list that has elements, and is left with some, needs a block exactly where its class changes
pub needs_where_class_changes : (old new : ℕ) → 0 < old → 0 < new → new ≤ longest → needs_block old new ≡ not (eqb (class_of old) (class_of new))
unfolding needs_block
needs_where_class_changes old new some left short =
    rw (ne_eqb new 0 (omega arith), ne_eqb old 0 (omega arith), le-ltb longest new short)

-- THE NUMBERS OF CALLS: what a call may rely on that its number does not refuse

pub at_facts : (used : ℕ) (ws hs : List ℕ) (slot position : ℕ) → at_number used ws hs slot position ≡ 0
    → (Entered used ws hs slot) × (HasAt ws hs slot position)
unfolding at_number
at_facts used ws hs slot position e =
    let f = entry_facts _ _ _ _ (else_first _ _ e) in
    (f, record { inside = f.inside; before = leb-false _ _ (given_zero 4 _ (omega arith) (else_second _ _ e)); ends = f.list.ends })

pub take_facts : (used : ℕ) (ws hs : List ℕ) (slot to : ℕ) → take_number used ws hs slot to ≡ 0 → (slot < length hs) × (to < length hs)
unfolding take_number
take_facts used ws hs slot to e = let f = entry_facts₂ _ _ _ _ _ (else_first _ _ e) in (f.0.inside, f.1.inside)

module _ (st : ListPool) (ws hs : List ℕ) where
  pub grow_facts : (slot count : ℕ) → grow_number st ws hs slot count ≡ 0 → Ready st ws hs slot (len_of ws hs slot + count)
  unfolding grow_number
  grow_facts slot count e = ready st ws hs _ _ (entry_facts _ _ _ _ (else_first _ _ e)) (else_second _ _ e)

  pub grow_at_facts : (slot position count : ℕ) → grow_at_number st ws hs slot position count ≡ 0
      → (position ≤ len_of ws hs slot) × (Ready st ws hs slot (len_of ws hs slot + count))
  unfolding grow_at_number
  grow_at_facts slot position count e =
      let e2 = else_second _ _ e in
      (ltb-false _ _ (given_zero 4 _ (omega arith) (else_first _ _ e2)), ready st ws hs _ _ (entry_facts _ _ _ _ (else_first _ _ e)) (else_second _ _ e2))

  pub remove_facts : (slot position : ℕ) → remove_number st ws hs slot position ≡ 0
      → (HasAt ws hs slot position) × (Ready st ws hs slot (len_of ws hs slot - 1))
  unfolding remove_number
  remove_facts slot position e = let f = at_facts _ _ _ _ _ (else_first _ _ e) in (f.1, ready st ws hs _ _ f.0 (else_second _ _ e))

  pub truncate_facts : (slot new : ℕ) → truncate_number st ws hs slot new ≡ 0 → Ready st ws hs slot (min (len_of ws hs slot) new)
  unfolding truncate_number
  truncate_facts slot new e = ready st ws hs _ _ (entry_facts _ _ _ _ (else_first _ _ e)) (else_second _ _ e)

  pub from_slice_facts : (slot count : ℕ) → from_slice_number st ws hs slot count ≡ 0 → Ready st ws hs slot (len_of ws hs slot + count)
  unfolding from_slice_number
  from_slice_facts slot count e =
      let e2 = else_second _ _ e in
      let empty = eqb-true _ _ (not-false _ (given_zero 5 _ (omega arith) (else_first _ _ e2))) in
      ready_empty st ws hs _ _ (entry_facts _ _ _ _ (else_first _ _ e)) empty (else_second _ _ e2)

  -- and its list is empty
  pub from_slice_empty : (slot count : ℕ) → from_slice_number st ws hs slot count ≡ 0 → len_of ws hs slot ≡ 0
  unfolding from_slice_number
  from_slice_empty slot count e =
      let e2 = else_second _ _ e in
      (entry_facts _ _ _ _ (else_first _ _ e)).list.none (eqb-true _ _ (not-false _ (given_zero 5 _ (omega arith) (else_first _ _ e2))))

  pub deep_clone_facts : (slot to : ℕ) → deep_clone_number st ws hs slot to ≡ 0
      → (Entered st.used ws hs slot) × (Ready st ws hs to (len_of ws hs to + len_of ws hs slot))
  unfolding deep_clone_number
  deep_clone_facts slot to e =
      let f = entry_facts₂ _ _ _ _ _ (else_first _ _ e) in
      let e2 = else_second _ _ e in
      (f.0, ready_empty st ws hs _ _ f.1 (eqb-true _ _ (not-false _ (given_zero 5 _ (omega arith) (else_first _ _ e2)))) (else_second _ _ e2))

  pub copy_from_facts : (slot source start end position : ℕ) → copy_from_number st ws hs slot source start end position ≡ 0
      → CanCopy st ws hs slot source start end position
  unfolding copy_from_number
  copy_from_facts slot source start end position e =
      let f = entry_facts₂ _ _ _ _ _ (else_first _ _ e) in
      let e2 = else_second _ _ e in
      let places = neither (given_zero 4 _ (omega arith) (else_first _ _ e2)) in
      let range = neither places.0 in
      record {
        ready = ready st ws hs _ _ f.0 (else_second _ _ (else_second _ _ e2));
        place = ltb-false _ _ range.0;
        order = ltb-false _ _ range.1;
        named = f.1.inside;
        range = omega (arith, f.1.list.ends, ltb-false (len_of ws hs source) end places.1);
      }
