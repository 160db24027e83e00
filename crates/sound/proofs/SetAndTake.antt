-- `set` and `take`, which set one element and move a list to another slot: each leaves a sound pool, and changes the lists of the table as one equation says.
use Rattle.std.specs.Prelude.{◌≡◌, Bool, true, false, cond, ◌⊎◌, ℕ, ◌+◌, ◌-◌, ◌<◌, length, eqb}
use Rattle.std.proofs.Math.Path.{refl, ap}
use Rattle.std.proofs.Common.{sym, ◌∙◌, inl, inr, eq-zero-or-pos, arith, eqb-true, length-set, get_or-set_other}
use mathlib.Core.List.{List, [], ◌∷◌}
use Rattle.std.proofs.lemmas.Bool.{eqb-false, not-false}
use Rattle.std.proofs.Math.ListN.{set}
use Rattle.std.proofs.lemmas.List.{set-get_or, set_comm}
use Rattle.pool.specs.declared.ListPool.{ListPool}
use Rattle.pool.specs.declared.Part.{Part}
use Rattle.pool.specs.Numbers.{handle_at, entry_number}
use Rattle.pool.specs.Rules.{len_of, part, set_at, take, number_of, done_of, take_number, set_done, take_done}
use Rattle.pool.proofs.Facts.{at_facts, given_zero, neither, else_first, else_second, entry_facts, entry_facts₂, handle_facts}
use Rattle.sound.specs.Sound.{list_of, list_at, SoundWith, LeavesWith}
use Rattle.sound.proofs.SoundBut.{SoundBut}
use Rattle.sound.proofs.HandOver.{held_out, held_in}
use Rattle.sound.proofs.Changes.{lists_set, lists_clear, holds, held, list_of_lem, length_list, has, written}

module _ {st : ListPool} {ws hs : List ℕ} {ls : List (List ℕ)} (P : SoundWith st ws hs ls) where
  -- "set one"
  pub set_holds : (slot p x : ℕ) → number_of (set_at slot p x) st ws hs ≡ 0
      → LeavesWith (done_of (set_at slot p x) st ws hs) (set ls slot (set (list_at ls slot) p x))
  unfolding number_of done_of set_done
  set_holds slot p x e =
      let (f, place) = at_facts st.used ws hs slot p e in
      let before = place.before in
      (written (has slot P f.inside) p (x ∷ []) (omega (arith, length_list P slot))).holds

  -- "writing to an element through `as_mut_slice` too": to write a word of the part that it gives is to set one element of the list
  pub write_holds : (slot p x : ℕ) → (part st ws hs slot).start + p < (part st ws hs slot).end
      → SoundWith st (set ws ((part st ws hs slot).start + p) x) hs (set ls slot (set (list_at ls slot) p x))
  unfolding part
  write_holds slot p x = go (eqb (entry_number st.used ws hs slot) 0) refl
    where
      here : Part
      here = record { start = handle_at hs slot; end = handle_at hs slot + len_of ws hs slot }

      none : Part
      none = record { start = 0; end = 0 }

      go : (t : Bool) → eqb (entry_number st.used ws hs slot) 0 ≡ t → (cond t here none).start + p < (cond t here none).end
          → SoundWith st (set ws ((cond t here none).start + p) x) hs (set ls slot (set (list_at ls slot) p x))
      go true e before =
          let f = entry_facts st.used ws hs slot (eqb-true _ _ e) in
          (written (has slot P f.inside) p (x ∷ []) (omega (arith, length_list P slot))).holds
      go false e before = absurd (omega arith)

  -- the block of one slot goes to another, which is empty
  handed : (slot to : ℕ) → slot < length hs → to < length hs → (slot ≡ to → ⊥) → handle_at hs to ≡ 0
      → SoundBut st ws (set (set hs to (handle_at hs slot)) slot 0) []
  handed slot to l k q z = go (eq-zero-or-pos (handle_at hs slot))
    where
      h : ℕ
      h = handle_at hs slot

      go : (h ≡ 0) ⊎ (0 < h) → SoundBut st ws (set (set hs to h) slot 0) []
      go (inl e) =
          let both : set (set hs to h) slot 0 ≡ hs =
          ap (λ (x : ℕ). set (set hs to x) slot 0) (e ∙ sym z)
          ∙ ap (λ (r : List ℕ). set r slot 0) (set-get_or hs to 0)
          ∙ ap (set hs slot) (sym e)
          ∙ set-get_or hs slot 0 in
          rw both (held P)
      go (inr p) =
          let back : h - 1 + 1 ≡ h = omega arith in
          let O = held_out slot (held P) l p in
          let none = get_or-set_other hs slot to 0 0 (λ e. q (sym e)) ∙ z in
          let some = (handle_facts st.used ws h ((held P).handles slot) p).some in
          let I = held_in to (h - 1) _ O (simp length-set k) none some refl in
          rw (back, set_comm hs slot to 0 h q) at I

  -- "move"
  pub take_holds : (slot to : ℕ) → number_of (take slot to) st ws hs ≡ 0
      → LeavesWith (done_of (take slot to) st ws hs) (set (set ls to (list_at ls slot)) slot [])
  unfolding number_of done_of take_number take_done
  take_holds slot to e =
      let (f, g) = entry_facts₂ st.used ws hs slot to (else_first _ _ e) in
      let t = neither (given_zero 5 _ (omega arith) (else_second _ _ e)) in
      let h = handle_at hs slot in
      holds (handed slot to f.inside g.inside (eqb-false _ _ t.0) (eqb-true _ _ (not-false _ t.1)))
      (lists_clear ws (set hs to h) slot
      ∙ ap (λ (r : List (List ℕ)). set r slot [])
      (lists_set ws hs to h ∙ ap (λ (r : List (List ℕ)). set r to (list_of ws h)) P.are ∙ ap (set ls to) (sym (list_of_lem P slot))))
