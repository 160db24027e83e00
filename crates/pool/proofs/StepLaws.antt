-- What the callers of the inner steps use of what they ask and give.
use Rattle.std.specs.Prelude.{ℕ, ◌+◌, ◌-◌, ◌≤◌, ◌<◌, min, ◌≡◌, refl, Bool, true, false, cond, not, ◌&&◌, ◌||◌, List, length, eqb}
use Rattle.std.proofs.Common.{sym, ap, ◌∙◌, ⊎_elim, le-ltb, eq-eqb, eq-zero-or-pos, arith}
use Rattle.std.proofs.lemmas.Bool.{not-true}
use Rattle.sizes.specs.Class.{longest, class_of, size_of}
use Rattle.sizes.proofs.Laws.{class_fits, class_below, size_least}
use Rattle.pool.specs.declared.ListPool.{ListPool}
use Rattle.pool.specs.Numbers.{pool_limit, head_of, handle_at, room_number, needs_block, need_number}
use Rattle.pool.specs.Rules.{len_of}
use Rattle.pool.specs.Steps.{ListAt, CanAlloc, CanFree, CanRealloc, CanResize, Ready, HasAt}
use Rattle.pool.proofs.Facts.{stays}

-- the head of a class whose block can be taken lies in the pool
pub head_below : (st : ListPool) (p c : ℕ) → CanAlloc st p c → head_of st c < p
head_below st p c can =
    ⊎_elim
    (λ z. omega (arith, can.fresh z, size_least c))
    (λ h. omega (arith, can.recycled h, size_least c))
    (eq-zero-or-pos (head_of st c))

-- a list that is not empty can give its block back
pub can_free : (p h n : ℕ) → ListAt p h n → 0 < n → p ≤ pool_limit → CanFree p (h - 1) (class_of n)
can_free p h n l some limit = record { class = class_below n l.short; limit = limit; whole = l.block some }

module _ (st : ListPool) (p h old new : ℕ) (can : CanResize st p h old new) where
  -- where another block is needed for a list that is not empty, it can be exchanged, with the length and what both have
  pub can_realloc : 0 < old → needs_block old new ≡ true → CanRealloc st p (h - 1) (class_of old) (class_of new) (min old new + 1)
  can_realloc some m =
      record {
        new = can.room m;
        old = can_free p h old can.list some can.limit;
        leaves = omega (arith, class_fits old (omega (arith, can.list.short)));
        fits = omega (arith, class_fits new (omega (arith, can.most)));
      }

  -- a block of the new length's class holds the length and the elements
  pub block_fits : new + 1 ≤ size_of (class_of new)
  block_fits = class_fits new (omega (arith, can.most))

  -- where none is needed and some elements are left, the list's own block holds them
  pub stay_ends : {t : Bool} → 0 < new → t ≡ needs_block old new → not t ≡ true → (1 ≤ h) × (h - 1 + (new + 1) ≤ p)
  stay_ends some m t =
      let s = stays old new some (sym m ∙ not-true _ t) in
      (can.list.some s.some, omega (arith, can.list.block s.some, block_fits, ap size_of s.class))

-- a list that keeps its length needs no block
pub need_same : (st : ListPool) (ws : List ℕ) (old new : ℕ) → old ≤ longest → new ≡ old → need_number st ws old new ≡ 0
unfolding need_number needs_block
need_same st ws old new short e = rw (e, le-ltb longest old short, eq-eqb (class_of old) (class_of old) refl) (go (eqb old 0))
  where
    go : (t : Bool) → ◌≡◌ {A = ℕ} (cond (not t && (t || false || not true)) (room_number st ws old) 0) 0
    go true = refl
    go false = refl

-- a call that may remove an element can remove the last one, wherever the elements were moved before
pub can_remove_last : (st : ListPool) (ws hs : List ℕ) (slot position : ℕ) {p old : ℕ}
    → (HasAt ws hs slot position) × (Ready st ws hs slot (len_of ws hs slot - 1)) → p ≡ length ws → old ≡ len_of ws hs slot
    → (CanResize st p (handle_at hs slot) old (old - 1)) × (old - 1 ≡ 0 → 1 ≤ handle_at hs slot) × (slot < length hs)
can_remove_last st ws hs slot position f e g = rw (e, g) (f.1.can, (λ _. f.1.can.list.some (omega (arith, f.0.before))), f.1.inside)
