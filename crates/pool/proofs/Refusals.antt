-- Numbers of refusals: none is 0, so a call is refused where a check fails, with its number, and goes on where it passes.
use Rattle.std.specs.Prelude.{◌≡◌, ℕ, ◌<◌, false, eqb, List, Result, refl}
use Rattle.std.specs.Result.{IsErrAnd}
use Rattle.std.proofs.Common.{sym, ◌∙◌, ne_eqb, arith}
use Rattle.std.proofs.lemmas.Result.{err_from_is_err_and}
use Rattle.pool.specs.Facts.{Entered}
use Rattle.pool.specs.Numbers.{◌or_else◌, entry_number, entry_number₂}
use Rattle.pool.specs.declared.Refusal.{Refusal}
use Rattle.pool.specs.declared.Refusal.TheVariants.{OverLimit, NoSlot, UnsoundHandle, OutsideList, SlotsClash, UnsoundHead, NoRoom, ShortMap, NotSound}
use Rattle.pool.specs.Refusals.{refusal_number, check_number}
use Rattle.pool.specs.declared.ListPool.{ListPool}
use Rattle.pool.specs.declared.Answer.{Answer}
use Rattle.pool.specs.Rules.{outcome, answer, at_number, Call, number_of, done_of, unless, called}
use Rattle.pool.specs.Steps.{HasAt}
use Rattle.pool.proofs.Facts.{entry_facts, entry_facts₂, at_facts}

pub refusal_some : (refusal : Refusal) → 0 < refusal_number refusal
refusal_some OverLimit = omega arith
refusal_some NoSlot = omega arith
refusal_some UnsoundHandle = omega arith
refusal_some OutsideList = omega arith
refusal_some SlotsClash = omega arith
refusal_some UnsoundHead = omega arith
refusal_some NoRoom = omega arith
refusal_some ShortMap = omega arith
refusal_some NotSound = omega arith

-- the test whether a refusal's number is 0
pub refusal_eqb : (refusal : Refusal) → eqb (refusal_number refusal) 0 ≡ false
refusal_eqb refusal = ne_eqb (refusal_number refusal) 0 (let p = refusal_some refusal in omega arith)

-- a call's numbers end with the first that is not 0: a check that fails has it
pub refused_first : (refusal : Refusal) {a : ℕ} (b : ℕ) → refusal_number refusal ≡ a → refusal_number refusal ≡ (a or_else b)
unfolding ◌or_else◌
refused_first refusal b e = rw (← e, refusal_eqb refusal)

-- what `?` passes on is the refusal that it met
pub passed_on : {A : Type 0} (refusal : Refusal) (r : Result A Refusal) → IsErrAnd r (λ e. e ≡ refusal) → check_number r ≡ refusal_number refusal
passed_on refusal r h = let e = err_from_is_err_and r h in rw (e.1, e.2) refl

-- a call whose first check fails passes its refusal on
pub stopped : {A : Type 0} (refusal : Refusal) (r : Result A Refusal) {a : ℕ} (b : ℕ) → IsErrAnd r (λ e. e ≡ refusal) → refusal_number refusal ≡ a
    → check_number r ≡ (a or_else b)
stopped refusal r b h e = passed_on refusal r h ∙ refused_first refusal b e

-- what a call may rely on after the check of one slot, of two, and of a position
module _ {used : ℕ} {ws hs : List ℕ} {slot : ℕ} where
  pub entered : 0 ≡ entry_number used ws hs slot → Entered used ws hs slot
  entered e = entry_facts used ws hs slot (sym e)

  pub entered₂ : {other : ℕ} → 0 ≡ entry_number₂ used ws hs slot other → (Entered used ws hs slot) × (Entered used ws hs other)
  entered₂ e = entry_facts₂ used ws hs slot _ (sym e)

  pub entered_at : {position : ℕ} → 0 ≡ at_number used ws hs slot position → (Entered used ws hs slot) × (HasAt ws hs slot position)
  entered_at e = at_facts used ws hs slot _ (sym e)

module _ (call : Call) (st : ListPool) (ws hs : List ℕ) where
  -- a call whose check fails is refused with the check's number
  pub refused_called : (refusal : Refusal) {r : Answer} → refusal_number refusal ≡ number_of call st ws hs → r ≡ answer (refusal_number refusal) 0 st
      → outcome r ws hs ≡ called call st ws hs
  unfolding called unless
  refused_called refusal n e = rw (e, ← n, refusal_eqb refusal) refl

  -- and one whose check passes does what its rule says
  pub done_called : {r done : Answer} {words handles : List ℕ} → 0 ≡ number_of call st ws hs → r ≡ done
      → outcome done words handles ≡ done_of call st ws hs → outcome r words handles ≡ called call st ws hs
  unfolding called unless
  done_called n e d = rw (e, ← n) d
