-- What holds of every call, from the shape of the rules: an outcome is determined, and a refusal changes nothing.
use Rattle.std.specs.Prelude.{ℕ, ◌+◌, ◌-◌, ◌≡◌, Bool, cond, List, leb, length}
use Rattle.std.proofs.Math.Path.{refl, sym}
use Rattle.std.proofs.Common.{ap, ◌∙◌, ne_eqb}
use Rattle.std.proofs.Math.Bool.{true, false}
use Rattle.std.proofs.Math.Dec.{eqb}
use Rattle.std.proofs.lemmas.Bool.{eqb-true}
use Rattle.pool.specs.declared.ListPool.{ListPool}
use Rattle.pool.specs.declared.Answer.{Answer}
use Rattle.pool.specs.Numbers.{handle_at}
use Rattle.pool.specs.Rules as rules
use Rattle.pool.specs.Rules.{Outcome, outcome, refused, len_of, Call, number_of, done_of, unless, called, cleared, last_removed, grown, opened}

-- "any two outcomes that satisfy it are shown equal": two answers with the words and handles they leave, each of which meets the contract of
-- one call on one state, pool and table, are the same in number, value, state, every word and every handle
pub determined : (call : Call) (st : ListPool) (ws hs : List ℕ) {r r' : Answer} {words words' handles handles' : List ℕ}
    → outcome r words handles ≡ called call st ws hs → outcome r' words' handles' ≡ called call st ws hs
    → (r ≡ r') × (words ≡ words') × (handles ≡ handles')
determined call st ws hs e e' =
    let same = e ∙ sym e' in
    (ap (λ (o : Outcome). o.answer) same, ap (λ (o : Outcome). o.words) same, ap (λ (o : Outcome). o.handles) same)

-- a choice between two outcomes of number 0 has number 0
chosen : (t : Bool) (a b : Outcome) → a.answer.number ≡ 0 → b.answer.number ≡ 0 → (cond t a b).answer.number ≡ 0
chosen true a b p q = p
chosen false a b p q = q

cleared_number : (st : ListPool) (ws hs : List ℕ) (slot h n : ℕ) → (cleared st ws hs slot h n).answer.number ≡ 0
unfolding cleared
cleared_number st ws hs slot h n = chosen (eqb h 0) _ _ refl refl

last_removed_number : (st : ListPool) (ws hs : List ℕ) (slot h n : ℕ) → (last_removed st ws hs slot h n).answer.number ≡ 0
unfolding last_removed
last_removed_number st ws hs slot h n = chosen (eqb n 1) _ _ (cleared_number st ws hs slot h n) refl

grown_number : (st : ListPool) (ws hs : List ℕ) (slot count : ℕ) → (grown st ws hs slot count).answer.number ≡ 0
unfolding grown
grown_number st ws hs slot count = chosen (eqb (len_of ws hs slot + count) 0) _ _ refl refl

-- what is done has number 0
pub done_number : (call : Call) (st : ListPool) (ws hs : List ℕ) → (done_of call st ws hs).answer.number ≡ 0
unfolding done_of opened rules.from_slice_done rules.is_empty_done rules.len_done rules.is_valid_done rules.get_done rules.set_done rules.deep_clone_done
    rules.clear_done rules.take_done rules.push_done rules.extend_done rules.copy_from_done rules.insert_done rules.remove_done rules.swap_remove_done
    rules.truncate_done rules.grow_at_done rules.clear_pool_done
done_number (rules.from_slice slot xs) st ws hs = grown_number st ws hs slot (length xs)
done_number (rules.is_empty slot) st ws hs = refl
done_number (rules.len slot) st ws hs = refl
done_number (rules.is_valid slot) st ws hs = refl
done_number (rules.get slot position) st ws hs = refl
done_number (rules.first slot) st ws hs = refl
done_number (rules.set_at slot position x) st ws hs = refl
done_number (rules.deep_clone slot to) st ws hs = grown_number st ws hs to (len_of ws hs slot)
done_number (rules.clear slot) st ws hs = cleared_number st ws hs slot (handle_at hs slot) (len_of ws hs slot)
done_number (rules.take slot to) st ws hs = refl
done_number (rules.push slot x) st ws hs = refl
done_number (rules.extend slot xs) st ws hs = grown_number st ws hs slot (length xs)
done_number (rules.copy_from slot source start end position) st ws hs = grown_number st ws hs slot (end - start)
done_number (rules.insert slot position x) st ws hs = refl
done_number (rules.remove slot position) st ws hs = last_removed_number st _ hs slot (handle_at hs slot) (len_of ws hs slot)
done_number (rules.swap_remove slot position) st ws hs = last_removed_number st _ hs slot (handle_at hs slot) (len_of ws hs slot)
done_number (rules.truncate slot new) st ws hs =
    chosen (eqb new 0) _ _ (cleared_number st ws hs slot (handle_at hs slot) (len_of ws hs slot)) (chosen (leb (len_of ws hs slot) new) _ _ refl refl)
done_number (rules.grow_at slot position count) st ws hs = grown_number st ws hs slot count
done_number rules.clear_pool st ws hs = refl

module _ (call : Call) (st : ListPool) (ws hs : List ℕ) where
  -- the number that comes back is the rules' number
  pub number_given : (called call st ws hs).answer.number ≡ number_of call st ws hs
  unfolding called unless
  number_given = go (eqb (number_of call st ws hs) 0) refl
    where
      go : (t : Bool) → eqb (number_of call st ws hs) 0 ≡ t
          → (cond t (done_of call st ws hs) (refused st ws hs (number_of call st ws hs))).answer.number ≡ number_of call st ws hs
      go true e = done_number call st ws hs ∙ sym (eqb-true _ _ e)
      go false e = refl

  -- "A refused call returns 0 as its value and changes nothing": where a number comes back that is not 0
  pub refusal_changes_nothing : ((called call st ws hs).answer.number ≡ 0 → ⊥) → called call st ws hs ≡ refused st ws hs (called call st ws hs).answer.number
  unfolding called unless
  refusal_changes_nothing p =
      let q = ne_eqb (number_of call st ws hs) 0 (λ z. p (number_given ∙ z)) in
      rw q

  -- and a call that is not refused does what its rule says
  pub done_where_zero : number_of call st ws hs ≡ 0 → called call st ws hs ≡ done_of call st ws hs
  unfolding called unless
  done_where_zero z = rw z
