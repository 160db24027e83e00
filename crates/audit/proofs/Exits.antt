-- How a pass that answers with a Result goes on, and how `?` ends it: the laws of specs/Passes.antt, which speak of whether it is done.
use Rattle.std.specs.Prelude.{◌≡◌, ℕ, ◌≤◌, refl, false, List, Result}
use Rattle.std.specs.Result.{IsErrAnd, is_ok}
use Rattle.std.proofs.Math.Option.{Option}
use Rattle.std.proofs.lemmas.Result.{err_from_is_err_and}
use Rattle.audit.specs.Audit.{and_then}
use Rattle.audit.specs.Passes.{Passed, Left, left_refused}

module _ {n m : ℕ} {whole left rule : Option (List ℕ)} {entry map exit : List ℕ} where
  -- a part that refuses is passed on
  pub passed_on : {B E : Type 0} (x : E) → Left n whole entry map left → (next : List ℕ → Option (List ℕ)) → left ≡ and_then rule next → m ≤ n
      → Passed m rule map exit false → (r : Result B E) → IsErrAnd r (λ y. y ≡ x) → Passed n whole entry exit (is_ok r)
  passed_on x l next e h p r q = rw (err_from_is_err_and r q).1 (left_refused l next e h p refl)
