-- `maaliskur_size` meets its contract: the sizes of the classes below 30 fit 32 bits, and of the others only the 0 from class 62 on.
use Rattle.std.specs.Prelude.{ℕ, ◌<◌, ◌≤◌, ◌^◌, ◌≡◌, refl, Bool, true, false, cond, ltb, Result, Ok, Err}
use Rattle.std.specs.Result.{OkIff, result_unwrap_or}
use Rattle.std.proofs.Common.{◌∙◌, ltb-true, ltb-false, arith}
use Rattle.sizes.specs.Class.{SizeOf, size_of, size_word}
use Rattle.sizes.proofs.Laws.{size_mono}
use Rattle.maaliskur.specs.Fits.{size_fits}
use Rattle.maaliskur.proofs.maaliskur_size.Goals as goal

module _ (c s : ℕ) (size : SizeOf c s) where
  small : c < 30 → s < 2 ^ 32
  unfolding size_of
  small h =
      let most : size_of c ≤ size_of 29 = size_mono {a = c} {b = 29} (omega arith) in
      omega (arith, size.exact (omega arith), most)

  large : 30 ≤ c → s < 2 ^ 32 → s ≡ 0
  unfolding size_of size_word
  large h f = go (ltb c 62) refl
    where
      go : (t : Bool) → ltb c 62 ≡ t → s ≡ 0
      go true e =
          let most : size_of 30 ≤ size_of c = size_mono {a = 30} {b = c} h in
          omega (arith, size.exact (ltb-true c 62 e), most)
      go false e = size.is ∙ rw (e) refl

  fits : {E : Type 0} (r : Result ℕ E) → OkIff r (s < 2 ^ 32) s → result_unwrap_or r 0 ≡ size_fits c
  unfolding size_fits
  fits r q = go (ltb c 30) refl r q
    where
      go : {E : Type 0} (t : Bool) → ltb c 30 ≡ t → (r : Result ℕ E) → OkIff r (s < 2 ^ 32) s → result_unwrap_or r 0 ≡ cond t (size_of c) 0
      go true e (Ok x) p = p.1 ∙ size.exact (let l = ltb-true c 30 e in omega arith)
      go true e (Err d) p = absurd (p (small (ltb-true c 30 e)))
      go false e (Ok x) p = p.1 ∙ large (ltb-false c 30 e) p.0
      go false e (Err d) p = refl

pub returns : goal.returns
returns c = c.unwrap_or.ensures ∙ fits c.args.class c.size.result c.size.ensures c.try_from.result c.try_from.ensures
