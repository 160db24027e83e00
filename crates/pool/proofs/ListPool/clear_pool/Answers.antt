-- `clear_pool` meets its contract: refused with 1, or done.
use Rattle.std.specs.Prelude.{ℕ, ◌<◌, ◌≡◌, refl, List, replicate}
use Rattle.std.specs.Array.{AllOfLen}
use Rattle.std.proofs.Common.{sym, ◌∙◌, arith}
use Rattle.std.proofs.lemmas.List.{ext_get_or, length-replicate, get_or-replicate}
use Rattle.pool.specs.Numbers.{given}
use Rattle.pool.specs.Rules.{number_of, done_of, clear_pool_number, clear_pool_done}
use Rattle.pool.specs.declared.Refusal.TheVariants.{OverLimit}
use Rattle.pool.proofs.Refusals.{refused_called, done_called}
use Rattle.pool.proofs.ListPool.clear_pool.Goals as goal

pub returns-then-too_long : goal.returns-then-too_long
unfolding number_of clear_pool_number given
returns-then-too_long c = refused_called _ _ _ _ OverLimit (rw (← c.if-too_long.ensures) refl) c.refused.ensures

-- an array of zeros, as the derived default has it
zeros : (xs : List ℕ) (n : ℕ) → AllOfLen (λ x. x ≡ 0) xs n → xs ≡ replicate n 0
zeros xs n d =
    ext_get_or 0 xs (replicate n 0) (simp length-replicate d.long)
    (λ i h. let l : i < n = omega (arith, d.long) in d.at i 0 l ∙ sym (get_or-replicate n i 0 0 l))

pub returns : goal.returns
unfolding number_of done_of clear_pool_number clear_pool_done given
returns c =
    done_called _ _ _ _ (rw (← c.if-too_long.ensures) refl) c.done.ensures
    (rw (c.default.ensures.0, zeros _ _ c.default.ensures.1, c.fill.ensures.after (λ y h. h)) refl)
