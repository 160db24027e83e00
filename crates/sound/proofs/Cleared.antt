-- A cleared pool is sound, whatever the state was, and all its lists are empty.
use Rattle.std.specs.Prelude.{◌≡◌, refl, List, [], ◌∷◌, map, ℕ, zero, suc, ◌≤◌, length, get_or, replicate}
use Rattle.std.proofs.Common.{ap, ◌∙◌, arith, ltb-false, le-ltb}
use Rattle.std.proofs.lemmas.List.{length-replicate}
use Rattle.sizes.specs.Class.{class_count}
use Rattle.pool.specs.declared.ListPool.{ListPool}
use Rattle.pool.specs.Numbers.{pool_limit, table_limit, too_long, given, state_of, length_at, sound_handle}
use Rattle.pool.specs.Rules.{clear_pool, number_of, done_of, unless, called, clear_pool_number, clear_pool_done}
use Rattle.pool.proofs.Facts.{given_zero, neither}
use Rattle.sound.specs.Sound.{sum, free_over, live_over, Sound, list_of, lists, LeavesWith}
use Rattle.sound.proofs.Sums.{over_right, sum_zero}
use Rattle.sound.proofs.SoundBut.{live_none}

-- each element of n times a is a, and so is what stands behind them
get_or_replicate_all {ℓ} : {A : Type ℓ} (n k : ℕ) (a : A) → get_or (replicate n a) k a ≡ a
get_or_replicate_all zero k a = refl
get_or_replicate_all (suc n) zero a = refl
get_or_replicate_all (suc n) (suc k) a = get_or_replicate_all n k a

-- "A cleared pool is sound."
pub cleared_sound : (ws : List ℕ) (n : ℕ) → Sound (state_of 0 (replicate class_count 0)) ws (replicate n 0)
unfolding sound_handle free_over sum
cleared_sound ws n = (
  replicate class_count [],
  record {
    heads = refl;
    classes = refl;
    handles = λ slot. rw (get_or_replicate_all {A = ℕ} n slot 0) refl;
    chains = λ c. rw (get_or_replicate_all {A = ℕ} class_count c 0, get_or_replicate_all {A = List ℕ} class_count c []) refl;
    once =
        λ i.
        omega (
          arith,
          over_right 0 0 i (omega arith),
          sum_zero (λ slot h. live_over ws i h) (replicate n 0) 0 (λ k p. ap (live_over ws i) (get_or_replicate_all n k 0) ∙ live_none ws i),
          sum_zero (free_over i) (replicate class_count []) [] (λ k p. ap (free_over i k) (get_or_replicate_all {A = List ℕ} class_count k [])),
        );
  },
)

lists_none : (ws : List ℕ) (n : ℕ) → map (list_of ws) (replicate n 0) ≡ replicate n []
unfolding list_of length_at
lists_none ws zero = refl
lists_none ws (suc n) = ap (λ (r : List (List ℕ)). [] ∷ r) (lists_none ws n)

-- "clearing the pool empties all"
pub clear_pool_holds : (st : ListPool) (ws hs : List ℕ) → number_of clear_pool st ws hs ≡ 0
    → LeavesWith (done_of clear_pool st ws hs) (replicate (length hs) [])
unfolding number_of done_of clear_pool_number clear_pool_done lists too_long
clear_pool_holds st ws hs e =
    let t = neither (given_zero 1 _ (omega arith) e) in
    record {
      sound = cleared_sound ws (length hs);
      within =
          record {
            pool_within = ltb-false _ _ t.0;
            table_within = rw length-replicate (ltb-false _ _ t.1);
            below = omega arith;
            fours = refl;
          };
      are = lists_none ws (length hs);
    }

pub clear_pool_zero : (st : ListPool) (ws hs : List ℕ) → length ws ≤ pool_limit → length hs ≤ table_limit → number_of clear_pool st ws hs ≡ 0
unfolding number_of clear_pool_number too_long given
clear_pool_zero st ws hs pool table = rw (le-ltb pool_limit (length ws) pool, le-ltb table_limit (length hs) table)

-- both: whatever the state, the words and the handles were, the pool's `clear` within the limits is done
pub cleared_holds : (st : ListPool) (ws hs : List ℕ) → length ws ≤ pool_limit → length hs ≤ table_limit
    → LeavesWith (called clear_pool st ws hs) (replicate (length hs) [])
unfolding called unless
cleared_holds st ws hs pool table = let e = clear_pool_zero st ws hs pool table in rw e (clear_pool_holds st ws hs e)
