-- An audit looks at the used words alone: of them, without the rest of the pool, its rule says what it says of the pool.
use Rattle.std.proofs.Common.{◌≡◌, refl, ℕ, zero, suc, ◌+◌, ◌-◌, ◌*◌, ◌/◌, ◌%◌, ◌≤◌, ◌<◌, Bool, true, false, cond, eqb, List, [], ◌∷◌, length, get_or, take}
use Rattle.std.proofs.Common.{ap, arith, get_or-take, length-take, le-ltb}
use Rattle.std.proofs.lemmas.Bool.{lt-leb}
use Rattle.std.proofs.Math.Bool.{and-false}
use Rattle.std.proofs.Math.Option.{Option, none, some}
use Rattle.std.proofs.Math.Decide.{dec_lt}
use Rattle.sizes.specs.Class.{size_of}
use Rattle.sizes.proofs.Laws.{size_least}
use Rattle.pool.specs.Numbers.{state_of, sound_handle, sound_head}
use Rattle.audit.specs.Audit.{live_mark, free_mark, marked, and_then, handles_marked, chain_marked, chains_marked, class_at, groups_at, swept, accepted}
use Rattle.audit.specs.Passes.{group_free}

-- what two steps give a map, where the second gives the same
then_same : (o : Option (List ℕ)) (f g : List ℕ → Option (List ℕ)) → ((m : List ℕ) → f m ≡ g m) → and_then o f ≡ and_then o g
unfolding and_then
then_same none f g e = refl
then_same (some m) f g e = e m

module _ (used : ℕ) (ws : List ℕ) where
  -- no word from used on is read: such a handle or head is not sound
  handle_used : (h : ℕ) → sound_handle used (take used ws) h ≡ sound_handle used ws h
  unfolding sound_handle
  handle_used h = go (dec_lt (h - 1) used)
    where
      go : Dec (h - 1 < used) → sound_handle used (take used ws) h ≡ sound_handle used ws h
      go (yes l) = rw (get_or-take used ws (h - 1) 0 l)
      go (no n) = rw (le-ltb h used (omega arith), and-false (eqb (h % 4) 1))

  head_used : (c h : ℕ) → sound_head used (take used ws) c h ≡ sound_head used ws c h
  unfolding sound_head
  head_used c h = go (dec_lt (h - 1) used)
    where
      go : Dec (h - 1 < used) → sound_head used (take used ws) c h ≡ sound_head used ws c h
      go (yes l) = rw (get_or-take used ws (h - 1) 0 l)
      go (no n) = rw (lt-leb (h - 1 + size_of c) used (omega (arith, size_least c)), and-false (eqb (h % 4) 1))

  handles_used : (slot : ℕ) (hs map : List ℕ) → handles_marked used (take used ws) slot hs map ≡ handles_marked used ws slot hs map
  unfolding handles_marked
  handles_used slot [] map = refl
  handles_used slot (h ∷ hs) map =
      rw (handle_used h, handles_used (suc slot) hs map, then_same (marked h (live_mark slot) map) _ _ (handles_used (suc slot) hs))

  chain_used : (most c h : ℕ) (map : List ℕ) → chain_marked used (take used ws) most c h map ≡ chain_marked used ws most c h map
  unfolding chain_marked
  chain_used zero c h map = refl
  chain_used (suc most) c zero map = refl
  chain_used (suc most) c (suc b) map = go (chain_used most c (get_or ws (suc b) 0)) (sound_head used ws c (suc b)) refl
    where
      go : ((m : List ℕ) → chain_marked used (take used ws) most c (get_or ws (suc b) 0) m ≡ chain_marked used ws most c (get_or ws (suc b) 0) m)
          → (t : Bool) → sound_head used ws c (suc b) ≡ t
          → chain_marked used (take used ws) (suc most) c (suc b) map ≡ chain_marked used ws (suc most) c (suc b) map
      go next true e =
          let below = (group_free used ws c (suc b) e (λ z. absurd (omega arith))).1 in
          rw (head_used c (suc b), get_or-take used ws (suc b) 0 below, then_same (marked (suc b) (free_mark c) map) _ _ next)
      go next false e = rw (head_used c (suc b), e)

  chains_used : (c : ℕ) (heads map : List ℕ) → chains_marked used (take used ws) c heads map ≡ chains_marked used ws c heads map
  unfolding chains_marked
  chains_used c [] map = refl
  chains_used c (h ∷ heads) map = rw (chain_used (used / 4) c h map, then_same (chain_marked used ws (used / 4) c h map) _ _ (chains_used (suc c) heads))

  groups_used : (g mark : ℕ) → g * 4 < used → groups_at (take used ws) g mark ≡ groups_at ws g mark
  unfolding groups_at class_at
  groups_used g mark l = rw (get_or-take used ws (g * 4) 0 l)

  swept_used : (g next : ℕ) (marks : List ℕ) → (g + length marks) * 4 ≤ used → swept (take used ws) g next marks ≡ swept ws g next marks
  unfolding swept
  swept_used g next [] l = refl
  swept_used g next (mark ∷ marks) l =
      rw (groups_used g mark (omega arith), swept_used (suc g) (g + groups_at ws g mark) marks (omega arith), swept_used (suc g) next marks (omega arith))

  pub accepted_used : (heads hs map : List ℕ) → accepted (state_of used heads) (take used ws) hs map ≡ accepted (state_of used heads) ws hs map
  unfolding accepted
  accepted_used heads hs map =
      rw (handles_used 0 hs map)
      (then_same (handles_marked used ws 0 hs map) _ _
      (λ map₁. rw (chains_used 0 heads map₁)
      (then_same (chains_marked used ws 0 heads map₁) _ _
      (λ map₂. ap (λ t. cond t (some map₂) none) (swept_used 0 0 (take (used / 4) map₂) (simp length-take (omega arith)))))))
