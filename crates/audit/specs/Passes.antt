-- The audit's passes over the map: what each ensures, and the laws of the rules by which a loop goes through them, a turn at a time.
use Rattle.std.proofs.Common.{ℕ, zero, suc, ◌+◌, ◌-◌, ◌/◌, ◌≤◌, ◌<◌, sym, ◌∙◌, drop_of_length-le, drop-drop, drop_at, get_or-take, zero-add, add-one}
use Rattle.std.specs.Prelude.{◌≡◌, refl, Bool, true, false, cond, List, ◌∷◌, ◌++◌, get_or, take, drop, replicate, eqb}
use Rattle.std.proofs.Math.Path.{ap}
use Rattle.std.proofs.Math.Option.{Option, none, some}
use Rattle.std.proofs.Math.ListN.{length, length-take}
use Rattle.std.proofs.lemmas.List.{length-replicate}
use Rattle.std.proofs.lemmas.List.Edits.{sets-eq}
use Rattle.std.proofs.Math.Seq.{drop-cons}
use Rattle.std.proofs.Common.{eq-eqb, ne_eqb, arith}
use Rattle.sizes.specs.Class.{class_of}
use Rattle.sizes.proofs.Laws.{size_least}
use Rattle.words.specs.Runs.{filled}
use Rattle.pool.specs.Numbers.{sound_handle, sound_head}
use Rattle.pool.proofs.Facts.{handle_facts, head_facts}
use Rattle.audit.specs.Audit.{live_mark, free_mark, group_of, marked, and_then, handles_marked, chain_marked, chains_marked, groups_at, swept}

-- What a pass ensures that answers r: the rule's map is the one it leaves, or the rule refuses; and in any case the map's words from n on stay.
pub record Passed (n : ℕ) (rule : Option (List ℕ)) (entry exit : List ℕ) (r : Bool) : Type 0 where
  pub is : rule ≡ cond r (some exit) none
  pub rest : drop n exit ≡ drop n entry

-- Where a pass stands that began with the map entry and has made it map: what is left, from here, is what the whole is.
pub record Left (n : ℕ) (whole : Option (List ℕ)) (entry map : List ℕ) (left : Option (List ℕ)) : Type 0 where
  pub is : whole ≡ left
  pub rest : drop n map ≡ drop n entry
  pub long : length map ≡ length entry

-- ANY PASS

drop_more : (a b : List ℕ) (m n : ℕ) → m ≤ n → drop m a ≡ drop m b → drop n a ≡ drop n b
drop_more a b m n h e =
    let k : n ≡ m + (n - m) = omega arith in
    rw k (sym (drop-drop (n - m) m a) ∙ ap (drop (n - m)) e ∙ drop-drop (n - m) m b)

-- it begins, and ends with a map or refuses
pub left_start : (n : ℕ) (whole : Option (List ℕ)) (map : List ℕ) → Left n whole map map whole
left_start n whole map = record { is = refl; rest = refl; long = refl }

module _ {n : ℕ} {whole left : Option (List ℕ)} {entry map : List ℕ} (l : Left n whole entry map left) where
  pub left_end : (r : Bool) → left ≡ cond r (some map) none → Passed n whole entry map r
  left_end r e = record { is = l.is ∙ e; rest = l.rest }

  -- another way to say what is left
  pub left_is : {other : Option (List ℕ)} → left ≡ other → Left n whole entry map other
  left_is e = record { is = l.is ∙ e; rest = l.rest; long = l.long }

  -- a part of it, which concerns the first m words alone: refused, or done
  module _ {m : ℕ} {rule : Option (List ℕ)} {exit : List ℕ} {r : Bool} (next : List ℕ → Option (List ℕ))
      (e : left ≡ and_then rule next) (h : m ≤ n) (p : Passed m rule map exit r) where
    pub left_refused : r ≡ false → Passed n whole entry exit false
    unfolding and_then
    left_refused q = record { is = l.is ∙ e ∙ rw (p.is, q); rest = drop_more _ _ m n h p.rest ∙ l.rest }

    pub left_next : r ≡ true → length exit ≡ length map → Left n whole entry exit (next exit)
    unfolding and_then
    left_next q k = record { is = l.is ∙ e ∙ rw (p.is, q); rest = drop_more _ _ m n h p.rest ∙ l.rest; long = k ∙ l.long }

-- HANDLES

module _ (used : ℕ) (ws hs : List ℕ) (slot : ℕ) (map : List ℕ) where
  pub handles_end : length hs ≤ slot → handles_marked used ws slot (drop slot hs) map ≡ some map
  unfolding handles_marked
  handles_end h = rw (drop_of_length-le hs h)

  module _ (h : slot < length hs) where
    pub handles_refused : sound_handle used ws (get_or hs slot 0) ≡ false → handles_marked used ws slot (drop slot hs) map ≡ none
    unfolding handles_marked
    handles_refused e = rw (drop-cons hs slot 0 h, e)

    -- an empty one is passed over
    pub handles_empty : sound_handle used ws (get_or hs slot 0) ≡ true → get_or hs slot 0 ≡ 0
        → handles_marked used ws slot (drop slot hs) map
        ≡ handles_marked used ws (slot + 1) (drop (slot + 1) hs) map
    unfolding handles_marked
    handles_empty e z = rw (add-one, drop-cons hs slot 0 h, e, eq-eqb (get_or hs slot 0) 0 z)

    pub handles_live :
        sound_handle used ws (get_or hs slot 0) ≡ true →
        (get_or hs slot 0 ≡ 0 → ⊥) →
        handles_marked used ws slot (drop slot hs) map
        ≡ and_then (marked (get_or hs slot 0) (live_mark slot) map) (handles_marked used ws (slot + 1) (drop (slot + 1) hs))
    unfolding handles_marked
    handles_live e z = rw (drop-cons hs slot 0 h, e, ne_eqb (get_or hs slot 0) 0 z, add-one)

-- its block's first group lies below used
pub group_live : (used : ℕ) (ws : List ℕ) (h : ℕ) → sound_handle used ws h ≡ true → (h ≡ 0 → ⊥) → group_of h + 1 ≤ used / 4
group_live used ws h e z =
    let live = handle_facts used ws h e (omega arith) in
    omega (arith, size_least (class_of (get_or ws (h - 1) 0)))

-- CHAINS

module _ (used : ℕ) (ws : List ℕ) (c h : ℕ) (map : List ℕ) where
  pub chain_end : (most : ℕ) → h ≡ 0 → chain_marked used ws most c h map ≡ some map
  unfolding chain_marked
  chain_end zero z = rw (eq-eqb h 0 z)
  chain_end (suc most) z = rw (eq-eqb h 0 z)

  module _ (z : h ≡ 0 → ⊥) where
    pub chain_long : (most : ℕ) → most ≡ 0 → chain_marked used ws most c h map ≡ none
    unfolding chain_marked
    chain_long most e = rw (e, ne_eqb h 0 z)

    pub chain_refused : (most : ℕ) → sound_head used ws c h ≡ false → chain_marked used ws most c h map ≡ none
    unfolding chain_marked
    chain_refused zero e = rw (ne_eqb h 0 z)
    chain_refused (suc most) e = rw (ne_eqb h 0 z, e)

    pub chain_free : (most : ℕ) → 0 < most → sound_head used ws c h ≡ true
        → chain_marked used ws most c h map
        ≡ and_then (marked h (free_mark c) map) (chain_marked used ws (most - 1) c (get_or ws h 0))
    unfolding chain_marked
    chain_free zero p e = absurd (omega arith)
    chain_free (suc most) p e =
        let k : suc most - 1 ≡ most = omega arith in
        rw (ne_eqb h 0 z, e, k)

-- its block's first group, and the pointer's own word, lie below used
pub group_free : (used : ℕ) (ws : List ℕ) (c h : ℕ) → sound_head used ws c h ≡ true → (h ≡ 0 → ⊥) → (group_of h + 1 ≤ used / 4) × (h < used)
group_free used ws c h e z =
    let head = head_facts used ws c h e (omega arith) in
    let s = size_least c in
    (omega arith, omega arith)

module _ (used : ℕ) (ws heads : List ℕ) (c : ℕ) (map : List ℕ) where
  pub chains_end : length heads ≤ c → chains_marked used ws c (drop c heads) map ≡ some map
  unfolding chains_marked
  chains_end h = rw (drop_of_length-le heads h)

  pub chains_next : c < length heads
      → chains_marked used ws c (drop c heads) map
      ≡ and_then (chain_marked used ws (used / 4) c (get_or heads c 0) map) (chains_marked used ws (c + 1) (drop (c + 1) heads))
  unfolding chains_marked
  chains_next h = rw (add-one, drop-cons heads c 0 h)

-- THE SWEEP

-- over the marks of the first groups, from the group g on
module _ (ws map : List ℕ) (groups g next : ℕ) (long : groups ≤ length map) where
  pub swept_end : groups ≤ g → swept ws g next (drop g (take groups map)) ≡ eqb g next
  unfolding swept
  swept_end h =
      let k : length (take groups map) ≤ g = simp length-take (omega arith) in
      rw (drop_of_length-le (take groups map) k)

  module _ (h : g < groups) where
    marks_cons : drop g (take groups map) ≡ get_or map g 0 ∷ drop (g + 1) (take groups map)
    marks_cons =
        let k : g < length (take groups map) = simp length-take (omega arith) in
        rw (add-one, drop-cons (take groups map) g 0 k, get_or-take groups map g 0 h)

    -- where the next block has to start: there is none, or there is
    module _ (e : g ≡ next) where
      pub swept_gap : get_or map g 0 ≡ 0 → swept ws g next (drop g (take groups map)) ≡ false
      unfolding swept
      swept_gap z = ap (swept ws g next) marks_cons ∙ rw (eq-eqb g next e, eq-eqb (get_or map g 0) 0 z)

      pub swept_block : (get_or map g 0 ≡ 0 → ⊥)
          → swept ws g next (drop g (take groups map))
          ≡ swept ws (g + 1) (g + groups_at ws g (get_or map g 0)) (drop (g + 1) (take groups map))
      unfolding swept
      swept_block z = ap (swept ws g next) marks_cons ∙ rw (eq-eqb g next e, ne_eqb (get_or map g 0) 0 z, add-one)

    -- and elsewhere
    module _ (e : g ≡ next → ⊥) where
      pub swept_overlap : (get_or map g 0 ≡ 0 → ⊥) → swept ws g next (drop g (take groups map)) ≡ false
      unfolding swept
      swept_overlap z = ap (swept ws g next) marks_cons ∙ rw (ne_eqb g next e, ne_eqb (get_or map g 0) 0 z)

      pub swept_inside : get_or map g 0 ≡ 0 → swept ws g next (drop g (take groups map)) ≡ swept ws (g + 1) next (drop (g + 1) (take groups map))
      unfolding swept
      swept_inside z = ap (swept ws g next) marks_cons ∙ rw (ne_eqb g next e, eq-eqb (get_or map g 0) 0 z, add-one)

-- THE MAP

pub filled_start : (ws : List ℕ) (n v : ℕ) → n ≤ length ws → filled ws 0 n v ≡ replicate n v ++ drop n ws
unfolding filled
filled_start ws n v h = sets-eq (replicate n v) ws 0 (simp length-replicate (omega arith)) ∙ simp (length-replicate, zero-add)

-- filled again from its start, after a pass that kept the rest
pub filled_again : (map exit : List ℕ) (n v : ℕ) → n ≤ length map → n ≤ length exit
    → drop n exit ≡ drop n (filled map 0 n v) → filled exit 0 n v ≡ filled map 0 n v
filled_again map exit n v h k e =
    let rest : drop n (filled map 0 n v) ≡ drop n map = rw (filled_start map n v h) (drop_at (replicate n v) (drop n map) n (length-replicate n v)) in
    rw (filled_start exit n v k, filled_start map n v h, e ∙ rest)
