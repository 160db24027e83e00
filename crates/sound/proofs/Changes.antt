-- The changes that calls are made of, each from a sound pool to a sound pool: elements of one list are written, one list gets another length,
-- one list is cleared. Each changes the lists of the table as one equation says.
use Rattle.std.specs.Prelude.{◌≡◌, refl, cond, List, [], ◌∷◌, ◌++◌, map, ◌⊎◌, get_or, set, take, drop, eqb}
use Rattle.std.proofs.Common.{sym, ◌∙◌, append-nil, inl, inr, add-suc, add-sub_cancel, eq-zero-or-pos, arith, eq-eqb, ne_eqb, length-set, length-drop}
use Rattle.std.proofs.Common.{take-append-drop, set-set, get_or-set_same, get_or-set_other, drop-set-lt, take_all, take-take}
use Rattle.std.proofs.Math.Path.{ap}
use Prim.Native.Nat.{ℕ, zero, suc, ◌+◌, ◌-◌, ◌≤◌, ◌<◌, min}
use Rattle.std.proofs.Math.ListN.{length, length-map, get_or-map}
use Rattle.std.proofs.lemmas.List.Edits.{sets}
use Rattle.std.proofs.Math.Seq.{length-sets, take-set-lt, take-length}
use Rattle.std.proofs.lemmas.List.{set-get_or, drop-set-add}
use Rattle.words.specs.RunLaws.{get_or_sets_below, length_take_drop, get_or_take_drop}
use Rattle.sizes.specs.Class.{class_of, size_of}
use Rattle.sizes.proofs.Laws.{class_fits, class_below}
use Rattle.pool.specs.declared.ListPool.{ListPool}
use Rattle.pool.specs.Numbers.{handle_at, length_at}
use Rattle.pool.specs.Blocks.{Freed, free, moved}
use Rattle.pool.specs.Rules.{Outcome, len_of, done, seated, cleared, grown}
use Rattle.pool.specs.Steps.{ListAt, Ready}
use Rattle.pool.proofs.Facts.{list_at_lem}
use Rattle.sound.specs.Sound.{over, list_of, lists, list_at, SoundWith}
use Rattle.sound.proofs.Sums.{over_in, over_part}
use Rattle.sound.proofs.SoundBut.{span, span_over, SoundBut, held_sound, sound_held, held_write, run_ext, length_none, length_some}
use Rattle.sound.proofs.HandOver.{held_out, held_in}
use Rattle.sound.proofs.Steps.{get_or_sets_other, own, moved_resized, free_gave}

-- THE TABLE OF LISTS

map_set : (f : ℕ → List ℕ) (l : List ℕ) (k a : ℕ) → map f (set l k a) ≡ set (map f l) k (f a)
map_set f [] k a = refl
map_set f (x ∷ l) zero a = refl
map_set f (x ∷ l) (suc k) a = ap (λ r. f x ∷ r) (map_set f l k a)

pub lists_set : (ws hs : List ℕ) (slot h : ℕ) → lists ws (set hs slot h) ≡ set (lists ws hs) slot (list_of ws h)
unfolding lists
lists_set ws hs slot h = map_set (list_of ws) hs slot h

list_none : (ws : List ℕ) → list_of ws 0 ≡ []
unfolding list_of length_at
list_none ws = refl

pub lists_clear : (ws hs : List ℕ) (slot : ℕ) → lists ws (set hs slot 0) ≡ set (lists ws hs) slot []
lists_clear ws hs slot = lists_set ws hs slot 0 ∙ ap (set (lists ws hs) slot) (list_none ws)

lists_at : (ws hs : List ℕ) (slot : ℕ) → list_at (lists ws hs) slot ≡ list_of ws (handle_at hs slot)
unfolding lists list_of length_at
lists_at ws hs slot = get_or-map (list_of ws) hs slot 0

-- words stored among n elements from h on are stored in the sequence
take_drop_sets : (ws : List ℕ) (h n p : ℕ) (vs : List ℕ) → p + length vs ≤ n → take n (drop h (sets ws (h + p) vs)) ≡ sets (take n (drop h ws)) p vs
take_drop_sets ws h n p [] l = refl
take_drop_sets ws h n p (v ∷ vs) l =
    rw (← (add-suc h p))
    (take_drop_sets (set ws (h + p) v) h n (suc p) vs (omega arith)
    ∙ ap (λ (r : List ℕ). sets r (suc p) vs) (ap (take n) (drop-set-add h ws p v) ∙ take-set-lt n (drop h ws) p v (omega arith)))

-- a pool that holds no block of a call
pub holds : {st : ListPool} {ws hs : List ℕ} {ls : List (List ℕ)} → SoundBut st ws hs [] → lists ws hs ≡ ls → SoundWith st ws hs ls
holds H e = record { sound = sound_held H; within = H.within; are = e }

-- THE END OF A CALL: words vs changed inside the held block alone, which has the size of n's class and begins with n. It becomes the slot's
-- block, and what it holds the slot's list.
finish : {st : ListPool} {ws : List ℕ} (hs : List ℕ) (ls : List (List ℕ)) (slot b n s : ℕ) (vs : List ℕ) → SoundBut st ws (set hs slot 0) (span b s ∷ [])
    → lists ws (set hs slot 0) ≡ set ls slot [] → slot < length hs → length vs ≡ length ws → ((i : ℕ) → over b s i ≡ 0 → get_or vs i 0 ≡ get_or ws i 0)
    → get_or vs b 0 ≡ n → 1 ≤ n → size_of (class_of n) ≡ s → SoundWith st vs (set hs slot (b + 1)) (set ls slot (take n (drop (b + 1) vs)))
unfolding span_over list_of
finish {st} {ws} hs ls slot b n s vs H are l long rest e p q =
    let W = held_write H vs long (λ i u x. rest i (omega arith)) in
    let I = held_in slot b s W.0 (simp length-set l) (get_or-set_same hs slot 0 0 l) (omega arith) (rw e q) in
    let len : length_at vs (b + 1) ≡ n = length_some vs (b + 1) (omega arith) ∙ ap (λ (k : ℕ). get_or vs k 0) (add-sub_cancel b 1) ∙ e in
    let new = take (length_at vs (b + 1)) (drop (b + 1) vs) in
    rw (set-set hs slot 0 (b + 1)) at
    (holds I
    (lists_set vs (set hs slot 0) slot (b + 1)
    ∙ ap (λ (r : List (List ℕ)). set r slot new) (W.1 ∙ are)
    ∙ set-set ls slot [] new
    ∙ ap (λ (k : ℕ). set ls slot (take k (drop (b + 1) vs))) len))

module _ {st : ListPool} {ws hs : List ℕ} {ls : List (List ℕ)} (P : SoundWith st ws hs ls) where
  pub held : SoundBut st ws hs []
  held = held_sound P.within P.sound

  -- the list in a slot
  pub list_of_lem : (slot : ℕ) → list_at ls slot ≡ list_of ws (handle_at hs slot)
  list_of_lem slot = ap (λ (r : List (List ℕ)). list_at r slot) (sym P.are) ∙ lists_at ws hs slot

  pub list_is : (slot : ℕ) → list_at ls slot ≡ take (len_of ws hs slot) (drop (handle_at hs slot) ws)
  unfolding list_of
  list_is slot = list_of_lem slot

  pub list_here : (slot : ℕ) → ListAt (length ws) (handle_at hs slot) (len_of ws hs slot)
  list_here slot = list_at_lem st.used ws (handle_at hs slot) P.within.below P.within.pool_within (held.handles slot)

  pub length_list : (slot : ℕ) → length (list_at ls slot) ≡ len_of ws hs slot
  length_list slot = ap length (list_is slot) ∙ length_take_drop ws (handle_at hs slot) (len_of ws hs slot) (list_here slot).ends

  pub length_lists : length ls ≡ length hs
  unfolding lists
  length_lists = ap length (sym P.are) ∙ length-map hs (list_of ws)

  -- an element's word is the list's element
  pub list_element : (slot i : ℕ) → i < len_of ws hs slot → get_or ws (handle_at hs slot + i) 0 ≡ get_or (list_at ls slot) i 0
  list_element slot i l =
      sym (ap (λ (r : List ℕ). get_or r i 0) (list_is slot) ∙ get_or_take_drop ws (handle_at hs slot) (len_of ws hs slot) i l)

  -- a part of the words of a list is a part of it
  list_part : (slot p k : ℕ) → p + k ≤ len_of ws hs slot → take k (drop (handle_at hs slot + p) ws) ≡ take k (drop p (list_at ls slot))
  list_part slot p k l =
      let h = handle_at hs slot in
      let ends = (list_here slot).ends in
      run_ext ws (list_at ls slot) (h + p) p k (omega arith) (omega (arith, length_list slot))
      (λ j q. ap (λ (i : ℕ). get_or ws i 0) (omega arith) ∙ list_element slot (p + j) (omega arith))

  -- at handle 0 it is empty
  pub list_empty : (slot : ℕ) → handle_at hs slot ≡ 0 → list_at ls slot ≡ []
  list_empty slot z = list_of_lem slot ∙ ap (list_of ws) z ∙ list_none ws

  -- the slot's block, if it has one, is held
  pub out : (slot : ℕ) → slot < length hs → SoundBut st ws (set hs slot 0) (own (handle_at hs slot) (len_of ws hs slot))
  out slot l = go (eq-zero-or-pos (handle_at hs slot))
    where
      go : (handle_at hs slot ≡ 0) ⊎ (0 < handle_at hs slot) → SoundBut st ws (set hs slot 0) (own (handle_at hs slot) (len_of ws hs slot))
      go (inl z) =
          rw (eq-eqb (len_of ws hs slot) 0 (ap (length_at ws) z ∙ length_none ws), ap (set hs slot) (sym z) ∙ set-get_or hs slot 0) held
      go (inr p) =
          rw (ne_eqb (len_of ws hs slot) 0 (omega (arith, (list_here slot).live p)), length_some ws (handle_at hs slot) p) (held_out slot held l p)

-- A sound pool within the limits whose lists are ls with the list in the slot set to l; and a call that leaves such a pool.
pub record SoundWithSet (st : ListPool) (ws hs : List ℕ) (ls : List (List ℕ)) (slot : ℕ) (l : List ℕ) : Type 0 where
  pub inside : slot < length ls
  pub holds : SoundWith st ws hs (set ls slot l)

abbrev pub LeavesWithSet : Outcome → List (List ℕ) → ℕ → List ℕ → Type 0
LeavesWithSet o ls slot l = SoundWithSet o.answer.state o.words o.handles ls slot l

pub has : {st : ListPool} {ws hs : List ℕ} {ls : List (List ℕ)} (slot : ℕ)
    → SoundWith st ws hs ls → slot < length hs → SoundWithSet st ws hs ls slot (list_at ls slot)
has {ls = ls} slot P l = record { inside = omega (arith, length_lists P); holds = rw (set-get_or ls slot []) P }

module _ {st : ListPool} {ws hs : List ℕ} {ls : List (List ℕ)} {slot : ℕ} {l : List ℕ} (P : SoundWithSet st ws hs ls slot l) where
  has_here : slot < length hs
  has_here = omega (arith, P.inside, length_lists P.holds, length-set ls slot l)

  has_list : list_at (set ls slot l) slot ≡ l
  has_list = get_or-set_same ls slot l [] P.inside

  pub has_length : length l ≡ len_of ws hs slot
  has_length = ap length (sym has_list) ∙ length_list P.holds slot

  has_is : l ≡ take (len_of ws hs slot) (drop (handle_at hs slot) ws)
  has_is = sym has_list ∙ list_is P.holds slot

  pub has_part : (p k : ℕ) → p + k ≤ length l → take k (drop (handle_at hs slot + p) ws) ≡ take k (drop p l)
  has_part p k r = list_part P.holds slot p k (omega (arith, has_length)) ∙ ap (λ (r : List ℕ). take k (drop p r)) has_list

  pub has_at : (i : ℕ) → i < length l → get_or ws (handle_at hs slot + i) 0 ≡ get_or l i 0
  has_at i r = list_element P.holds slot i (omega (arith, has_length)) ∙ ap (λ (r : List ℕ). get_or r i 0) has_list

  -- and of another slot's list, which is as in ls
  pub other_part : (other p k : ℕ) → (other ≡ slot → ⊥) → p + k ≤ length (list_at ls other)
      → take k (drop (handle_at hs other + p) ws) ≡ take k (drop p (list_at ls other))
  other_part other p k q r =
      let same : list_at (set ls slot l) other ≡ list_at ls other = get_or-set_other ls slot other l [] q in
      list_part P.holds other p k (omega (arith, ap length same, length_list P.holds other)) ∙ ap (λ (r : List ℕ). take k (drop p r)) same

  has_out : lists ws (set hs slot 0) ≡ set ls slot []
  has_out = lists_clear ws hs slot ∙ ap (λ (r : List (List ℕ)). set r slot []) P.holds.are ∙ set-set ls slot l []

  -- words stored among the elements of a list: no other list and nothing else changes
  written_some : (p : ℕ) (vs : List ℕ) → 0 < len_of ws hs slot → p + length vs ≤ len_of ws hs slot
      → SoundWithSet st (sets ws (handle_at hs slot + p) vs) hs ls slot (sets l p vs)
  written_some p vs q r =
      let h = handle_at hs slot in
      let n = len_of ws hs slot in
      let s = size_of (class_of n) in
      let list = list_here P.holds slot in
      let some = list.some q in
      let fits = class_fits n (omega (arith, list.short)) in
      let back : h - 1 + 1 ≡ h = omega arith in
      let O : SoundBut st ws (set hs slot 0) (span (h - 1) s ∷ []) = rw (ne_eqb n 0 (omega arith)) at (out P.holds slot has_here) in
      let F =
      finish hs ls slot (h - 1) n s (sets ws (h + p) vs) O has_out has_here (length-sets ws (h + p) vs)
      (λ i o. get_or_sets_other ws (h + p) vs i (over_part (h - 1) s (h + p) (length vs) i o (omega arith) (omega arith)))
      (get_or_sets_below ws (h + p) vs (h - 1) (omega arith) ∙ sym (length_some ws h some)) q refl in
      let e : take n (drop h (sets ws (h + p) vs)) ≡ sets l p vs = take_drop_sets ws h n p vs r ∙ ap (λ (r : List ℕ). sets r p vs) (sym has_is) in
      record { inside = P.inside; holds = rw (back, set-get_or hs slot 0, e) at F }

  pub written : (p : ℕ) (vs : List ℕ) → p + length vs ≤ length l → SoundWithSet st (sets ws (handle_at hs slot + p) vs) hs ls slot (sets l p vs)
  written p [] r = P
  written p (v ∷ vs) r = let n = has_length in written_some p (v ∷ vs) (omega arith) (omega arith)

  -- the list gets the new length, some: the elements that it has and had are as they were
  resized : (new : ℕ) → Ready st ws hs slot new → 0 < new
      → (xs : List ℕ) × (length xs ≡ new) × (take (min (length l) new) xs ≡ take (min (length l) new) l)
      × LeavesWithSet (seated 0 (moved st ws (handle_at hs slot) (len_of ws hs slot) new) hs slot new) ls slot xs
  resized new ready p =
      let h = handle_at hs slot in
      let old = len_of ws hs slot in
      let t = moved st ws h old new in
      let R = moved_resized h old new (out P.holds slot has_here) ready.can p in
      let T = R.took in
      let vs = set t.words t.block new in
      let fits = class_fits new (omega (arith, ready.can.most)) in
      let room : t.block + size_of (class_of new) ≤ length t.words = omega (arith, T.held.spans.1, T.held.within.below) in
      let long = length-set t.words t.block new in
      let F =
      finish hs ls slot t.block new (size_of (class_of new)) vs T.held (T.same ∙ has_out) has_here long
      (λ i o. get_or-set_other t.words t.block i new 0 (λ e. omega (arith, over_in t.block (size_of (class_of new)) i (omega arith) (omega arith))))
      (get_or-set_same t.words t.block new 0 (omega arith)) p refl in
      let kept : take (min old new) (take new (drop (t.block + 1) vs)) ≡ take (min old new) l =
      take-take (min old new) new (drop (t.block + 1) vs) (omega arith)
      ∙ ap (take (min old new)) (drop-set-lt (t.block + 1) t.words t.block new (omega arith))
      ∙ R.elements
      ∙ sym (ap (take (min old new)) has_is ∙ take-take (min old new) old (drop h ws) (omega arith)) in (
        take new (drop (t.block + 1) vs),
        length_take_drop vs (t.block + 1) new (omega arith),
        rw has_length kept,
        record { inside = P.inside; holds = F },
      )

  -- the same list shorter
  pub shrunk : (new : ℕ) → Ready st ws hs slot new → 0 < new → new ≤ length l
      → LeavesWithSet (seated 0 (moved st ws (handle_at hs slot) (len_of ws hs slot) new) hs slot new) ls slot (take new l)
  shrunk new ready p q =
      let (xs, k, e, F) = resized new ready p in
      let m : min (length l) new ≡ new = omega arith in
      let is : xs ≡ take new l = sym (take_all new xs (omega arith)) ∙ rw m at e in
      rw (← is) F

  -- the same list with count elements more at its end, whatever stood there
  pub grew : (count : ℕ) → Ready st ws hs slot (len_of ws hs slot + count)
      → (zs : List ℕ) × (length zs ≡ count) × LeavesWithSet (grown st ws hs slot count) ls slot (l ++ zs)
  unfolding grown
  grew count ready = go (eq-zero-or-pos (len_of ws hs slot + count))
    where
      old : ℕ
      old = len_of ws hs slot

      go : (old + count ≡ 0) ⊎ (0 < old + count)
          → (zs : List ℕ) × (length zs ≡ count)
          × LeavesWithSet
          (cond (eqb (old + count) 0) (done 0 st ws hs) (seated 0 (moved st ws (handle_at hs slot) old (old + count)) hs slot (old + count)))
          ls slot (l ++ zs)
      go (inl z) = ([], omega arith, rw (eq-eqb (old + count) 0 z, append-nil l) P)
      go (inr p) =
          let k = has_length in
          let (xs, d, e, F) = resized (old + count) ready p in
          let m : min (length l) (old + count) ≡ length l = omega arith in
          let front : take (length l) xs ≡ l = (rw m at e) ∙ take-length l in
          let all : l ++ drop (length l) xs ≡ xs = ap (λ (r : List ℕ). r ++ drop (length l) xs) (sym front) ∙ take-append-drop (length l) xs in
          (drop (length l) xs, length-drop (length l) xs ∙ omega arith, rw (ne_eqb (old + count) 0 (omega arith), all) F)

  -- the list is cleared
  pub emptied : LeavesWithSet (cleared st ws hs slot (handle_at hs slot) (len_of ws hs slot)) ls slot []
  unfolding cleared
  emptied = go (eq-zero-or-pos (handle_at hs slot))
    where
      h : ℕ
      h = handle_at hs slot

      f : Freed
      f = free st ws (h - 1) (class_of (len_of ws hs slot))

      go : (h ≡ 0) ⊎ (0 < h) → LeavesWithSet (cond (eqb h 0) (done 0 st ws hs) (done 0 f.state f.words (set hs slot 0))) ls slot []
      go (inl z) = rw (eq-eqb h 0 z, sym (list_none ws) ∙ ap (list_of ws) (sym z) ∙ sym (list_of_lem P.holds slot) ∙ has_list) P
      go (inr p) =
          let n = len_of ws hs slot in
          let some = (list_here P.holds slot).live p in
          let O : SoundBut st ws (set hs slot 0) (span (h - 1) (size_of (class_of n)) ∷ []) = rw (ne_eqb n 0 (omega arith)) at (out P.holds slot has_here) in
          let G = free_gave (h - 1) (class_of n) O (class_below n (list_here P.holds slot).short) in
          rw (ne_eqb h 0 (omega arith)) (record { inside = P.inside; holds = holds G.held (G.same ∙ has_out) })
