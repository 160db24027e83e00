-- The audit accepts exactly the sound pools and answers each number exactly when paper 01 says; on 0 its map tells of every group of words in which
-- block it lies.
use Rattle.std.specs.Prelude.{◌≡◌, refl, true, List, [], ◌≢◌, ◌⊎◌, ◌↔◌, ℕ, ◌+◌, ◌*◌, ◌/◌, ◌%◌, ◌≤◌, ◌<◌, length, get_or, replicate}
use Rattle.std.proofs.Common.{sym, ap, ◌∙◌, true≢false, inl, inr, eq-zero-or-pos, arith}
use Rattle.std.proofs.Math.Option.{none-ne-some}
use Rattle.std.proofs.Math.Decide.{dec_lt}
use Rattle.std.proofs.lemmas.List.{length-replicate}
use Rattle.sizes.specs.Class.{class_count, class_of}
use Rattle.sizes.proofs.Laws.{size_least, size_fours}
use Rattle.words.specs.RunLaws.{length_filled}
use Rattle.pool.specs.declared.ListPool.{ListPool}
use Rattle.pool.specs.declared.Answer.{Answer}
use Rattle.pool.specs.Numbers.{pool_limit, table_limit, state_of, handle_at, over_limit}
use Rattle.pool.specs.Rules.{answer, len_of}
use Rattle.pool.specs.Facts.{Within}
use Rattle.pool.proofs.Facts.{within_limits}
use Rattle.sound.specs.Sound.{Cut, Sound}
use Rattle.sound.specs.CutProperties.{Place, Block, start_of, words_of, Lies, OnChain}
use Rattle.sound.specs.CutProperties.{live, free}
use Rattle.sound.proofs.CutProperties.{word_in_one, word_in_block, word_in_none, cut_unique}
use Rattle.sound.proofs.Cleared.{cleared_sound}
use Rattle.audit.specs.Audit.{group_of, Audited, audited, audit}
use Rattle.audit.specs.Marks.{made_length, made_past, made_has, made_from}
use Rattle.audit.specs.Walks.{marks_of, Accepted, accepted_says}
use Rattle.audit.specs.Covers.{marks_fit, accepted_cut, cut_accepted}
use Rattle.audit.specs.Cases.{cleaned, Case, limit, short, accepts, refuses, audit_case, cleaned_clean, cleaned_past}
use Rattle.audit.specs.PlaceMarks.{mark_of, place_mark, mark_place, start_fours}

-- the word that the audit leaves in the map for the group g
abbrev pub map_word : ListPool → List ℕ → List ℕ → List ℕ → ℕ → ℕ
map_word st ws hs map g = get_or (audit st ws hs map).map g 0

module _ (st : ListPool) (ws hs map : List ℕ) where
  -- EXACTNESS

  -- "Within 01's limits and with map enough, the answer is 0 if and only if the pool is sound in the sense of the crate `sound`."
  pub audit_exact : Within st.used (length ws) (length hs) → length st.heads ≡ class_count → st.used / 4 ≤ length map
      → ((audit st ws hs map).answer.number ≡ 0) ↔ Sound st ws hs
  audit_exact W n room = go (audit_case st ws hs map)
    where
      go : Case st ws hs map → ((audit st ws hs map).answer.number ≡ 0) ↔ Sound st ws hs
      go (limit e q) = absurd (true≢false (sym e ∙ within_limits W))
      go (short w l q) = absurd (omega arith)
      go (accepts w l m a q) =
          let (fs, A) = accepted_says st ws hs (cleaned st map) m a in
          (λ z. (fs, accepted_cut W n (cleaned_clean st map room) A), λ S. q.number)
      go (refuses w l a q) = (
        λ z. absurd (omega arith),
        λ (fs, C). let (m, b) = cut_accepted W (cleaned_clean st map room) C in absurd (none-ne-some m (sym a ∙ b)),
      )

  -- Of any pool and map whatever: 0 exactly where the pool is within 01's limits, the map is long enough and the pool is sound.
  pub audit_zero : length st.heads ≡ class_count
      → ((audit st ws hs map).answer.number ≡ 0) ↔ (Within st.used (length ws) (length hs) × (st.used / 4 ≤ length map) × Sound st ws hs)
  audit_zero n = (go (audit_case st ws hs map), λ (w, l, S). (audit_exact w n l).1 S)
    where
      go : Case st ws hs map → (audit st ws hs map).answer.number ≡ 0 → Within st.used (length ws) (length hs) × (st.used / 4 ≤ length map) × Sound st ws hs
      go (limit e q) z = absurd (omega arith)
      go (short w l q) z = absurd (omega arith)
      go (accepts w l m a q) z = (w, l, (audit_exact w n l).0 z)
      go (refuses w l a q) z = absurd (omega arith)

  -- NUMBERS: "1, 8, 9 in 01's order"

  -- 1: "pool or table over its limit, used above the pool's length, or used not a multiple of 4"
  pub audit_one : ((audit st ws hs map).answer.number ≡ 1) ↔ (over_limit st.used (length ws) (length hs) ≡ true)
  audit_one = go (audit_case st ws hs map)
    where
      within : Within st.used (length ws) (length hs) → over_limit st.used (length ws) (length hs) ≡ true → ⊥
      within w e = true≢false (sym e ∙ within_limits w)

      go : Case st ws hs map → ((audit st ws hs map).answer.number ≡ 1) ↔ (over_limit st.used (length ws) (length hs) ≡ true)
      go (limit e q) = (λ z. e, λ e. q.number)
      go (short w l q) = (λ z. absurd (omega arith), λ e. absurd (within w e))
      go (accepts w l m a q) = (λ z. absurd (omega arith), λ e. absurd (within w e))
      go (refuses w l a q) = (λ z. absurd (omega arith), λ e. absurd (within w e))

  -- 8: "map shorter than used / 4 words"
  pub audit_eight : ((audit st ws hs map).answer.number ≡ 8) ↔ (Within st.used (length ws) (length hs) × (length map < st.used / 4))
  audit_eight = go (audit_case st ws hs map)
    where
      go : Case st ws hs map → ((audit st ws hs map).answer.number ≡ 8) ↔ (Within st.used (length ws) (length hs) × (length map < st.used / 4))
      go (limit e q) = (λ z. absurd (omega arith), λ (w, l). absurd (true≢false (sym e ∙ within_limits w)))
      go (short w l q) = (λ z. (w, l), λ r. q.number)
      go (accepts w l m a q) = (λ z. absurd (omega arith), λ (v, r). absurd (omega arith))
      go (refuses w l a q) = (λ z. absurd (omega arith), λ (v, r). absurd (omega arith))

  -- 9: "not sound"
  pub audit_nine : length st.heads ≡ class_count
      → ((audit st ws hs map).answer.number ≡ 9) ↔ (Within st.used (length ws) (length hs) × (st.used / 4 ≤ length map) × (Sound st ws hs → ⊥))
  audit_nine n = go (audit_case st ws hs map)
    where
      go : Case st ws hs map
          → ((audit st ws hs map).answer.number ≡ 9) ↔ (Within st.used (length ws) (length hs) × (st.used / 4 ≤ length map) × (Sound st ws hs → ⊥))
      go (limit e q) = (λ z. absurd (omega arith), λ (w, l, u). absurd (true≢false (sym e ∙ within_limits w)))
      go (short w l q) = (λ z. absurd (omega arith), λ (v, r, u). absurd (omega arith))
      go (accepts w l m a q) = (λ z. absurd (omega arith), λ (v, r, u). absurd (u ((audit_exact w n l).0 q.number)))
      go (refuses w l a q) = (λ z. (w, l, λ S. omega (arith, (audit_exact w n l).1 S)), λ r. q.number)

  -- No other number is given.
  pub audit_numbers : (let n = (audit st ws hs map).answer.number in (n ≡ 0) ⊎ (n ≡ 1) ⊎ (n ≡ 8) ⊎ (n ≡ 9))
  audit_numbers = go (audit_case st ws hs map)
    where
      go : Case st ws hs map → (let n = (audit st ws hs map).answer.number in (n ≡ 0) ⊎ (n ≡ 1) ⊎ (n ≡ 8) ⊎ (n ≡ 9))
      go (limit e q) = inr (inl q.number)
      go (short w l q) = inr (inr (inl q.number))
      go (accepts w l m a q) = inl q.number
      go (refuses w l a q) = inr (inr (inr q.number))

  -- "value 0, state unchanged"
  pub audit_answer : (audit st ws hs map).answer ≡ answer (audit st ws hs map).answer.number 0 st
  audit_answer = go (audit_case st ws hs map)
    where
      go : Case st ws hs map → (audit st ws hs map).answer ≡ answer (audit st ws hs map).answer.number 0 st
      go (limit e q) = rw q.answers
      go (short w l q) = rw q.answers
      go (accepts w l m a q) = rw q.answers
      go (refuses w l a q) = rw q.answers

  -- MAP WORDS THAT STAY

  -- "With 1 and 8 no map word changes."
  pub map_kept : (let n = (audit st ws hs map).answer.number in (n ≡ 1) ⊎ (n ≡ 8)) → (audit st ws hs map).map ≡ map
  map_kept = go (audit_case st ws hs map)
    where
      go : Case st ws hs map → (let n = (audit st ws hs map).answer.number in (n ≡ 1) ⊎ (n ≡ 8)) → (audit st ws hs map).map ≡ map
      go (limit e q) z = q.leaves
      go (short w l q) z = q.leaves
      go (accepts w l m a q) (inl z) = absurd (omega arith)
      go (accepts w l m a q) (inr z) = absurd (omega arith)
      go (refuses w l a q) (inl z) = absurd (omega arith)
      go (refuses w l a q) (inr z) = absurd (omega arith)

  -- "With 9 the first used / 4 map words become 0."
  pub map_zeroed : (audit st ws hs map).answer.number ≡ 9 → (g : ℕ) → g < st.used / 4 → map_word st ws hs map g ≡ 0
  map_zeroed z g b = go (audit_case st ws hs map)
    where
      go : Case st ws hs map → map_word st ws hs map g ≡ 0
      go (limit e q) = absurd (omega arith)
      go (short w l q) = absurd (omega arith)
      go (accepts w l m a q) = absurd (omega arith)
      go (refuses w l a q) = rw q.leaves ((cleaned_clean st map l).zeros g b)

  -- "Map words past used / 4 stay", whatever the number is.
  pub map_past : length st.heads ≡ class_count → (g : ℕ) → st.used / 4 ≤ g → map_word st ws hs map g ≡ get_or map g 0
  map_past n g b = go (audit_case st ws hs map)
    where
      go : Case st ws hs map → map_word st ws hs map g ≡ get_or map g 0
      go (limit e q) = rw q.leaves
      go (short w l q) = rw q.leaves
      go (accepts w l m a q) =
          let (fs, A) = accepted_says st ws hs (cleaned st map) m a in
          rw q.leaves (made_past (st.used / 4) (marks_of hs fs) (cleaned st map) m g (marks_fit w n A.walked) A.made b ∙ cleaned_past st map g b)
      go (refuses w l a q) = rw q.leaves (cleaned_past st map g b)

  -- The map keeps its length.
  pub map_length : length (audit st ws hs map).map ≡ length map
  map_length = go (audit_case st ws hs map)
    where
      go : Case st ws hs map → length (audit st ws hs map).map ≡ length map
      go (limit e q) = ap length q.leaves
      go (short w l q) = ap length q.leaves
      go (accepts w l m a q) =
          let (fs, A) = accepted_says st ws hs (cleaned st map) m a in
          ap length q.leaves ∙ made_length (marks_of hs fs) (cleaned st map) m A.made ∙ simp length_filled
      go (refuses w l a q) = ap length q.leaves ∙ simp length_filled

-- "Used 0 with all heads and handles 0 is accepted."
pub cleared_accepted : (ws : List ℕ) (n : ℕ) (map : List ℕ) → length ws ≤ pool_limit → n ≤ table_limit
    → (audit (state_of 0 (replicate class_count 0)) ws (replicate n 0) map).answer.number ≡ 0
cleared_accepted ws n map l r =
    let hs : List ℕ = replicate n 0 in
    let W : Within 0 (length ws) (length hs) = record { pool_within = l; table_within = rw length-replicate r; below = omega arith; fours = refl } in
    (audit_exact (state_of 0 (replicate class_count 0)) ws hs map W refl (omega arith)).1 (cleared_sound ws n)

-- THE MAP OF AN ACCEPTED POOL

module _ {st : ListPool} {ws hs : List ℕ} {fs : List (List ℕ)} (map : List ℕ) (C : Cut st ws hs fs) (zero : (audit st ws hs map).answer.number ≡ 0) where
  accepted_here : Within st.used (length ws) (length hs) × (st.used / 4 ≤ length map) × Accepted st ws hs fs (cleaned st map) (audit st ws hs map).map
  accepted_here = go (audit_case st ws hs map)
    where
      go : Case st ws hs map
          → Within st.used (length ws) (length hs) × (st.used / 4 ≤ length map)
          × Accepted st ws hs fs (cleaned st map) (audit st ws hs map).map
      go (limit e q) = absurd (omega arith)
      go (short w l q) = absurd (omega arith)
      go (accepts w l m a q) =
          let (gs, A) = accepted_says st ws hs (cleaned st map) m a in
          let same : gs ≡ fs = cut_unique (accepted_cut w C.heads (cleaned_clean st map l) A) C in
          (w, l, rw (q.leaves, ← same) A)
      go (refuses w l a q) = absurd (omega arith)

  -- "Accepted, the map says at a block's first group of four words slot + 1 (live) or 2,147,483,648 + class (free)":
  -- of the block of a slot, the one before its handle, and of each block on the chain of a class.
  pub map_first : (p : Place) → Block hs fs p → map_word st ws hs map (start_of hs fs p / 4) ≡ mark_of p
  map_first p B =
      let (w, l, A) = accepted_here in
      let c = cleaned_clean st map l in
      made_has (st.used / 4) _ (marks_of hs fs) (cleaned st map) _ (place_mark hs fs p B) (marks_fit w C.heads A.walked) c.room A.made

  -- And a block that it so names starts at every group where it says something.
  pub map_says : (g : ℕ) → g < st.used / 4 → map_word st ws hs map g ≢ 0
      → (p : Place) × Block hs fs p × (start_of hs fs p ≡ g * 4) × (map_word st ws hs map g ≡ mark_of p)
  map_says g b ne =
      let (w, l, A) = accepted_here in
      let c = cleaned_clean st map l in
      let fit = marks_fit w C.heads A.walked in
      let (x, i, s, v) = made_from (st.used / 4) (marks_of hs fs) (cleaned st map) _ g fit c.room A.made (c.zeros g b) (omega arith) in
      let (p, B, t, e) = mark_place hs fs x C.classes i in
      (p, B, omega (arith, start_fours C p B), sym v ∙ e)

  -- a block has a group's words or a multiple of them
  words_groups : (p : Place) → (4 ≤ words_of ws hs p) × (words_of ws hs p % 4 ≡ 0)
  words_groups (live slot) = let c = class_of (len_of ws hs slot) in (size_least c, size_fours c)
  words_groups (free c k) = (size_least c, size_fours c)

  -- ".. at its other groups 0": the groups of a block's words but the first.
  pub map_inside : (p : Place) → Block hs fs p → (g : ℕ) → start_of hs fs p < g * 4 → g * 4 < start_of hs fs p + words_of ws hs p → map_word st ws hs map g ≡ 0
  map_inside p B g a b = go (eq-zero-or-pos (map_word st ws hs map g)) (dec_lt g (st.used / 4))
    where
      here : Lies ws hs fs (g * 4) p
      here = record { block = B; from = omega arith; to = b }

      go : (map_word st ws hs map g ≡ 0) ⊎ (0 < map_word st ws hs map g) → Dec (g < st.used / 4) → map_word st ws hs map g ≡ 0
      go (inl z) d = z
      go (inr u) (yes l) =
          let (q, D, s, v) = map_says g l (omega arith) in
          let r = words_groups q in
          let same : p ≡ q = word_in_one C (g * 4) p q here (record { block = D; from = omega arith; to = omega arith }) in
          absurd (omega (arith, ap (start_of hs fs) same))
      go (inr u) (no l) = absurd (word_in_none C (g * 4) (omega (arith, accepted_here.0.fours)) p here)

  -- "For every group, whose block it is": all its words lie in one block; the map has that block's mark at its first group, and nothing from there up
  -- to the group.
  pub map_place : (g : ℕ) → g < st.used / 4
      → (p : Place) × ((i : ℕ) → i / 4 ≡ g → Lies ws hs fs i p)
      × (map_word st ws hs map (start_of hs fs p / 4) ≡ mark_of p)
      × ((d : ℕ) → start_of hs fs p / 4 < d → d ≤ g → map_word st ws hs map d ≡ 0)
  map_place g l =
      let (p, L, only) = word_in_block C (g * 4) (omega arith) in
      let B = L.block in
      let f = start_fours C p B in
      let w = words_groups p in (
        p,
        λ i e. record { block = B; from = omega (arith, L.from); to = omega (arith, L.to) },
        map_first p B,
        λ d a b. map_inside p B d (omega arith) (omega (arith, L.to)),
      )

  -- The same group by group: the map says slot + 1 exactly where the block of that slot starts,
  pub map_live : (slot g : ℕ) → slot < length hs → g < st.used / 4 → (map_word st ws hs map g ≡ slot + 1) ↔ (handle_at hs slot ≡ g * 4 + 1)
  map_live slot g b l = (
    λ e. let (p, B, s, v) = map_says g l (omega arith) in there p B s v e,
    λ e. let s : group_of (handle_at hs slot) ≡ g = omega arith in rw (← s) (map_first (live slot) (b, omega arith)),
  )
    where
      there : (p : Place) → Block hs fs p → start_of hs fs p ≡ g * 4
          → map_word st ws hs map g ≡ mark_of p → map_word st ws hs map g ≡ slot + 1 → handle_at hs slot ≡ g * 4 + 1
      there (live s) (r, ne) f v e = let same : slot ≡ s = omega arith in rw same (omega arith)
      there (free c k) B f v e = absurd (omega (arith, accepted_here.0.table_within))

  -- 2147483648 + c exactly where a block on the chain of the class c starts,
  pub map_free : (c g : ℕ) → c < class_count → g < st.used / 4 → (map_word st ws hs map g ≡ 2147483648 + c) ↔ ((k : ℕ) × OnChain fs c k (g * 4))
  map_free c g b l = (
    λ e. let (p, B, s, v) = map_says g l (omega arith) in there p B s v e,
    λ (k, (n, e)). let s : get_or (get_or fs c []) k 0 / 4 ≡ g = omega arith in rw (← s) (map_first (free c k) (b, n)),
  )
    where
      there : (p : Place) → Block hs fs p → start_of hs fs p ≡ g * 4
          → map_word st ws hs map g ≡ mark_of p → map_word st ws hs map g ≡ 2147483648 + c → (k : ℕ) × OnChain fs c k (g * 4)
      there (live s) (r, ne) f v e = absurd (omega (arith, accepted_here.0.table_within))
      there (free d k) (r, n) f v e = let same : c ≡ d = omega arith in (k, rw same (n, f))

  -- and 0 exactly where no block starts.
  pub map_zero : (g : ℕ) → g < st.used / 4 → (map_word st ws hs map g ≡ 0) ↔ ((p : Place) → Block hs fs p → start_of hs fs p ≢ g * 4)
  map_zero g l = (
    λ z p B e. let s : start_of hs fs p / 4 ≡ g = omega arith in omega (arith, rw s at (map_first p B), mark_pos p),
    λ none-starts. go none-starts (eq-zero-or-pos (map_word st ws hs map g)),
  )
    where
      mark_pos : (p : Place) → 1 ≤ mark_of p
      mark_pos (live slot) = omega arith
      mark_pos (free c k) = omega arith

      go : ((p : Place) → Block hs fs p → start_of hs fs p ≢ g * 4) → (map_word st ws hs map g ≡ 0) ⊎ (0 < map_word st ws hs map g)
          → map_word st ws hs map g ≡ 0
      go none-starts (inl z) = z
      go none-starts (inr u) = let (p, B, e, v) = map_says g l (omega arith) in absurd (none-starts p B e)

-- "any two outcomes that satisfy it are shown equal": two answers of one audit, with the maps they leave
pub audit_determined : (st : ListPool) (ws hs map : List ℕ) {r r' : Answer} {left left' : List ℕ}
    → audited r left ≡ audit st ws hs map → audited r' left' ≡ audit st ws hs map → (r ≡ r') × (left ≡ left')
audit_determined st ws hs map e e' =
    let same = e ∙ sym e' in
    (ap (λ (a : Audited). a.answer) same, ap (λ (a : Audited). a.map) same)
