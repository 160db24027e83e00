-- What it means that a pool is sound: every used word lies in exactly one block, blocks are never shared, and their sizes add up to the used words.
-- The statements use the definitions of Sound.antt and of paper 01's rules alone.
use Rattle.std.specs.Prelude.{◌≡◌, refl, ◌≢◌, ◌⊎◌, true, cond, ℕ, ◌+◌, ◌-◌, ◌*◌, ◌≤◌, ◌<◌, get_or, eqb}
use Rattle.std.proofs.Common.{sym, ◌∙◌, inl, inr, eq-zero-or-pos, ne_eqb, ext_get_or}
use Rattle.std.proofs.Math.Path.{ap}
use mathlib.Core.List.{List, [], ◌∷◌, map}
use native.Mathlib.Omega.{arith}
use Rattle.std.proofs.Math.Decide.{dec_le, dec_lt, ℕ_discrete}
use Rattle.std.proofs.Math.ListN.{length, get_or-eq_default}
use Rattle.words.specs.RunLaws.{length_take_drop}
use Rattle.sizes.specs.Class.{class_count, class_of, size_of}
use Rattle.sizes.proofs.Laws.{size_least}
use Rattle.pool.specs.declared.ListPool.{ListPool}
use Rattle.pool.specs.Numbers.{head_of, handle_at, length_at, sound_handle}
use Rattle.pool.specs.Rules.{len_of}
use Rattle.pool.proofs.Facts.{handle_facts, head_facts, list_at_lem}
use Rattle.sound.specs.Sound.{sum, over, live_over, free_over, Chain, Cut, Sound, list_of, lists, SoundWith}
use Rattle.sound.proofs.Sums.{over_in, over_pos, over_le, over_right, sum_ge, sum_ge_two, sum_cong, sum_pos}
use Rattle.sound.proofs.Totals.{upto, upto_zero, upto_cong, upto_add, upto_sum, upto_over}
use Rattle.sound.specs.CutProperties.{Place, live, free, Block, start_of, words_of, Lies, OnChain}

-- a sum is at least any two of its summands
sum_two {ℓ} : {A : Type ℓ} (f : ℕ → A → ℕ) (l : List A) (j k : ℕ) (d : A) → j ≢ k → j < length l → k < length l
    → f j (get_or l j d) + f k (get_or l k d) ≤ sum f l
sum_two f l j k d ne g h = go (dec_lt j k)
  where
    go : Dec (j < k) → f j (get_or l j d) + f k (get_or l k d) ≤ sum f l
    go (yes p) = sum_ge_two f l j k d p h
    go (no q) = omega (arith, sum_ge_two f l k j d (omega arith) g)

-- a handle's block is counted over each of its words, and over no other
live_over_lem : (ws hs : List ℕ) (slot i : ℕ) → handle_at hs slot ≢ 0
    → live_over ws i (handle_at hs slot) ≡ over (handle_at hs slot - 1) (size_of (class_of (len_of ws hs slot))) i
unfolding live_over length_at
live_over_lem ws hs slot i ne = rw (ne_eqb (handle_at hs slot) 0 ne)

module _ {st : ListPool} {ws hs : List ℕ} {fs : List (List ℕ)} (C : Cut st ws hs fs) where
  -- how often the word i is counted
  over_at : ℕ → Place → ℕ
  over_at i p = over (start_of hs fs p) (words_of ws hs p) i

  lies_over : {i : ℕ} (p : Place) → Lies ws hs fs i p → over_at i p ≡ 1
  unfolding over_at
  lies_over {i} p L = over_in (start_of hs fs p) (words_of ws hs p) i L.from L.to

  table_ge : (i slot : ℕ) → Block hs fs (live slot) → over_at i (live slot) ≤ sum (λ slot h. live_over ws i h) hs
  unfolding over_at
  table_ge i slot (l, ne) = rw (← (live_over_lem ws hs slot i ne)) (sum_ge (λ slot h. live_over ws i h) hs slot 0 l)

  chain_ge : (i c k : ℕ) → Block hs fs (free c k) → over_at i (free c k) ≤ free_over i c (get_or fs c [])
  unfolding over_at free_over
  chain_ge i c k (l, n) = sum_ge (λ k b. over b (size_of c) i) (get_or fs c []) k 0 n

  chains_ge : (i c k : ℕ) → Block hs fs (free c k) → over_at i (free c k) ≤ sum (free_over i) fs
  chains_ge i c k B = omega (arith, chain_ge i c k B, sum_ge (free_over i) fs c [] (omega (arith, C.classes, B.0)))

  counted : (i : ℕ) → sum (λ slot h. live_over ws i h) hs + sum (free_over i) fs ≤ 1
  counted i = omega (arith, C.once i, over_le 0 st.used i)

  -- A word lies in no two blocks: not in those of two slots, not in a live and a free one, not in two free ones.
  pub word_in_one : (i : ℕ) (p q : Place) → Lies ws hs fs i p → Lies ws hs fs i q → p ≡ q
  unfolding over_at free_over
  word_in_one i (live s) (live t) L M = go (ℕ_discrete s t)
    where
      go : Dec (s ≡ t) → live s ≡ live t
      go (yes e) = ap live e
      go (no ne) =
          absurd
          (omega (
            arith,
            counted i,
            lies_over (live s) L,
            lies_over (live t) M,
            live_over_lem ws hs s i L.block.1,
            live_over_lem ws hs t i M.block.1,
            sum_two (λ slot h. live_over ws i h) hs s t 0 ne L.block.0 M.block.0,
          ))
  word_in_one i (live s) (free c k) L M =
      absurd (omega (arith, counted i, lies_over (live s) L, lies_over (free c k) M, table_ge i s L.block, chains_ge i c k M.block))
  word_in_one i (free c k) (live s) L M =
      absurd (omega (arith, counted i, lies_over (free c k) L, lies_over (live s) M, table_ge i s M.block, chains_ge i c k L.block))
  word_in_one i (free c k) (free d j) L M = go (ℕ_discrete c d)
    where
      same : c ≡ d → Dec (k ≡ j) → free c k ≡ free d j
      same e (yes f) = cc
      same e (no ne) =
          let n : j < length (get_or fs c []) = rw e M.block.1 in
          let m : over (get_or (get_or fs c []) j 0) (size_of c) i ≡ 1 = rw e (lies_over (free d j) M) in
          absurd
          (omega (
            arith,
            counted i,
            lies_over (free c k) L,
            sum_two (λ k b. over b (size_of c) i) (get_or fs c []) k j 0 ne L.block.1 n,
            sum_ge (free_over i) fs c [] (omega (arith, C.classes, L.block.0)),
          ))

      go : Dec (c ≡ d) → free c k ≡ free d j
      go (yes e) = same e (ℕ_discrete k j)
      go (no ne) =
          absurd
          (omega (
            arith,
            counted i,
            lies_over (free c k) L,
            lies_over (free d j) M,
            chain_ge i c k L.block,
            chain_ge i d j M.block,
            sum_two (free_over i) fs c d [] ne (omega (arith, C.classes, L.block.0)) (omega (arith, C.classes, M.block.0)),
          ))

  live_lies : (i slot : ℕ) → slot < length hs → 1 ≤ live_over ws i (handle_at hs slot) → Lies ws hs fs i (live slot)
  unfolding live_over
  live_lies i slot l h =
      let ne : handle_at hs slot ≢ 0 = λ z. omega (arith, ap (live_over ws i) z) in
      let o = over_pos (handle_at hs slot - 1) (size_of (class_of (len_of ws hs slot))) i (rw (live_over_lem ws hs slot i ne) at h) in
      record { block = (l, ne); from = o.0; to = o.1 }

  -- Every used word lies in exactly one block: the live block of one slot, or the free block at one place of one chain.
  pub word_in_block : (i : ℕ) → i < st.used → (p : Place) × Lies ws hs fs i p × ((q : Place) → Lies ws hs fs i q → q ≡ p)
  unfolding free_over
  word_in_block i l = let (p, L) = there (dec_le 1 (sum (λ slot h. live_over ws i h) hs)) in (p, L, λ q M. word_in_one i q p M L)
    where
      there : Dec (1 ≤ sum (λ slot h. live_over ws i h) hs) → (p : Place) × Lies ws hs fs i p
      there (yes h) = let (slot, m, o) = sum_pos (λ slot h. live_over ws i h) hs 0 h in (live slot, live_lies i slot m o)
      there (no h) =
          let (c, m, o) = sum_pos (free_over i) fs [] (omega (arith, C.once i, over_in 0 st.used i (omega arith) (omega arith))) in
          let (k, n, u) = sum_pos (λ k b. over b (size_of c) i) (get_or fs c []) 0 o in
          let v = over_pos (get_or (get_or fs c []) k 0) (size_of c) i u in
          (free c k, record { block = (omega (arith, C.classes), n); from = v.0; to = v.1 })

  -- A word at or above used lies in no block.
  pub word_in_none : (i : ℕ) → st.used ≤ i → (p : Place) → Lies ws hs fs i p → ⊥
  word_in_none i l (live s) L = omega (arith, C.once i, over_right 0 st.used i (omega arith), lies_over (live s) L, table_ge i s L.block)
  word_in_none i l (free c k) L = omega (arith, C.once i, over_right 0 st.used i (omega arith), lies_over (free c k) L, chains_ge i c k L.block)

  -- Two blocks have no word in common.
  pub blocks_apart : (p q : Place) → p ≢ q → (i : ℕ) → Lies ws hs fs i p → Lies ws hs fs i q → ⊥
  blocks_apart p q ne i L M = ne (word_in_one i p q L M)

  -- a block has words
  words_some : (p : Place) → 0 < words_of ws hs p
  words_some (live slot) = omega (arith, size_least (class_of (len_of ws hs slot)))
  words_some (free c k) = omega (arith, size_least c)

  -- so that two blocks that start at one word are one
  start_one : (p q : Place) → Block hs fs p → Block hs fs q → start_of hs fs p ≡ start_of hs fs q → p ≡ q
  start_one p q B D e =
      let m = words_some p in
      let n = words_some q in
      word_in_one (start_of hs fs p) p q
      (record { block = B; from = omega arith; to = omega arith })
      (record { block = D; from = omega arith; to = omega arith })

  on_block : (c k b : ℕ) → OnChain fs c k b → Block hs fs (free c k)
  on_block c k b (l, e) = (go (dec_lt c (length fs)), l)
    where
      go : Dec (c < length fs) → c < class_count
      go (yes p) = omega (arith, C.classes)
      go (no p) = absurd (omega (arith, ap length (get_or-eq_default fs [] {n = c} (omega arith))))

  -- A live block is on no chain.
  pub live_on_no_chain : (slot c k b : ℕ) → slot < length hs → handle_at hs slot ≡ b + 1 → OnChain fs c k b → ⊥
  live_on_no_chain slot c k b l e O =
      let same : live slot ≡ free c k = start_one (live slot) (free c k) (l, omega arith) (on_block c k b O) (omega (arith, O.1)) in
      let z : ◌≡◌ {A = ℕ} 0 1 = cc in
      omega arith

  -- No block is on two chains or twice on one.
  pub free_once : (c k d j b : ℕ) → OnChain fs c k b → OnChain fs d j b → (c ≡ d) × (k ≡ j)
  free_once c k d j b O P =
      let same : free c k ≡ free d j = start_one (free c k) (free d j) (on_block c k b O) (on_block d j b P) (O.1 ∙ sym P.1) in
      (cc, cc)

-- Two different slots never share a block.
pub not_shared : {st : ListPool} {ws hs : List ℕ} → Sound st ws hs → (slot other : ℕ) → slot ≢ other → slot < length hs → other < length hs
    → handle_at hs slot ≢ 0 → handle_at hs slot ≢ handle_at hs other
not_shared (fs, C) slot other ne l r some e =
    let same : live slot ≡ live other = start_one C (live slot) (live other) (l, some) (r, λ z. some (e ∙ z)) (ap (λ (h : ℕ). h - 1) e) in
    ne (cc)

-- The free blocks are settled by the words: a sound pool is cut in one way.
pub cut_unique : {st : ListPool} {ws hs : List ℕ} {fs gs : List (List ℕ)} → Cut st ws hs fs → Cut st ws hs gs → fs ≡ gs
cut_unique {st} {ws} {fs = fs} {gs = gs} C D =
    ext_get_or [] fs gs (C.classes ∙ sym D.classes)
    (λ c l. chain_unique st.used ws c (head_of st c) (get_or fs c []) (get_or gs c []) (C.chains c) (D.chains c))
  where
    chain_unique : (used : ℕ) (ws : List ℕ) (c h : ℕ) (bs ds : List ℕ) → Chain used ws c h bs → Chain used ws c h ds → bs ≡ ds
    chain_unique used ws c h [] [] p q = refl
    chain_unique used ws c h [] (d ∷ ds) p q = absurd (omega (arith, q.0))
    chain_unique used ws c h (b ∷ bs) [] p q = absurd (omega (arith, p.0))
    chain_unique used ws c h (b ∷ bs) (d ∷ ds) p q =
        let e : b ≡ d = omega (arith, p.0, q.0) in
        cc (chain_unique used ws c (get_or ws h 0) bs ds p.2 q.2)

-- the words of the block of a list of n elements: none for the empty list
unfoldable pub block_for : ℕ → ℕ
block_for n = cond (eqb n 0) 0 (size_of (class_of n))

live_total : (used : ℕ) (ws : List ℕ) (h : ℕ) → sound_handle used ws h ≡ true → upto used (λ i. live_over ws i h) ≡ block_for (length_at ws h)
unfolding live_over block_for length_at
live_total used ws h e = go (eq-zero-or-pos h)
  where
    go : (h ≡ 0) ⊎ (0 < h) → upto used (λ i. live_over ws i h) ≡ block_for (length_at ws h)
    go (inl z) = rw z (upto_zero used)
    go (inr p) =
        let f = handle_facts used ws h e p in
        rw (ne_eqb h 0 (omega arith), ne_eqb (get_or ws (h - 1) 0) 0 (omega arith)) (upto_over (h - 1) (size_of (class_of (get_or ws (h - 1) 0))) used f.ends)

chain_total : (used : ℕ) (ws : List ℕ) (c h : ℕ) (bs : List ℕ) → Chain used ws c h bs → upto used (λ i. free_over i c bs) ≡ size_of c * length bs
unfolding free_over sum
chain_total used ws c h [] C = upto_zero used ∙ omega arith
chain_total used ws c h (b ∷ bs) C =
    let f = head_facts used ws c h C.1 (omega (arith, C.0)) in
    upto_add used (over b (size_of c)) (λ i. free_over i c bs)
    ∙ omega (arith, upto_over b (size_of c) used (omega (arith, C.0)), chain_total used ws c (get_or ws h 0) bs C.2)

-- The sizes of the live blocks, plus those of the free blocks, add up to used.
pub words_add_up : {st : ListPool} {ws hs : List ℕ} {fs : List (List ℕ)} → Cut st ws hs fs
    → sum (λ slot h. block_for (length_at ws h)) hs + sum (λ c bs. size_of c * length bs) fs ≡ st.used
words_add_up {st} {ws} {hs} {fs} C =
    let u = st.used in
    omega (
      arith,
      upto_cong u (λ i. sum (λ slot h. live_over ws i h) hs + sum (free_over i) fs) (over 0 u) C.once,
      upto_add u (λ i. sum (λ slot h. live_over ws i h) hs) (λ i. sum (free_over i) fs),
      upto_sum u (λ i slot h. live_over ws i h) hs,
      upto_sum u free_over fs,
      upto_over 0 u u (omega arith),
      sum_cong (λ slot h. upto u (λ i. live_over ws i h)) (λ slot h. block_for (length_at ws h)) hs 0
          (λ slot l. live_total u ws (handle_at hs slot) (C.handles slot)),
      sum_cong (λ c bs. upto u (λ i. free_over i c bs)) (λ c bs. size_of c * length bs) fs []
          (λ c l. chain_total u ws c (head_of st c) (get_or fs c []) (C.chains c)),
    )

-- The live blocks, the free blocks and the unused tail add up to the pool.
pub pool_adds_up : {st : ListPool} {ws hs : List ℕ} {fs : List (List ℕ)} → Cut st ws hs fs → st.used ≤ length ws
    → sum (λ slot h. block_for (length_at ws h)) hs + sum (λ c bs. size_of c * length bs) fs + (length ws - st.used) ≡ length ws
pool_adds_up C below = omega (arith, words_add_up C)

sum_map : (f : List ℕ → ℕ) (g : ℕ → List ℕ) (l : List ℕ) → sum (λ k x. f x) (map g l) ≡ sum (λ k h. f (g h)) l
unfolding sum
sum_map f g [] = refl
sum_map f g (x ∷ l) = omega (arith, sum_map f g l)

-- Used is at least the sizes of the live blocks, which the lengths of the lists decide: no sound pool with these lists uses fewer words.
pub lists_at_most : {st : ListPool} {ws hs : List ℕ} {ls : List (List ℕ)} → SoundWith st ws hs ls → sum (λ slot l. block_for (length l)) ls ≤ st.used
unfolding lists list_of
lists_at_most {st} {ws} {hs} P =
    let C = P.sound.1 in
    let W = P.within in
    rw (← P.are)
    (omega (
      arith,
      words_add_up C,
      sum_map (λ l. block_for (length l)) (list_of ws) hs,
      sum_cong (λ slot h. block_for (length (list_of ws h))) (λ slot h. block_for (length_at ws h)) hs 0
          (λ slot l.
          ap block_for
          (length_take_drop ws (handle_at hs slot) (len_of ws hs slot)
          (list_at_lem st.used ws (handle_at hs slot) W.below W.pool_within (C.handles slot)).ends)),
    ))
