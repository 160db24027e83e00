-- The marks of a pool's blocks, and what it says that the handles or the chains of a pool could all be marked: they are locally sound,
-- the chains end, and the marks of their blocks were made in the map one after another.
use Rattle.std.specs.Prelude.{◌≡◌, Bool, true, false, cond, ◌⊎◌, ◌↔◌, length, get_or, set, take, eqb, List, [], ◌∷◌, ◌++◌}
use Rattle.std.proofs.Math.Path.{refl, ap}
use Rattle.std.proofs.Common.{sym, ◌∙◌, inl, inr, eq-zero-or-pos, le_of_suc-le-suc, ℕ, zero, suc, ◌+◌, ◌-◌, ◌/◌, ◌≤◌, ◌<◌, arith, eq-eqb, ne_eqb}
use Rattle.std.proofs.Math.Option.{Option, none, some, none-ne-some}
use Rattle.std.proofs.lemmas.Bool.{eqb-true}
use Rattle.pool.specs.declared.ListPool.{ListPool}
use Rattle.pool.specs.Numbers.{head_of, handle_at, sound_handle, sound_head}
use Rattle.sound.specs.Sound.{Chain}
use Rattle.audit.specs.Audit.{live_mark, free_mark, group_of, marked, and_then, handles_marked, chain_marked, chains_marked, swept, accepted}
use Rattle.audit.specs.Marks.{Mark, mark, Made, made_append}

-- the marks of the blocks of handles, of which the first is in the slot
unfoldable pub live_marks : ℕ → List ℕ → List Mark
live_marks slot [] = []
live_marks slot (zero ∷ hs) = live_marks (suc slot) hs
live_marks slot (suc b ∷ hs) = mark (group_of (suc b)) (live_mark slot) ∷ live_marks (suc slot) hs

-- the marks of the free blocks of the class c, which start at bs
unfoldable pub free_marks : ℕ → List ℕ → List Mark
free_marks c [] = []
free_marks c (b ∷ bs) = mark (b / 4) (free_mark c) ∷ free_marks c bs

-- the marks of the free blocks of each class from c on
unfoldable pub chain_marks : ℕ → List (List ℕ) → List Mark
chain_marks c [] = []
chain_marks c (bs ∷ fs) = free_marks c bs ++ chain_marks (suc c) fs

-- ONE MARK

-- what it says that a step gives a map: of a test, of two steps, and of a mark and a step
cond_some : (t : Bool) {o : Option (List ℕ)} {m : List ℕ} → cond t o none ≡ some m → (t ≡ true) × (o ≡ some m)
cond_some true e = (refl, e)
cond_some false e = absurd (none-ne-some _ e)

then_some : (o : Option (List ℕ)) (next : List ℕ → Option (List ℕ)) (m' : List ℕ)
    → and_then o next ≡ some m' ↔ ((m : List ℕ) × (o ≡ some m) × (next m ≡ some m'))
unfolding and_then
then_some none next m' = (λ e. absurd (none-ne-some _ e), λ (m, e, d). absurd (none-ne-some _ e))
then_some (some m) next m' = (λ e. (m, refl, e), λ (k, e, d). ap next (cc) ∙ d)

mark_then : (h v : ℕ) (m : List ℕ) (next : List ℕ → Option (List ℕ)) (m' : List ℕ)
    → and_then (marked h v m) next ≡ some m' ↔ ((get_or m (group_of h) 0 ≡ 0) × (next (set m (group_of h) v) ≡ some m'))
unfolding marked and_then
mark_then h v m next m' = (λ e. go (eqb (get_or m (group_of h) 0) 0) refl e, λ (z, e). rw (eq-eqb (get_or m (group_of h) 0) 0 z) e)
  where
    go : (t : Bool) → eqb (get_or m (group_of h) 0) 0 ≡ t → and_then (cond t (some (set m (group_of h) v)) none) next ≡ some m'
        → (get_or m (group_of h) 0 ≡ 0) × (next (set m (group_of h) v) ≡ some m')
    go true q e = (eqb-true _ _ q, e)
    go false q e = absurd (none-ne-some _ e)

module _ (used : ℕ) (ws : List ℕ) where
  -- THE TABLE

  -- "every handle .. locally sound"
  abbrev pub HandlesSound : List ℕ → Type 0
  HandlesSound hs = (slot : ℕ) → sound_handle used ws (handle_at hs slot) ≡ true

  sound_cons : (h : ℕ) (hs : List ℕ) → sound_handle used ws h ≡ true → HandlesSound hs → HandlesSound (h ∷ hs)
  sound_cons h hs e s zero = e
  sound_cons h hs e s (suc k) = s k

  -- the handles could be marked exactly where they are sound and their blocks' marks could be made
  handles_made : (slot : ℕ) (hs m m' : List ℕ) → handles_marked used ws slot hs m ≡ some m' → HandlesSound hs × Made (live_marks slot hs) m m'
  unfolding handles_marked live_marks sound_handle
  handles_made slot [] m m' e = (λ k. refl, cc)
  handles_made slot (zero ∷ hs) m m' e = let (s, a) = handles_made (suc slot) hs m m' e in (sound_cons 0 hs refl s, a)
  handles_made slot (suc b ∷ hs) m m' e =
      let h = suc b in
      let (s, r) = cond_some (sound_handle used ws h) e in
      let (z, d) = (mark_then h (live_mark slot) m (handles_marked used ws (suc slot) hs) m').0 (rw (ne_eqb h 0 (omega arith)) at r) in
      let (q, a) = handles_made (suc slot) hs (set m (group_of h) (live_mark slot)) m' d in
      (sound_cons h hs s q, (z, a))

  made_handles : (slot : ℕ) (hs m m' : List ℕ) → HandlesSound hs → Made (live_marks slot hs) m m' → handles_marked used ws slot hs m ≡ some m'
  unfolding handles_marked live_marks sound_handle
  made_handles slot [] m m' s a = ap some (sym a)
  made_handles slot (zero ∷ hs) m m' s a = made_handles (suc slot) hs m m' (λ k. s (suc k)) a
  made_handles slot (suc b ∷ hs) m m' s (z, a) =
      rw (s 0, ne_eqb (suc b) 0 (omega arith))
      ((mark_then (suc b) (live_mark slot) m (handles_marked used ws (suc slot) hs) m').1
      (z, made_handles (suc slot) hs (set m (group_of (suc b)) (live_mark slot)) m' (λ k. s (suc k)) a))

  -- THE CHAINS

  -- a chain could be marked exactly where it ends and its blocks' marks could be made
  chain_made : (most c h : ℕ) (m m' : List ℕ) → chain_marked used ws most c h m ≡ some m' → (bs : List ℕ) × Chain used ws c h bs × Made (free_marks c bs) m m'
  unfolding chain_marked free_marks
  chain_made zero c h m m' e = let (z, a) = cond_some (eqb h 0) e in ([], eqb-true h 0 z, cc)
  chain_made (suc most) c h m m' e = go (λ l. chain_made most c (get_or ws h 0) l m') (eq-zero-or-pos h)
    where
      go : ((l : List ℕ) → chain_marked used ws most c (get_or ws h 0) l ≡ some m'
          → (bs : List ℕ) × Chain used ws c (get_or ws h 0) bs × Made (free_marks c bs) l m')
          → (h ≡ 0) ⊎ (0 < h) → (bs : List ℕ) × Chain used ws c h bs × Made (free_marks c bs) m m'
      go rec (inl z) = let a : some m ≡ some m' = rw (eq-eqb h 0 z) at e in ([], z, cc)
      go rec (inr p) =
          let (s, r) = cond_some (sound_head used ws c h) (rw (ne_eqb h 0 (omega arith)) at e) in
          let (z, d) = (mark_then h (free_mark c) m (chain_marked used ws most c (get_or ws h 0)) m').0 r in
          let (bs, C, a) = rec (set m (group_of h) (free_mark c)) d in
          ((h - 1) ∷ bs, (omega arith, s, C), (z, a))

  made_chain : (most c h : ℕ) (bs m m' : List ℕ) → Chain used ws c h bs → length bs ≤ most
      → Made (free_marks c bs) m m' → chain_marked used ws most c h m ≡ some m'
  unfolding chain_marked free_marks
  made_chain zero c h [] m m' C l a = rw (eq-eqb h 0 C) (ap some (sym a))
  made_chain (suc most) c h [] m m' C l a = rw (eq-eqb h 0 C) (ap some (sym a))
  made_chain zero c h (b ∷ bs) m m' C l a = absurd (omega arith)
  made_chain (suc most) c h (b ∷ bs) m m' (e, s, C) l (z, a) =
      let g : b / 4 ≡ group_of h = omega arith in
      rw (ne_eqb h 0 (omega arith), s)
      ((mark_then h (free_mark c) m (chain_marked used ws most c (get_or ws h 0)) m').1
      (rw (← g) z, made_chain most c (get_or ws h 0) bs (set m (group_of h) (free_mark c)) m' C (le_of_suc-le-suc l) (rw (← g) a)))

  -- the chains of the heads, each of the class that f gives its place
  abbrev pub Chains : (ℕ → ℕ) → List ℕ → List (List ℕ) → Type 0
  Chains f heads fs = (k : ℕ) → Chain used ws (f k) (get_or heads k 0) (get_or fs k [])

  chains_cons : (f : ℕ → ℕ) (h : ℕ) (heads : List ℕ) (bs : List ℕ) (fs : List (List ℕ))
      → Chain used ws (f 0) h bs → Chains (λ k. f (suc k)) heads fs → Chains f (h ∷ heads) (bs ∷ fs)
  chains_cons f h heads bs fs C D zero = C
  chains_cons f h heads bs fs C D (suc k) = D k

  -- and so could all chains
  chains_made : (f : ℕ → ℕ) (c : ℕ) (heads m m' : List ℕ) → ((k : ℕ) → f k ≡ c + k) → chains_marked used ws c heads m ≡ some m'
      → (fs : List (List ℕ)) × (length fs ≡ length heads) × Chains f heads fs × Made (chain_marks c fs) m m'
  unfolding chains_marked chain_marks
  chains_made f c [] m m' n e = ([], refl, λ k. refl, cc)
  chains_made f c (h ∷ heads) m m' n e =
      let (k, d, r) = (then_some (chain_marked used ws (used / 4) c h m) (chains_marked used ws (suc c) heads) m').0 e in
      let (bs, C, a) = chain_made (used / 4) c h m k d in
      let (fs, l, D, b) = chains_made (λ j. f (suc j)) (suc c) heads k m' (λ j. omega (arith, n (suc j))) r in
      let z : f 0 ≡ c = omega (arith, n 0) in
      (bs ∷ fs, ap suc l, chains_cons f h heads bs fs (rw z C) D, (made_append (free_marks c bs) (chain_marks (suc c) fs) m m').1 (k, a, b))

  made_chains : (f : ℕ → ℕ) (c : ℕ) (heads : List ℕ) (fs : List (List ℕ)) (m m' : List ℕ)
      → ((k : ℕ) → f k ≡ c + k) → length fs ≡ length heads → Chains f heads fs
      → ((k : ℕ) → length (get_or fs k []) ≤ used / 4) → Made (chain_marks c fs) m m' → chains_marked used ws c heads m ≡ some m'
  unfolding chains_marked chain_marks
  made_chains f c [] [] m m' n e C l a = ap some (sym a)
  made_chains f c [] (bs ∷ fs) m m' n e C l a = absurd (omega arith)
  made_chains f c (h ∷ heads) [] m m' n e C l a = absurd (omega arith)
  made_chains f c (h ∷ heads) (bs ∷ fs) m m' n e C l a =
      let (k, b, d) = (made_append (free_marks c bs) (chain_marks (suc c) fs) m m').0 a in
      let z : f 0 ≡ c = omega (arith, n 0) in
      (then_some (chain_marked used ws (used / 4) c h m) (chains_marked used ws (suc c) heads) m').1 (
        k,
        made_chain (used / 4) c h bs m k (rw z at (C 0)) (l 0) b,
        made_chains (λ j. f (suc j)) (suc c) heads fs k m' (λ j. omega (arith, n (suc j))) (omega arith) (λ j. C (suc j)) (λ j. l (suc j)) d,
      )

-- THE WHOLE

-- The marks of all blocks, of the table's handles hs and of the free blocks fs.
abbrev pub marks_of : List ℕ → List (List ℕ) → List Mark
marks_of hs fs = live_marks 0 hs ++ chain_marks 0 fs

-- every handle locally sound, every pointer on each chain too, and the chains end: they pass the free blocks fs
pub record Walked (st : ListPool) (ws hs : List ℕ) (fs : List (List ℕ)) : Type 0 where
  pub classes : length fs ≡ length st.heads
  pub handles : HandlesSound st.used ws hs
  pub chains : (c : ℕ) → Chain st.used ws c (head_of st c) (get_or fs c [])

-- What it is that a map m is made m' and accepted.
pub record Accepted (st : ListPool) (ws hs : List ℕ) (fs : List (List ℕ)) (m m' : List ℕ) : Type 0 where
  pub walked : Walked st ws hs fs
  pub made : Made (marks_of hs fs) m m'
  pub sweeps : swept ws 0 0 (take (st.used / 4) m') ≡ true

-- It is that exactly: where no chain has more blocks than there are groups, which of a sound pool is so.
pub accepted_says : (st : ListPool) (ws hs m m' : List ℕ) → accepted st ws hs m ≡ some m' → (fs : List (List ℕ)) × Accepted st ws hs fs m m'
unfolding accepted
accepted_says st ws hs m m' e =
    let (k, a, d) = (then_some _ _ m').0 e in
    let (k', b, s) = (then_some _ _ m').0 d in
    let (t, z) = cond_some (swept ws 0 0 (take (st.used / 4) k')) s in
    let (h, x) = handles_made st.used ws 0 hs m k a in
    let (fs, l, C, y) = chains_made st.used ws (λ c. c) 0 st.heads k m' (λ c. omega arith) (b ∙ z) in
    let same : k' ≡ m' = cc in
    let y' = (made_append (live_marks 0 hs) (chain_marks 0 fs) m m').1 (k, x, y) in
    (fs, record { walked = record { classes = l; handles = h; chains = C }; made = y'; sweeps = rw same at t })

pub accepted_when : (st : ListPool) (ws hs : List ℕ) (fs : List (List ℕ)) (m m' : List ℕ)
    → Accepted st ws hs fs m m' → ((c : ℕ) → length (get_or fs c []) ≤ st.used / 4)
    → accepted st ws hs m ≡ some m'
unfolding accepted
accepted_when st ws hs fs m m' A l =
    let (k, x, y) = (made_append (live_marks 0 hs) (chain_marks 0 fs) m m').0 A.made in
    (then_some _ _ m').1 (
      k,
      made_handles st.used ws 0 hs m k A.walked.handles x,
      (then_some _ _ m').1 (
        m',
        made_chains st.used ws (λ c. c) 0 st.heads fs k m' (λ c. omega arith) A.walked.classes A.walked.chains l y,
        rw A.sweeps,
      ),
    )
