-- The mark of every place: the marks of a pool's blocks are those of its places, each at the first group of the block there.
use Rattle.std.specs.Prelude.{◌≡◌, refl, ◌≢◌, ◌⊎◌, ℕ, zero, suc, ◌+◌, ◌/◌, ◌%◌, ◌<◌, length, get_or}
use Rattle.std.proofs.Common.{sym, ap, ◌∙◌, inl, inr, arith}
use mathlib.Core.List.Memᴰ
use mathlib.Core.List.{Memᴰ}
use Rattle.std.specs.Prelude.{List, [], ◌∷◌}
use Rattle.sizes.specs.Class.{class_count}
use Rattle.pool.specs.declared.ListPool.{ListPool}
use Rattle.pool.specs.Numbers.{head_of, handle_at}
use Rattle.pool.proofs.Facts.{handle_facts, head_facts}
use Rattle.sound.specs.Sound.{Chain, Cut}
use Rattle.sound.specs.CutProperties.{Place, Block, start_of}
use Rattle.sound.specs.CutProperties.{live, free}
use Rattle.audit.specs.Audit.{live_mark, free_mark, group_of}
use Rattle.audit.specs.Marks.{Mark, mark}
use Rattle.audit.specs.Walks.{live_marks, free_marks, chain_marks, marks_of}

-- "slot + 1 (live) or 2,147,483,648 + class (free)"
abbrev pub mark_of : Place → ℕ
mark_of (live slot) = live_mark slot
mark_of (free c k) = free_mark c

-- EVERY PLACE HAS ITS MARK

live_mark_lem : (base : ℕ) (hs : List ℕ) (slot v : ℕ) → handle_at hs slot ≢ 0 → v ≡ live_mark (base + slot)
    → Memᴰ (mark (group_of (handle_at hs slot)) v) (live_marks base hs)
unfolding live_marks
live_mark_lem base [] slot v ne e = absurd (ne refl)
live_mark_lem base (zero ∷ hs) zero v ne e = absurd (ne refl)
live_mark_lem base (zero ∷ hs) (suc slot) v ne e = live_mark_lem (suc base) hs slot v ne (omega arith)
live_mark_lem base (suc b ∷ hs) zero v ne e = let s : v ≡ live_mark base = omega arith in Memᴰ.head (ap (mark (group_of (suc b))) s)
live_mark_lem base (suc b ∷ hs) (suc slot) v ne e = Memᴰ.tail (live_mark_lem (suc base) hs slot v ne (omega arith))

free_mark_lem : (c : ℕ) (bs : List ℕ) (k v : ℕ) → k < length bs → v ≡ free_mark c → Memᴰ (mark (get_or bs k 0 / 4) v) (free_marks c bs)
unfolding free_marks
free_mark_lem c [] k v l e = absurd (omega arith)
free_mark_lem c (b ∷ bs) zero v l e = Memᴰ.head (ap (mark (b / 4)) e)
free_mark_lem c (b ∷ bs) (suc k) v l e = Memᴰ.tail (free_mark_lem c bs k v (omega arith) e)

chain_mark : (base : ℕ) (fs : List (List ℕ)) (c k v : ℕ) → k < length (get_or fs c []) → v ≡ free_mark (base + c)
    → Memᴰ (mark (get_or (get_or fs c []) k 0 / 4) v) (chain_marks base fs)
unfolding chain_marks
chain_mark base [] c k v l e = absurd (omega arith)
chain_mark base (bs ∷ fs) zero k v l e = Memᴰ.append_left (chain_marks (suc base) fs) (free_mark_lem base bs k v l (omega arith))
chain_mark base (bs ∷ fs) (suc c) k v l e = Memᴰ.append_right (free_marks base bs) (chain_mark (suc base) fs c k v l (omega arith))

pub place_mark : (hs : List ℕ) (fs : List (List ℕ)) (p : Place) → Block hs fs p → Memᴰ (mark (start_of hs fs p / 4) (mark_of p)) (marks_of hs fs)
place_mark hs fs (live slot) (l, ne) = Memᴰ.append_left (chain_marks 0 fs) (live_mark_lem 0 hs slot (live_mark slot) ne (omega arith))
place_mark hs fs (free c k) (l, n) = Memᴰ.append_right (live_marks 0 hs) (chain_mark 0 fs c k (free_mark c) n (omega arith))

-- AND EVERY MARK ITS PLACE

mark_live : (base : ℕ) (hs : List ℕ) (x : Mark) → Memᴰ x (live_marks base hs)
    → (slot : ℕ) × (slot < length hs) × (handle_at hs slot ≢ 0) × (group_of (handle_at hs slot) ≡ x.group) × (x.word ≡ live_mark (base + slot))
unfolding live_marks
mark_live base [] x i = absurd (Memᴰ.not-nil i)
mark_live base (zero ∷ hs) x i = let (s, l, ne, g, e) = mark_live (suc base) hs x i in (suc s, omega arith, ne, g, omega arith)
mark_live base (suc b ∷ hs) x i = go (λ j. mark_live (suc base) hs x j) (Memᴰ.cases_cons i)
  where
    go : (Memᴰ x (live_marks (suc base) hs)
        → (slot : ℕ) × (slot < length hs) × (handle_at hs slot ≢ 0)
        × (group_of (handle_at hs slot) ≡ x.group) × (x.word ≡ live_mark (suc base + slot)))
        → (x ≡ mark (group_of (suc b)) (live_mark base)) ⊎ Memᴰ x (live_marks (suc base) hs)
        → (slot : ℕ) × (slot < suc (length hs)) × (handle_at (suc b ∷ hs) slot ≢ 0)
        × (group_of (handle_at (suc b ∷ hs) slot) ≡ x.group) × (x.word ≡ live_mark (base + slot))
    go rec (inl e) = (0, omega arith, λ z. omega arith, sym (ap (λ (y : Mark). y.group) e), ap (λ (y : Mark). y.word) e ∙ omega arith)
    go rec (inr j) = let (s, l, ne, g, e) = rec j in (suc s, omega arith, ne, g, omega arith)

mark_free : (c : ℕ) (bs : List ℕ) (x : Mark) → Memᴰ x (free_marks c bs) → (k : ℕ) × (k < length bs) × (get_or bs k 0 / 4 ≡ x.group) × (x.word ≡ free_mark c)
unfolding free_marks
mark_free c [] x i = absurd (Memᴰ.not-nil i)
mark_free c (b ∷ bs) x i = go (λ j. mark_free c bs x j) (Memᴰ.cases_cons i)
  where
    go : (Memᴰ x (free_marks c bs) → (k : ℕ) × (k < length bs) × (get_or bs k 0 / 4 ≡ x.group) × (x.word ≡ free_mark c))
        → (x ≡ mark (b / 4) (free_mark c)) ⊎ Memᴰ x (free_marks c bs)
        → (k : ℕ) × (k < suc (length bs)) × (get_or (b ∷ bs) k 0 / 4 ≡ x.group) × (x.word ≡ free_mark c)
    go rec (inl e) = (0, omega arith, sym (ap (λ (y : Mark). y.group) e), ap (λ (y : Mark). y.word) e)
    go rec (inr j) = let (k, l, g, e) = rec j in (suc k, omega arith, g, e)

mark_chain : (base : ℕ) (fs : List (List ℕ)) (x : Mark) → Memᴰ x (chain_marks base fs)
    → (c k : ℕ) × (c < length fs) × (k < length (get_or fs c [])) × (get_or (get_or fs c []) k 0 / 4 ≡ x.group) × (x.word ≡ free_mark (base + c))
unfolding chain_marks
mark_chain base [] x i = absurd (Memᴰ.not-nil i)
mark_chain base (bs ∷ fs) x i = go (λ j. mark_chain (suc base) fs x j) (Memᴰ.append_cases (free_marks base bs) i)
  where
    go : (Memᴰ x (chain_marks (suc base) fs)
        → (c k : ℕ) × (c < length fs) × (k < length (get_or fs c []))
        × (get_or (get_or fs c []) k 0 / 4 ≡ x.group) × (x.word ≡ free_mark (suc base + c)))
        → Memᴰ x (free_marks base bs) ⊎ Memᴰ x (chain_marks (suc base) fs)
        → (c k : ℕ) × (c < suc (length fs)) × (k < length (get_or (bs ∷ fs) c []))
        × (get_or (get_or (bs ∷ fs) c []) k 0 / 4 ≡ x.group) × (x.word ≡ free_mark (base + c))
    go rec (inl j) = let (k, l, g, e) = mark_free base bs x j in (0, k, omega arith, l, g, omega arith)
    go rec (inr j) = let (c, k, n, l, g, e) = rec j in (suc c, k, omega arith, l, g, omega arith)

pub mark_place : (hs : List ℕ) (fs : List (List ℕ)) (x : Mark) → length fs ≡ class_count → Memᴰ x (marks_of hs fs)
    → (p : Place) × Block hs fs p × (start_of hs fs p / 4 ≡ x.group) × (x.word ≡ mark_of p)
mark_place hs fs x n i = go (Memᴰ.append_cases (live_marks 0 hs) i)
  where
    go : Memᴰ x (live_marks 0 hs) ⊎ Memᴰ x (chain_marks 0 fs) → (p : Place) × Block hs fs p × (start_of hs fs p / 4 ≡ x.group) × (x.word ≡ mark_of p)
    go (inl j) = let (s, l, ne, g, e) = mark_live 0 hs x j in (live s, (l, ne), g, omega arith)
    go (inr j) = let (c, k, b, l, g, e) = mark_chain 0 fs x j in (free c k, (omega arith, l), g, omega arith)

-- BLOCKS START AT GROUPS

chain_fours : (used : ℕ) (ws : List ℕ) (c h : ℕ) (bs : List ℕ) (k : ℕ) → Chain used ws c h bs → k < length bs → get_or bs k 0 % 4 ≡ 0
chain_fours used ws c h [] k C l = absurd (omega arith)
chain_fours used ws c h (b ∷ bs) zero (e, s, C) l = omega (arith, (head_facts used ws c h s (omega arith)).one)
chain_fours used ws c h (b ∷ bs) (suc k) (e, s, C) l = chain_fours used ws c (get_or ws h 0) bs k C (omega arith)

pub start_fours : {st : ListPool} {ws hs : List ℕ} {fs : List (List ℕ)} → Cut st ws hs fs → (p : Place) → Block hs fs p → start_of hs fs p % 4 ≡ 0
start_fours {st} {ws} {hs} C (live slot) (l, ne) = omega (arith, (handle_facts st.used ws (handle_at hs slot) (C.handles slot) (omega arith)).one)
start_fours {st} {ws} {hs} {fs} C (free c k) (l, n) = chain_fours st.used ws c (head_of st c) (get_or fs c []) k (C.chains c) n
