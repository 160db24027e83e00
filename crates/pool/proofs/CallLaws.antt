-- How the code's steps make up the rules of the calls.
use Rattle.std.specs.Prelude.{ℕ, ◌+◌, ◌-◌, ◌≤◌, ◌<◌, ◌≡◌, refl, List, length, set}
use Rattle.std.proofs.Common.{ap, ◌∙◌, ⊎_elim, get_or-set_same, eq-eqb, ne_eqb, le-leb, eq-zero-or-pos, arith, add-zero}
use Rattle.std.proofs.lemmas.Bool.{lt-leb}
use Rattle.pool.specs.declared.ListPool.{ListPool}
use Rattle.pool.specs.declared.Answer.{Answer}
use Rattle.pool.specs.Numbers.{handle_at}
use Rattle.pool.specs.Blocks.{Taken, moved}
use Rattle.pool.specs.Rules.{Outcome, outcome, answer, done, len_of, seated, cleared, last_removed, grown, clear_done, push_done, truncate_done}
use Rattle.pool.specs.Rules.{from_slice_done, extend_done}
use Rattle.pool.specs.Steps.{Meets, ListAt, resized}

-- a list that was seated in a block that holds it
seated_meets : (p value : ℕ) (m : Taken) (hs : List ℕ) (slot n : ℕ) {r : Answer} {after tabled : List ℕ} → slot < length hs → m.block + (n + 1) ≤ p
    → r ≡ answer 0 value m.state → after ≡ set m.words m.block n → tabled ≡ set hs slot (m.block + 1)
    → Meets p (seated value m hs slot n) slot n r after tabled
seated_meets p value m hs slot n inside ends e f g =
    record {
      is = rw (e, f, g);
      ends = rw (g, get_or-set_same hs slot (m.block + 1) 0 inside) (omega arith);
    }

-- push meets its rule, in the block that the list ends in: its own, or one that was taken
pub push_meets : (p : ℕ) (st : ListPool) (ws hs : List ℕ) (slot x old : ℕ) (m : Taken) {r : Answer} {after tabled : List ℕ} → slot < length hs
    → old ≡ len_of ws hs slot → m ≡ moved st ws (handle_at hs slot) old (old + 1) → m.block + (old + 1 + 1) ≤ p
    → r ≡ answer 0 old m.state → after ≡ set (set m.words (m.block + (old + 1)) x) m.block (old + 1) → tabled ≡ set hs slot (m.block + 1)
    → Meets p (push_done st ws hs slot x) slot (len_of ws hs slot + 1) r after tabled
unfolding push_done
push_meets p st ws hs slot x old m inside l e ends re ae te =
    rw (← l, ← e)
    (seated_meets p old (record { block = m.block; state = m.state; words = set m.words (m.block + (old + 1)) x }) hs slot (old + 1) inside ends re ae te)

-- a resize meets its rule: the list gives its block up
pub released_meets : (p : ℕ) (st : ListPool) (ws hs : List ℕ) (slot h old new : ℕ) {r : Answer} {after tabled : List ℕ} → slot < length hs → new ≡ 0 → 1 ≤ h
    → outcome r after tabled ≡ cleared st ws hs slot h old → Meets p (resized st ws hs slot h old new) slot new r after tabled
unfolding resized cleared
released_meets p st ws hs slot h old new inside none some e =
    record {
      is = rw (eq-eqb new 0 none) e;
      ends = rw (ap (λ (o : Outcome). o.handles) e, ne_eqb h 0 (omega arith), get_or-set_same hs slot 0 0 inside, none) (omega arith);
    }

-- or it gets at least one element, in the block that it ends in
pub resized_meets : (p : ℕ) (st : ListPool) (ws hs : List ℕ) (slot h old new : ℕ) (m : Taken) {r : Answer} {after tabled : List ℕ}
    → slot < length hs → (new ≡ 0 → ⊥)
    → m ≡ moved st ws h old new → m.block + (new + 1) ≤ p
    → r ≡ answer 0 0 m.state → after ≡ set m.words m.block new → tabled ≡ set hs slot (m.block + 1)
    → Meets p (resized st ws hs slot h old new) slot new r after tabled
unfolding resized
resized_meets p st ws hs slot h old new m inside some e ends re ae te =
    rw (ne_eqb new 0 some, ← e) (seated_meets p 0 m hs slot new inside ends re ae te)

-- one element less
pub last_resized : (st : ListPool) (ws hs : List ℕ) (slot h old : ℕ) → 1 ≤ old → last_removed st ws hs slot h old ≡ resized st ws hs slot h old (old - 1)
unfolding last_removed resized
last_resized st ws hs slot h old some =
    ⊎_elim
    (λ z. rw (eq-eqb old 1 (omega arith), eq-eqb (old - 1) 0 z) refl)
    (λ p. rw (ne_eqb old 1 (omega arith), ne_eqb (old - 1) 0 (omega arith)) refl)
    (eq-zero-or-pos (old - 1))

-- some elements more, or an empty list's first ones
pub grown_resized : (st : ListPool) (ws hs : List ℕ) (slot count : ℕ) → (len_of ws hs slot + count ≡ 0 → ⊥)
    → grown st ws hs slot count ≡ resized st ws hs slot (handle_at hs slot) (len_of ws hs slot) (len_of ws hs slot + count)
unfolding grown resized
grown_resized st ws hs slot count some = rw (ne_eqb (len_of ws hs slot + count) 0 some) refl

-- fewer elements
pub truncate_resized : (st : ListPool) (ws hs : List ℕ) (slot new : ℕ) → new < len_of ws hs slot
    → truncate_done st ws hs slot new ≡ resized st ws hs slot (handle_at hs slot) (len_of ws hs slot) new
unfolding truncate_done clear_done resized
truncate_resized st ws hs slot new fewer =
    ⊎_elim
    (λ z. rw (eq-eqb new 0 z) refl)
    (λ p. rw (ne_eqb new 0 (omega arith), lt-leb (len_of ws hs slot) new fewer) refl)
    (eq-zero-or-pos new)

-- no fewer: an empty list is truncated to 0 too, and has no block to give up
pub truncate_none : (p : ℕ) (st : ListPool) (ws hs : List ℕ) (slot new : ℕ) → ListAt p (handle_at hs slot) (len_of ws hs slot) → len_of ws hs slot ≤ new
    → truncate_done st ws hs slot new ≡ done 0 st ws hs
unfolding truncate_done clear_done cleared
truncate_none p st ws hs slot new l most =
    ⊎_elim
    (λ z.
    let empty : handle_at hs slot ≡ 0 = ⊎_elim (λ e. e) (λ some. absurd (omega (arith, l.live some))) (eq-zero-or-pos (handle_at hs slot)) in
    rw (eq-eqb new 0 z, eq-eqb (handle_at hs slot) 0 empty) refl)
    (λ p. rw (ne_eqb new 0 (omega arith), le-leb (len_of ws hs slot) new most) refl)
    (eq-zero-or-pos new)

-- words written after a step, at a place of the list it left
pub outcome_written : (f : List ℕ → List ℕ → List ℕ) {r : Answer} {after tabled written : List ℕ} {o : Outcome}
    → outcome r after tabled ≡ o → written ≡ f after tabled
    → outcome r written tabled ≡ outcome o.answer (f o.words o.handles) o.handles
outcome_written f {r} {tabled = tabled} e w =
    ap (λ (l : List ℕ). outcome r l tabled) w ∙ ap (λ (o : Outcome). outcome o.answer (f o.words o.handles) o.handles) e

-- a list put into an empty slot is the empty list extended
pub put_extended : (st : ListPool) (ws hs : List ℕ) (slot : ℕ) (xs : List ℕ) → len_of ws hs slot ≡ 0
    → extend_done st ws hs slot xs ≡ from_slice_done st ws hs slot xs
unfolding extend_done from_slice_done
put_extended st ws hs slot xs none = rw (none, add-zero) refl
