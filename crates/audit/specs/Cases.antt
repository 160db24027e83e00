-- The four ways an audit ends, in 01's order: over a limit, the map too short, accepted, not accepted.
use Rattle.std.specs.Prelude.{◌≡◌, Bool, true, List, ℕ, ◌/◌, ◌≤◌, ◌<◌, get_or, replicate}
use Rattle.std.proofs.Math.Path.{refl}
use Rattle.std.proofs.Common.{ap, zero-add, arith, lt-ltb, le-ltb}
use Rattle.std.proofs.Math.Bool.{false}
use Rattle.std.proofs.Math.Option.{Option, none, some}
use Rattle.std.proofs.Math.Decide.{dec_lt}
use Rattle.std.proofs.Math.ListN.{length}
use Rattle.std.proofs.lemmas.List.{length-replicate}
use Rattle.words.specs.Runs.{filled}
use Rattle.words.specs.RunLaws.{length_filled, get_or_filled_within, get_or_sets_above}
use Rattle.pool.specs.declared.ListPool.{ListPool}
use Rattle.pool.specs.Numbers.{◌or_else◌, given, over_limit}
use Rattle.pool.specs.Rules.{answer}
use Rattle.pool.specs.Facts.{Within}
use Rattle.pool.proofs.Facts.{within_facts}
use Rattle.audit.specs.Audit.{Audited, audited, accepted, audit_number, verdict, audit}
use Rattle.audit.specs.Covers.{Clean}

-- the map that is marked: its first used / 4 words are 0
abbrev pub cleaned : ListPool → List ℕ → List ℕ
cleaned st map = filled map 0 (st.used / 4) 0

module _ (st : ListPool) (ws hs map : List ℕ) where
  -- it answers n and leaves the map m
  pub record Ends (n : ℕ) (m : List ℕ) : Type 0 where
    pub answers : (audit st ws hs map).answer ≡ answer n 0 st
    pub number : (audit st ws hs map).answer.number ≡ n
    pub leaves : (audit st ws hs map).map ≡ m

  ends : {n : ℕ} {m : List ℕ} → audit st ws hs map ≡ audited (answer n 0 st) m → Ends n m
  ends e = record { answers = ap (λ (a : Audited). a.answer) e; number = ap (λ (a : Audited). a.answer.number) e; leaves = ap (λ (a : Audited). a.map) e }

  pub data Case : Type 0 where
    limit : over_limit st.used (length ws) (length hs) ≡ true → Ends 1 map → Case
    short : Within st.used (length ws) (length hs) → length map < st.used / 4 → Ends 8 map → Case
    accepts : Within st.used (length ws) (length hs) → st.used / 4 ≤ length map
        → (m : List ℕ) → accepted st ws hs (cleaned st map) ≡ some m → Ends 0 m → Case
    refuses : Within st.used (length ws) (length hs) → st.used / 4 ≤ length map → accepted st ws hs (cleaned st map) ≡ none → Ends 9 (cleaned st map) → Case

  pub audit_case : Case
  unfolding audit audit_number verdict given ◌or_else◌
  audit_case = outer (over_limit st.used (length ws) (length hs)) refl
    where
      inner : over_limit st.used (length ws) (length hs) ≡ false → st.used / 4 ≤ length map
          → (o : Option (List ℕ)) → accepted st ws hs (cleaned st map) ≡ o → Case
      inner e l (some m) a = accepts (within_facts _ _ _ e) l m a (ends (rw (e, le-ltb (length map) (st.used / 4) l, a)))
      inner e l none a = refuses (within_facts _ _ _ e) l a (ends (rw (e, le-ltb (length map) (st.used / 4) l, a)))

      middle : over_limit st.used (length ws) (length hs) ≡ false → Dec (length map < st.used / 4) → Case
      middle e (yes l) = short (within_facts _ _ _ e) l (ends (rw (e, lt-ltb (length map) (st.used / 4) l)))
      middle e (no n) = inner e (omega arith) (accepted st ws hs (cleaned st map)) refl

      outer : (t : Bool) → over_limit st.used (length ws) (length hs) ≡ t → Case
      outer true e = limit e (ends (rw e))
      outer false e = middle e (dec_lt (length map) (st.used / 4))

-- the map that is marked is clean, and past its first words it is as it was
pub cleaned_clean : (st : ListPool) (map : List ℕ) → st.used / 4 ≤ length map → Clean (st.used / 4) (cleaned st map)
cleaned_clean st map l =
    record {
      room = rw length_filled l;
      zeros = λ g b. rw (← (zero-add g)) (get_or_filled_within map 0 (st.used / 4) 0 g b (omega arith));
    }

pub cleaned_past : (st : ListPool) (map : List ℕ) (g : ℕ) → st.used / 4 ≤ g → get_or (cleaned st map) g 0 ≡ get_or map g 0
unfolding filled
cleaned_past st map g l = get_or_sets_above map 0 (replicate (st.used / 4) 0) g (rw length-replicate (omega arith))
