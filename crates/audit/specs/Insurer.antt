-- The insurer's theorem: if the audit answers 0, then what a slot's list counts and reports lies in a block that belongs to that slot and to no
-- other slot and no chain.
use Rattle.std.specs.Prelude.{◌≡◌, List, ◌≢◌, ℕ, ◌+◌, ◌<◌, length, get_or}
use Rattle.std.proofs.Common.{arith}
use Rattle.sizes.specs.Class.{class_count}
use Rattle.sizes.proofs.Laws.{class_holds}
use Rattle.pool.specs.declared.ListPool.{ListPool}
use Rattle.pool.specs.Numbers.{handle_at}
use Rattle.pool.specs.Rules.{len_of, len, get, done, called}
use Rattle.pool.specs.Facts.{Within}
use Rattle.pool.proofs.Facts.{list_at_lem}
use Rattle.sound.specs.Sound.{Cut, lists, list_at}
use Rattle.sound.proofs.SoundBut.{handle_inside}
use Rattle.sound.specs.CutProperties.{Lies}
use Rattle.sound.specs.CutProperties.{live, free}
use Rattle.sound.proofs.CutProperties.{blocks_apart}
use Rattle.sound.proofs.Changes.{list_element, length_list}
use Rattle.sound.proofs.EveryCall.{its_lists}
use Rattle.sound.proofs.Reading.{len_reads, get_reads}
use Rattle.audit.specs.Audit.{audit}
use Rattle.audit.specs.Exact.{audit_zero}

-- the word i lies in the block of the slot, in that of no other slot, and in no free block of any chain
pub record Belongs (ws hs : List ℕ) (fs : List (List ℕ)) (slot i : ℕ) : Type 0 where
  pub own : Lies ws hs fs i (live slot)
  pub no_other : (other : ℕ) → other ≢ slot → Lies ws hs fs i (live other) → ⊥
  pub no_chain : (c k : ℕ) → Lies ws hs fs i (free c k) → ⊥

-- an element's word lies in its own list's block
element_lies : {st : ListPool} {ws hs : List ℕ} {fs : List (List ℕ)} → Within st.used (length ws) (length hs) → Cut st ws hs fs
    → (slot p : ℕ) → p < len_of ws hs slot → Lies ws hs fs (handle_at hs slot + p) (live slot)
element_lies {st} {ws} {hs} W C slot p l =
    let at = list_at_lem st.used ws (handle_at hs slot) W.below W.pool_within (C.handles slot) in
    let some = at.some (omega arith) in
    let block = at.block (omega arith) in
    let fits = class_holds (len_of ws hs slot) (omega arith) in
    record { block = (handle_inside hs slot some, λ z. omega arith); from = omega arith; to = omega arith }

-- The insurer's question, as a theorem. If the audit answers 0, then there is a way to cut the used words into live and free blocks, by `cut_unique` only
-- one, and in it for every slot of the table `len` answers a count n, and for each of the n positions p `get` answers the word at handle + p, which
-- belongs to that slot: n different places, in the block of that slot, and in that of no other slot and of no chain.
pub count_belongs : (st : ListPool) (ws hs map : List ℕ) → length st.heads ≡ class_count → (audit st ws hs map).answer.number ≡ 0
    → (fs : List (List ℕ)) × Cut st ws hs fs
    × ((slot : ℕ) → slot < length hs
    → (n : ℕ) × (called (len slot) st ws hs ≡ done n st ws hs)
    × ((p : ℕ) → p < n
    → (called (get slot p) st ws hs ≡ done (get_or ws (handle_at hs slot + p) 0) st ws hs)
    × Belongs ws hs fs slot (handle_at hs slot + p)))
count_belongs st ws hs map heads zero =
    let (W, room, (fs, C)) = (audit_zero st ws hs map heads).0 zero in
    let H = its_lists (fs, C) W in (
      fs,
      C,
      λ slot b. (
        length (list_at (lists ws hs) slot),
        len_reads H slot b,
        λ p l.
            let inside : p < len_of ws hs slot = omega (arith, length_list H slot) in
            let own = element_lies W C slot p inside in (
              rw (list_element H slot p inside) (get_reads H slot p b l),
              record {
                own = own;
                no_other = λ other ne M. blocks_apart C (live other) (live slot) (λ e. ne (cc)) (handle_at hs slot + p) M own;
                no_chain = λ c k M. blocks_apart C (free c k) (live slot) (λ e. let z : ◌≡◌ {A = ℕ} 0 1 = cc in omega arith) (handle_at hs slot + p) M own;
              },
            ),
      ),
    )
