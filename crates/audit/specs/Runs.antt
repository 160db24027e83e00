-- Any sequence of calls and audits from a cleared pool, with writes to list elements in between by anybody, ends sound and accepted.
use Rattle.std.specs.Prelude.{◌≡◌, List, ℕ, ◌+◌, ◌/◌, ◌≤◌, ◌<◌, length, set}
use Rattle.std.proofs.Common.{ap}
use Rattle.pool.specs.declared.Answer.{Answer}
use Rattle.pool.specs.declared.ListPool.{ListPool}
use Rattle.pool.specs.declared.Part.{Part}
use Rattle.pool.specs.Numbers.{pool_limit, table_limit}
use Rattle.pool.specs.Rules.{Outcome, outcome, part, Call, clear_pool, called}
use Rattle.sound.proofs.Cleared.{cleared_holds}
use Rattle.sound.proofs.SetAndTake.{write_holds}
use Rattle.sound.specs.EveryCall.{SoundAfter}
use Rattle.sound.proofs.EveryCall.{its_lists, call_keeps_sound}
use Rattle.audit.specs.Audit.{audit}
use Rattle.audit.specs.Exact.{audit_answer, audit_exact}

-- the part of the pool that `as_mut_slice` gives of a slot, at some point of a sequence
abbrev pub part_of : Outcome → ℕ → Part
part_of o slot = part o.answer.state o.words o.handles slot

-- What is reached from a cleared pool: the words, the table and the state before the clearing may be anything within the limits.
-- Each call is given what the last left, whatever that answered. A call that reads is a step as any other; `part` and `as_slice` need none: they are
-- lent pool and table to read, and hand no state back. What is written through `as_mut_slice` is `write`, a step for each word; that it writes nothing itself
-- is in no contract (docs/PROVED.md).
pub data Reached : Outcome → Type 0 where
  start : (st : ListPool) (ws hs : List ℕ) → length ws ≤ pool_limit → length hs ≤ table_limit → Reached (called clear_pool st ws hs)
  step : {o : Outcome} (call : Call) → Reached o → Reached (called call o.answer.state o.words o.handles)
  -- an audit with any map: it is lent pool and table to read, and hands a state back
  audits : {o : Outcome} (map : List ℕ) → Reached o
      → Reached (outcome (audit o.answer.state o.words o.handles map).answer o.words o.handles)
  -- anybody writes x at the position p of such a part
  write : {o : Outcome} (slot p x : ℕ) → Reached o → (part_of o slot).start + p < (part_of o slot).end
      → Reached (outcome o.answer (set o.words ((part_of o slot).start + p) x) o.handles)

-- "any sequence of calls from a cleared pool, each given what the last left, with writes to list elements in between by anybody, ends sound"
pub reached_sound : {o : Outcome} → Reached o → SoundAfter o
reached_sound (start st ws hs pool table) = let H = cleared_holds st ws hs pool table in (H.sound, H.within)
reached_sound (step call r) = let (s, w) = reached_sound r in call_keeps_sound s w call
reached_sound (audits {o} map r) =
    let same = ap (λ (a : Answer). a.state) (audit_answer o.answer.state o.words o.handles map) in
    rw same (reached_sound r)
reached_sound (write slot p x r before) =
    let (s, w) = reached_sound r in
    let H = write_holds (its_lists s w) slot p x before in
    (H.sound, H.within)

-- "from a cleared pool any sequence of calls ends accepted": and so each audit on the way, given map enough
pub reached_accepted : {o : Outcome} → Reached o → (map : List ℕ) → o.answer.state.used / 4 ≤ length map
    → (audit o.answer.state o.words o.handles map).answer.number ≡ 0
reached_accepted {o} r map room =
    let (s, w) = reached_sound r in
    (audit_exact o.answer.state o.words o.handles map w s.1.heads room).1 s
