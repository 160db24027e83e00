-- `check_entries` meets its contract: 1, 2 and 3 in their order, each for both slots.
use Rattle.pool.specs.Numbers.{◌or_else◌, given, entry_number₂}
use Rattle.pool.proofs.Tests.{tests}
use Rattle.pool.proofs.ListPool.check_entries.Goals as goal
use Rattle.pool.proofs.ListPool.check_entries.Goals.{then-slot-handles-via-then-slot-handles, then-slot-handles-via-else-slot-handles+then-other-handles}
use Rattle.pool.proofs.ListPool.check_entries.Goals.{then-not-sound_handle-via-then-not-sound_handle, then-not-sound_handle-via-else-not-sound_handle+then-not-sound_handle-2}

pub returns-then-over_limit : goal.returns-then-over_limit
unfolding entry_number₂ given ◌or_else◌
returns-then-over_limit c = search (tests, ← c.over_limit.ensures, c.if-over_limit.true)

pub returns-then-slot-handles : goal.returns-then-slot-handles
unfolding entry_number₂ given ◌or_else◌
returns-then-slot-handles c =
    elim c.then-slot-handles.branch [
      | then-slot-handles-via-then-slot-handles w ↦ search (tests, ← c.over_limit.ensures, c.if-over_limit.false)
      | then-slot-handles-via-else-slot-handles+then-other-handles w ↦ search (tests, ← c.over_limit.ensures, c.if-over_limit.false)
    ]

pub returns-then-not-sound_handle : goal.returns-then-not-sound_handle
unfolding entry_number₂ given ◌or_else◌
returns-then-not-sound_handle c =
    elim c.then-not-sound_handle.branch [
      | then-not-sound_handle-via-then-not-sound_handle w ↦ search (tests, ← c.over_limit.ensures, c.if-over_limit.false, ← c.sound_handle.ensures, w.if-not-sound_handle.true)
      | then-not-sound_handle-via-else-not-sound_handle+then-not-sound_handle-2 w ↦ search (tests, ← c.over_limit.ensures, c.if-over_limit.false, ← c.sound_handle.ensures, w.if-not-sound_handle.false, ← w.sound_handle-else-not-sound_handle.ensures, w.if-not-sound_handle-2.true)
    ]

pub returns : goal.returns
unfolding entry_number₂ given ◌or_else◌
returns c =
    let second = c.sound_handle-else-not-sound_handle.ensures in
    search (tests, ← c.over_limit.ensures, c.if-over_limit.false, ← c.sound_handle.ensures, c.if-not-sound_handle.false, ← second, c.if-not-sound_handle-2.false)
