-- The numbers of refusals: paper 01's table.
use Rattle.std.specs.Prelude.{ℕ, Result, Ok, Err}
use Rattle.pool.specs.declared.Refusal.{Refusal}
use Rattle.pool.specs.declared.Refusal.TheVariants.{OverLimit, NoSlot, UnsoundHandle, OutsideList, SlotsClash, UnsoundHead, NoRoom, ShortMap, NotSound}

-- "Whenever an answer is an enum, a definition gives this paper's number and values for each of the enum's cases."
abbrev pub refusal_number : Refusal → ℕ
refusal_number OverLimit = 1
refusal_number NoSlot = 2
refusal_number UnsoundHandle = 3
refusal_number OutsideList = 4
refusal_number SlotsClash = 5
refusal_number UnsoundHead = 6
refusal_number NoRoom = 7
refusal_number ShortMap = 8
refusal_number NotSound = 9

-- the number that a check comes to: 0 where it passes
abbrev pub check_number : {A : Type 0} → Result A Refusal → ℕ
check_number (Ok a) = 0
check_number (Err refusal) = refusal_number refusal
