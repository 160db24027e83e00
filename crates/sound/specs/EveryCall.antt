-- What stands after a call: the definition that the theorem of every call cites, which is in proofs/EveryCall.antt.
use Rattle.std.specs.Prelude.{length}
use Rattle.pool.specs.Rules.{Outcome}
use Rattle.pool.specs.Facts.{Within}
use Rattle.sound.specs.Sound.{Sound}

-- a sound pool within paper 01's limits, after a call
abbrev pub SoundAfter : Outcome → Type 0
SoundAfter o = Sound o.answer.state o.words o.handles × Within o.answer.state.used (length o.words) (length o.handles)
