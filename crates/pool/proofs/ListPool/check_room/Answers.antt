-- `check_room` meets its contract: 6 and 7 in their order.
use Rattle.std.proofs.Common.{le-leb, le-ltb, eq-eqb, arith}
use Rattle.sizes.proofs.Laws.{class_below}
use Rattle.pool.specs.Numbers.{◌or_else◌, given, bad_head, no_room, room_number}
use Rattle.pool.proofs.Tests.{tests}
use Rattle.pool.proofs.ListPool.check_room.Goals as goal

pub returns-then-n-gt-LONGEST : goal.returns-then-n-gt-LONGEST
unfolding room_number bad_head no_room given ◌or_else◌
returns-then-n-gt-LONGEST c = search tests

pub bounds-self-c : goal.bounds-self-c
bounds-self-c c = omega (arith, c.for_length-c.ensures.is, class_below c.args.n (omega arith))

pub returns-then-not-sound_head : goal.returns-then-not-sound_head
unfolding room_number bad_head no_room given ◌or_else◌
returns-then-not-sound_head c = search (tests, ← c.for_length-c.ensures.is, ← c.sound_head.ensures, c.if-not-sound_head.true)

pub returns-then-h-ne0 : goal.returns-then-h-ne0
unfolding room_number bad_head no_room given ◌or_else◌
returns-then-h-ne0 c = search (tests, ← c.for_length-c.ensures.is, ← c.sound_head.ensures, c.if-not-sound_head.false)

pub returns-then-self-size : goal.returns-then-self-size
unfolding room_number bad_head no_room given ◌or_else◌
returns-then-self-size c =
    let size = c.size.ensures.exact (omega arith) in
    search (le-leb, le-ltb, eq-eqb, ← c.for_length-c.ensures.is, ← c.sound_head.ensures, c.if-not-sound_head.false, ← size)

pub returns : goal.returns
unfolding room_number bad_head no_room given ◌or_else◌
returns c =
    let size = c.size.ensures.exact (omega arith) in
    search (le-leb, le-ltb, eq-eqb, ← c.for_length-c.ensures.is, ← c.sound_head.ensures, c.if-not-sound_head.false, ← size)
