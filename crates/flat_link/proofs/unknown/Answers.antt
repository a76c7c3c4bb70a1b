-- The tests are those of the definition.
use borrow.Author.Tests.{eq-eqb, ne_eqb}
use Rattle.flat_link.specs.Runs.{flat_unknown}
use Rattle.flat_link.proofs.unknown.Goals as goal

pub returns-then-lacks_room : goal.returns-then-lacks_room
unfolding flat_unknown
returns-then-lacks_room c =
    let t = rw c.number.ensures at c.flat_told.ensures in
    rw (← c.lacks_room.ensures, c.if-lacks_room.true, ← t) c.unnoted.ensures

pub returns-then-bytes-eq0 : goal.returns-then-bytes-eq0
unfolding flat_unknown
returns-then-bytes-eq0 c = rw (← c.lacks_room.ensures, c.if-lacks_room.false, eq-eqb _ _ c.if-bytes-eq0.true, ← c.flat_told-then-bytes-eq0.ensures) c.unnoted-then-bytes-eq0.ensures

pub returns : goal.returns
unfolding flat_unknown
returns c =
    let t = rw c.number-2.ensures at c.flat_told-2.ensures in
    rw (← c.lacks_room.ensures, c.if-lacks_room.false, ne_eqb _ _ c.if-bytes-eq0.false, ← t) c.unnoted-2.ensures
