-- What is left has room for the fields from i on just where the room has it for all of them.
use Rattle.std.proofs.Common.{◌≡◌, ◌+◌, length, drop}
use Rattle.room.specs.Carriers.{coded, joined}
use Rattle.room.proofs.fields_fit.Given as goal

abbrev pub invariant-loop-field : goal.invariant-loop-field
invariant-loop-field l =
    l.left + length (coded l.carrier (joined l.fields)) ≡ l.fn.room + length (coded l.carrier (joined (drop l.field-index l.fields)))
