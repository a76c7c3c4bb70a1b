-- What is written and the raw bytes of the fields from i on are the whole.
use Rattle.std.proofs.Common.{drop}
use Rattle.room.specs.Carriers.{coded, joined, parts_raw}
use Rattle.fields.proofs.Going.{Going}
use Rattle.fields.proofs.put_parts.Given as goal

abbrev pub invariant-loop-field : goal.invariant-loop-field
invariant-loop-field l =
    Going (parts_raw l.carrier l.heading l.fields) (coded l.carrier (joined (drop l.field-index l.fields))) l.fn.out l.out l.at
