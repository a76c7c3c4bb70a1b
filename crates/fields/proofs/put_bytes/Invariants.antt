-- Turn i has written the raw bytes of the first i bytes; the rest has room, since the whole fits.
use Rattle.std.proofs.Common.{drop}
use Rattle.serial_rules.specs.Escape.{escaped}
use Rattle.fields.proofs.Going.{Going}
use Rattle.fields.proofs.put_bytes.Given as goal

abbrev pub invariant-loop-b : goal.invariant-loop-b
invariant-loop-b l = Going (escaped l.bytes) (escaped (drop l.b-index l.bytes)) l.initial.out l.out l.at
