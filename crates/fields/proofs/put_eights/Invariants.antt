-- What is written and the raw bytes of the rest are the whole.
use Rattle.std.proofs.Common.{length}
use Rattle.serial_rules.specs.Escape.{escaped}
use Rattle.fields.proofs.Going.{Going}
use Rattle.fields.proofs.put_eights.Given as goal

abbrev pub invariant-loop-piece : goal.invariant-loop-piece
invariant-loop-piece l = Going (escaped l.bytes) (escaped l.rest) l.initial.out l.out l.at

abbrev pub decreases-loop-piece : goal.decreases-loop-piece
decreases-loop-piece l = length l.rest
