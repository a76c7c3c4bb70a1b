-- What has been counted and the escape bytes of the rest are those of all the bytes.
use Rattle.std.proofs.Common.{◌≡◌, ◌+◌, length}
use Rattle.serial_rules.specs.Escape.{escapes}
use Rattle.escape.proofs.count_escapes.Given as goal

abbrev pub invariant-loop-piece : goal.invariant-loop-piece
invariant-loop-piece l = l.n + escapes l.rest ≡ escapes l.bytes

abbrev pub decreases-loop-piece : goal.decreases-loop-piece
decreases-loop-piece l = length l.rest
