-- Turn i has counted the escape bytes among the first i, no more than these; with those from i on they are all.
use Rattle.std.proofs.Common.{◌≡◌, ◌+◌, ◌≤◌, drop}
use Rattle.serial_rules.specs.Escape.{escapes}
use Rattle.escape.proofs.count_piece.Given as goal

abbrev pub invariant-loop-b : goal.invariant-loop-b
invariant-loop-b l = (l.n ≤ l.b-index) × (l.n + escapes (drop l.b-index l.bytes) ≡ escapes l.bytes)
