-- Turn i has found whether an escape byte stands among the first i bytes; with those from i on they are all.
use Rattle.std.proofs.Common.{◌≡◌, ◌||◌, ltb, drop}
use Rattle.serial_rules.specs.Escape.{escapes}
use Rattle.escape.proofs.has_escape.Given as goal

abbrev pub invariant-loop-b : goal.invariant-loop-b
invariant-loop-b l = (l.found || ltb 0 (escapes (drop l.b-index l.bytes))) ≡ ltb 0 (escapes l.bytes)
