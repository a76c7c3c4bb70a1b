-- Turn i has found whether the byte stands among the first i bytes; with those from i on they are all.
use mathlib.Core.Path.{◌≡◌}
use mathlib.Core.Bool.{◌||◌}
use lib.ListN.{drop}
use Rattle.strings.specs.Text.{has_byte}
use Rattle.strings.proofs.has_byte.Given as goal

abbrev pub invariant-loop-b : goal.invariant-loop-b
invariant-loop-b l = (l.found || has_byte l.byte (drop l.b-index l.text)) ≡ has_byte l.byte l.text
