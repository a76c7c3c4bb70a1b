-- Turn i has passed i bytes of the string, so what is left of the scan is the scan from i on.
use mathlib.Core.Path.{◌≡◌}
use lib.ListN.{drop}
use Rattle.strings.specs.Text.{string_from}
use Rattle.strings.proofs.string_length.Given as goal

abbrev pub invariant-loop-i : goal.invariant-loop-i
invariant-loop-i l = string_from 0 l.tail ≡ string_from l.i (drop l.i l.tail)
