-- Turn i has taken the lengths of the first i lines and `more` from the room. A line that does not fit ends the loop, and with it
-- the lines of all records do not fit.
use mathlib.Core.Path.{◌≡◌}
use lib.ListN.{length}
use Prim.Native.Nat.{◌+◌}
use Rattle.script_lines.specs.Text.{lines_of}
use Rattle.script_lines.proofs.lines_fit.Given as goal

abbrev pub invariant-loop-i : goal.invariant-loop-i
invariant-loop-i l = l.left + length (lines_of l.i l.results) + l.more ≡ l.room
