-- Turn i has taken the lengths of the first i lines and `more` from the room. A line that does not fit ends the loop, and with it
-- the lines of all records do not fit.
use borrow.Author.Tests.{lt-leb}
use native.Mathlib.Omega.{arith}
use mathlib.Core.Path.{sym}
use lib.ListN.{length}
use Prim.Native.Nat.{◌+◌}
use Rattle.script_lines.specs.Text.{lines_of}
use Rattle.script_lines.proofs.Lines.{nth, lines_length, lines_room}
use Rattle.script_lines.proofs.lines_fit.Goals as goal

pub loop-i-init : goal.loop-i-init
unfolding lines_of
loop-i-init c = omega arith

pub returns-then-left-line : goal.returns-then-left-line
unfolding nth
returns-then-left-line c =
    let a = c.args in
    let h = lines_room c.loop-i.i a.n a.results.now (omega arith) (omega arith) in
    sym (lt-leb (length (lines_of a.n a.results.now) + a.more) a.room (omega arith))

pub loop-i-preserved : goal.loop-i-preserved
unfolding nth
loop-i-preserved c = omega (arith, lines_length c.loop-i.i c.args.results.now (omega arith))
