-- Turn i has written the lines of the first i records; the next line fits, since all do.
use Rattle.script_text.specs.Write.{Wrote}
use Rattle.script_lines.specs.Text.{lines_of}
use Rattle.script_text.proofs.put_lines.Given as goal

abbrev pub invariant-loop-i : goal.invariant-loop-i
invariant-loop-i l = Wrote 0 (lines_of l.i l.results) l.initial.out l.out l.at
