-- Turn i has written the lines of the first i records; the next line fits, since all do.
use native.Mathlib.Omega.{arith}
use Rattle.script_lines.specs.Text.{lines_of}
use Rattle.script_text.proofs.Writers.{wrote_then, wrote_nothing}
use Rattle.script_lines.proofs.Lines.{nth, lines_snoc, lines_room}
use Rattle.script_text.proofs.put_lines.Goals as goal

pub loop-i-init : goal.loop-i-init
unfolding lines_of
loop-i-init c = wrote_nothing 0 _ (omega arith)

pub put_line-at-requires : goal.put_line-at-requires
unfolding nth
put_line-at-requires c =
    let a = c.args in
    omega (arith, lines_room c.loop-i.i a.n a.results.now (omega arith) (omega arith))

pub loop-i-preserved : goal.loop-i-preserved
unfolding nth
loop-i-preserved c =
    let a = c.args in
    let l = c.loop-i in
    rw (lines_snoc l.i a.results.now (omega arith)) (wrote_then l.invariant c.put_line-at.ensures)
