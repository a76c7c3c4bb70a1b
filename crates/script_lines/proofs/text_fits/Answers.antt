-- The results are counted first; then the lines and the last line, which are the text, are held to the room.
use native.Mathlib.Omega.{arith}
use Rattle.script_lines.proofs.Room.{as_told}
use Rattle.script_lines.proofs.text_fits.Goals as goal

pub returns-then-played-results : goal.returns-then-played-results
returns-then-played-results c =
    let a = c.args in
    as_told a.results.now a.played a.answer a.room (omega arith) c.end_length.ensures c.lines_fit.ensures
