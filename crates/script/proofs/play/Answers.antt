-- The count is what limit and script allow; where the results fit, the records are played, and what is left of script and limit gives the answer.
use Rattle.script.proofs.Laws.{allowed, too_short, all_played}
use native.Mathlib.Omega.{arith}
use Rattle.script.proofs.play.Goals as goal

pub returns-then-results-n : goal.returns-then-results-n
returns-then-results-n c =
    let a = c.args in
    let n = c.record_count-n.result in
    let e = c.record_count-n.ensures in
    rw c.number.ensures (too_short a.chip a.script.now a.limit n a.results.now (allowed a.limit n a.script.now e.1 e.2 e.3) e.2 c.if-results-n.true)

pub returns : goal.returns
returns c =
    let a = c.args in
    let n = c.record_count-n.result in
    let e = c.record_count-n.ensures in
    rw (c.number-2.ensures, c.of_rest-ending.ensures)
    (all_played a.chip a.script.now a.limit n a.results.now (allowed a.limit n a.script.now e.1 e.2 e.3) e.2 c.play_records-after.result _ (omega arith) c.play_records-after.ensures)
