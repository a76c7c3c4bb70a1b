-- The invariant: the first `i` records are done and their results stored. A turn adds one record at the end.
use Rattle.script.proofs.Laws.{none_played, one_more}
use native.Mathlib.Omega.{arith}
use Rattle.script.proofs.play_records.Goals as goal

pub loop-i-init : goal.loop-i-init
loop-i-init c = none_played _ _ _

pub loop-i-preserved : goal.loop-i-preserved
loop-i-preserved c =
    let l = c.loop-i in
    let a = c.args in
    one_more a.chip l.chip a.script.now a.results.now l.results l.i c.step-s.result (omega arith) (omega arith) l.invariant c.step-s.ensures
