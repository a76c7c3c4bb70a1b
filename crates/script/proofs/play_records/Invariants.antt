-- The invariant: the first `i` records are done and their results stored. A turn adds one record at the end.
use Rattle.script.specs.Script.{RecordsDone}
use Rattle.script.proofs.play_records.Given as goal

abbrev pub invariant-loop-i : goal.invariant-loop-i
invariant-loop-i l = RecordsDone l.initial.chip l.script l.i l.initial.results l.chip l.results
