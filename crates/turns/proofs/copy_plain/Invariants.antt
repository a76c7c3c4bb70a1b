-- Turn i has copied the first i bytes, and what is left of the run is that of the bytes behind them.
use Rattle.turns.proofs.Plain.{Copying}
use Rattle.turns.proofs.copy_plain.Given as goal

abbrev pub invariant-loop-i : goal.invariant-loop-i
invariant-loop-i l = Copying l.raw l.initial.out l.out l.i
