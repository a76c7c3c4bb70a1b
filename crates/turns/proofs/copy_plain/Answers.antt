-- Turn i has copied the first i bytes, and what is left of the run is that of the bytes behind them.
use borrow.Author.Rules.{rules}
use native.Mathlib.Omega.{arith}
use Rattle.turns.proofs.Plain.{copies_none, over_most, stopped, one_more}
use Rattle.turns.proofs.copy_plain.Goals as goal

pub loop-i-init : goal.loop-i-init
loop-i-init c = copies_none

pub returns-then-not-is_plain : goal.returns-then-not-is_plain
returns-then-not-is_plain c = stopped c.loop-i.invariant (omega arith) (search rules)

pub loop-i-preserved : goal.loop-i-preserved
loop-i-preserved c = one_more c.loop-i.invariant (omega arith) (omega arith) (search rules)

pub returns : goal.returns
returns c = over_most c.loop-i.invariant c.min-most.ensures (omega arith)
