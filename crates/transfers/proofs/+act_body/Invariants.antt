-- The cycle of the action reader and the body of a transfer: what remains of the recording falls at each call of either.
use Prim.Native.Nat.{◌-◌}
use lib.ListN.{length}
use Rattle.transfers.proofs.Cycle.{Walking}
use Rattle.transfers.proofs.+act_body.Given as goal

abbrev pub decreases-act : goal.decreases-act
decreases-act l = length l.raw.now - l.at

abbrev pub decreases-body : goal.decreases-body
decreases-body l = length l.raw.now - l.from

abbrev pub invariant-body-loop-b : goal.invariant-body-loop-b
invariant-body-loop-b l = Walking l.raw l.save l.depth l.from l.initial.notes l.initial.content l.initial.log l.notes l.content l.log l.i

abbrev pub decreases-body-loop-b : goal.decreases-body-loop-b
decreases-body-loop-b l = length l.raw - l.i
