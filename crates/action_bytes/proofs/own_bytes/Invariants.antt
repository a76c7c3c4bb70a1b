-- The own bytes so far stand in the lent bytes; what remains falls at each one.
use Prim.Native.Nat.{◌-◌}
use lib.ListN.{length}
use Rattle.action_bytes.proofs.Parts.{Owning}
use Rattle.action_bytes.proofs.own_bytes.Given as goal

abbrev pub invariant-loop-at : goal.invariant-loop-at
invariant-loop-at l = Owning l.raw l.action l.from l.i l.own l.held

abbrev pub decreases-loop-at : goal.decreases-loop-at
decreases-loop-at l = length l.raw - l.i
