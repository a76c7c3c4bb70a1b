-- Turn i has read the first i raw bytes as the rules' machine does.
use Prim.Native.Nat.{◌-◌}
use lib.ListN.{length}
use Rattle.shapes.specs.Shapes.{shape_for}
use Rattle.recorded.proofs.Whole.{Reading}
use Rattle.recorded.proofs.read_whole.Given as goal

abbrev pub invariant-loop-b : goal.invariant-loop-b
invariant-loop-b l =
    Reading l.raw (shape_for l.shape) l.last l.initial.notes l.initial.content l.reply l.own l.notes l.content l.log l.i l.got

abbrev pub decreases-loop-b : goal.decreases-loop-b
decreases-loop-b l = length l.raw - l.i
