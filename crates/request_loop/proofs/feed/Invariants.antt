-- The invariant: the first `i` raw bytes were read in a chain of steps, and each needed more. A turn adds one step at its end, and the run of plain bytes behind it; any other answer ends the loop.
use Prim.Native.Nat.{◌≤◌, ◌-◌}
use lib.ListN.{length, take, replicate}
use Rattle.serial_rules.specs.Reader as rules
use Rattle.request_reader.specs.Read.{Read}
use Rattle.request_loop.proofs.feed.Given as goal

abbrev pub invariant-loop-i : goal.invariant-loop-i
invariant-loop-i l = (l.i ≤ length l.raw) × Read l.initial.at l.initial.body (take l.i l.raw) (replicate l.i rules.need_more) l.at l.body

abbrev pub decreases-loop-i : goal.decreases-loop-i
decreases-loop-i l = length l.raw - l.i
