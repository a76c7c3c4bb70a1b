-- Turn i has passed over the reports of the first i raw bytes, and their notes and data stand in the lent bytes, where those of all would fit.
use Prim.Native.Nat.{◌-◌, ◌≤◌}
use lib.ListN.{length, take}
use Rattle.link_loop.proofs.Notes.{Passing}
use Rattle.link_loop.proofs.run.Given as goal

abbrev pub invariant-loop-at : goal.invariant-loop-at
invariant-loop-at l =
    (l.i ≤ length l.raw) × Passing l.initial.at l.initial.reply l.initial.own (take l.i l.raw) l.initial.room l.initial.content l.at l.reply l.own l.room l.content l.log

abbrev pub decreases-loop-at : goal.decreases-loop-at
decreases-loop-at l = length l.raw - l.i
