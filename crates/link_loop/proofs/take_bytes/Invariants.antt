-- Each turn takes a run of plain bytes and the data byte behind it, where there is one.
use Prim.Native.Nat.{◌-◌}
use mathlib.Core.Path.{◌≡◌}
use Rattle.serial_rules.specs.Reply.{shape_of}
use Rattle.shapes.specs.Shapes.{shape_for}
use Rattle.kind.specs.Kinds.{kind_for}
use Rattle.kind.specs.declared.CallKind.{CallKind}
use Rattle.link_loop.proofs.Replies.{Taking}
use Rattle.link_loop.proofs.take_bytes.Given as goal

abbrev pub invariant-loop-got : goal.invariant-loop-got
invariant-loop-got l = (k : CallKind) → shape_of (kind_for k) ≡ shape_for l.shape → Taking k l.from l.initial.reply l.raw l.i l.got l.reply

abbrev pub decreases-loop-got : goal.decreases-loop-got
decreases-loop-got l = l.longest - l.got
