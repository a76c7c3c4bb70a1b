-- The invariant: the first `i` raw bytes were read in a chain of steps, and each needed more. A turn adds one step at its end, and the run of plain bytes behind it; any other answer ends the loop.
use Rattle.request_loop.proofs.Feeds.{passes, pass_within, again, answered, needs_more}
use Rattle.request_loop.proofs.Plains.{still_keeps}
use Prim.Native.Nat.{◌+◌}
use native.Mathlib.Omega.{arith}
use Rattle.request_reader.specs.Read.{stop}
use Rattle.request_loop.proofs.feed.Goals as goal

pub loop-i-init : goal.loop-i-init
loop-i-init c = (omega arith, stop)

pub returns-in_default : goal.returns-in_default
returns-in_default c =
    answered c.args.raw.now c.loop-i.i c.loop-i.invariant.1 (omega arith) c.step-step.ensures c.in_default.not-More

pub pass-n-requires : goal.pass-n-requires
pass-n-requires c = still_keeps c.step-step.ensures c.in-More.is

pub passed-at-requires : goal.passed-at-requires
passed-at-requires c = c.pass-n.ensures.below

-- the bytes up to the end of the run lie within the slice
pub overflow_add-i-in-loop-i : goal.overflow_add-i-in-loop-i
overflow_add-i-in-loop-i c =
    omega (arith, pass_within c.args.raw.now (c.loop-i.i + 1) (omega arith) c.pass-n.ensures)

pub loop-i-smaller : goal.loop-i-smaller
loop-i-smaller c =
    omega (arith, pass_within c.args.raw.now (c.loop-i.i + 1) (omega arith) c.pass-n.ensures)

pub loop-i-preserved : goal.loop-i-preserved
loop-i-preserved c =
    let raw = c.args.raw.now in
    let d = c.pass-n.ensures in
    let one = again raw c.loop-i.i c.loop-i.invariant.1 (omega arith) c.step-step.ensures c.in-More.is in
    (pass_within raw (c.loop-i.i + 1) (omega arith) d, passes raw (c.loop-i.i + 1) one d c.passed-at.ensures)

pub returns : goal.returns
returns c =
    needs_more c.args.raw.now c.loop-i.i c.loop-i.invariant.1 (omega arith) (omega arith)
