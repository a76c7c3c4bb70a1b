-- A reset is the chip's own reset and every other kind its own access; the line value is that of the chip left.
use Rattle.script.proofs.Laws.{step_reset, step_access}
use Rattle.chip.specs.Promise.{access_of, reply_of}
use Prim.Native.Nat.{◌/◌, ◌%◌}
use lib.Dec.{eqb}
use borrow.Author.Tests.{eq-eqb, ne_eqb}
use Rattle.script.proofs.step.Goals as goal

pub returns-then-kind-eq4 : goal.returns-then-kind-eq4
returns-then-kind-eq4 c = rw (eq-eqb _ _ c.if-kind-eq4.true) (step_reset c.args.chip c.reset-chip.result c.lines.result c.reset-chip.ensures c.lines.ensures)

pub returns : goal.returns
returns c =
    let a = c.args in
    rw (ne_eqb _ _ c.if-kind-eq4.false, c.number.ensures, c.byte.ensures)
    (step_access a.chip c.access-a.result.chip (access_of (a.kind / 2) a.offset (eqb (a.kind % 2) 1) a.byte) (reply_of c.access-a.result) c.lines-2.result c.access-a.ensures c.lines-2.ensures)
