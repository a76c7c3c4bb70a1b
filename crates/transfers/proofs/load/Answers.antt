-- One byte of load data, and those behind it that join its note.
use Rattle.transfers.proofs.Parts.{run_grows, loads}
use Rattle.serial_rules.proofs.Lent.{take_behind}
use native.Mathlib.Omega.{arith}
use Rattle.transfers.proofs.load.Goals as goal

pub overflow_sub-more : goal.overflow_sub-more
overflow_sub-more c = run_grows c.add_run-all.ensures

pub overflow_add-result : goal.overflow_add-result
overflow_add-result c =
    omega (
      arith,
      (loads _ _ _
          c.requires.0 (omega arith)
          c.requires.1
          c.add-one.ensures (rw (take_behind
          _ _) at c.add_run-all.ensures)).near,
    )

pub returns : goal.returns
returns c =
    loads _ _ _
    c.requires.0 (omega arith)
    c.requires.1
    c.add-one.ensures (rw (take_behind
    _ _) at c.add_run-all.ensures)
