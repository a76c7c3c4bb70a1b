-- The note is written where there is room for a whole one.
use Prim.Native.Nat.{◌*◌}
use native.Mathlib.Omega.{arith}
use Rattle.notes.proofs.Laws.{wrote_part}
use Rattle.notes.proofs.put_note.Goals as goal

pub returns-then-index-notes : goal.returns-then-index-notes
returns-then-index-notes c = wrote_part (5 * c.args.index) (omega arith) c.put.ensures
