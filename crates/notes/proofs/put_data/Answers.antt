-- The bytes are written where there is room for all of them.
use native.Mathlib.Omega.{arith}
use Rattle.notes.proofs.Laws.{wrote_part}
use Rattle.notes.proofs.put_data.Goals as goal

pub returns-then-bytes-content : goal.returns-then-bytes-content
returns-then-bytes-content c = wrote_part c.args.at (omega arith) c.put.ensures
