-- The first reading counts, the second writes.
use mathlib.Core.Path.{sym, ◌∙◌}
use Rattle.recorded.proofs.Whole.{short_read, whole_read}
use Rattle.recorded.proofs.read_waiting.Goals as goal

pub returns-then-is_short : goal.returns-then-is_short
returns-then-is_short c = rw c.number.ensures (short_read c.requires c.read_whole-counted.ensures (sym c.is_short.ensures ∙ c.if-is_short.true))

pub returns : goal.returns
returns c = whole_read c.requires c.read_whole-counted.ensures (sym c.is_short.ensures ∙ c.if-is_short.false) c.read_whole-read.ensures c.settle.ensures
