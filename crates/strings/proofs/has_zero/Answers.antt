-- The scan for a byte, of this one.
use mathlib.Core.Path.{◌∙◌}
use Rattle.strings.proofs.Laws.{has_zero_is}
use Rattle.strings.proofs.has_zero.Goals as goal

pub returns : goal.returns
returns c = c.has_byte.ensures ∙ has_zero_is _
