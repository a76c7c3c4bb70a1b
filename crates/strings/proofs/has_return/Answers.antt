-- The scan for a byte, of this one.
use mathlib.Core.Path.{◌∙◌}
use Rattle.strings.proofs.Laws.{has_return_is}
use Rattle.strings.proofs.has_return.Goals as goal

pub returns : goal.returns
returns c = c.has_byte.ensures ∙ has_return_is _
