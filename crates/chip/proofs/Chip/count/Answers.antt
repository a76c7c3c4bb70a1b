-- The count kept is the length of the channel's list.
use Rattle.chip.proofs.Parts.{held_is}
use mathlib.Core.Path.{sym, ◌∙◌}
use Rattle.chip.proofs.Chip.count.Goals as goal

pub returns : goal.returns
returns c = c.digit.ensures ∙ sym (held_is c.args.self c.args.channel.index c.args.channel.within)
