-- The byte lies in the first word, the second, or, as the third or a later one, in the last.
use Rattle.chip.proofs.Parts.{stored_oldest, stored_next, stored_later}
use native.Mathlib.Omega.{arith}
use Rattle.chip.proofs.Chip.stored.Goals as goal

pub returns-in-0 : goal.returns-in-0
returns-in-0 c = rw c.in-0.is (stored_oldest c.args.self c.args.channel.index c.args.b c.replaced.result c.args.channel.within c.replaced.ensures)

pub returns-in-1 : goal.returns-in-1
returns-in-1 c = rw c.in-1.is (stored_next c.args.self c.args.channel.index c.args.b c.replaced-in-1.result c.args.channel.within c.replaced-in-1.ensures)

pub returns-in_default : goal.returns-in_default
returns-in_default c =
    stored_later c.args.self c.args.channel.index c.args.b c.replaced-in_default.result c.args.channel.within c.args.i (omega arith) c.requires c.replaced-in_default.ensures
