-- None, one or more bytes move: the second into the first word, the third into the second, and those behind it within the last.
use Rattle.chip.proofs.Parts.{moved_one, moved_more}
use native.Mathlib.Omega.{arith}
use Rattle.chip.proofs.Chip.moved_down.Goals as goal

pub returns-then-n-eq1 : goal.returns-then-n-eq1
returns-then-n-eq1 c =
    rw c.if-n-eq1.true
    (moved_one c.args.self c.args.channel.index c.replaced-oldest.result 0 0 c.args.channel.within (rw c.digit.ensures at c.replaced-oldest.ensures))

pub returns : goal.returns
returns c =
    moved_more c.args.self c.args.channel.index c.replaced-oldest.result c.replaced-next.result c.slid-later.result c.args.channel.within
    (rw c.digit.ensures at c.replaced-oldest.ensures) c.args.n (omega arith) c.requires
    (rw c.digit-2.ensures at c.replaced-next.ensures) c.slid-later.ensures
