-- The six weights summed are the rules' flags, and what lies above them is kept.
use Rattle.flags.proofs.Bits.{flags_after}
use Rattle.flags.proofs.flags_after.Goals as goal

pub returns : goal.returns
returns c = rw (c.flag_after.ensures.0, c.flag_after-2.ensures.0, c.flag_after-3.ensures.0, c.flag_after-4.ensures.0, c.flag_after-5.ensures.0, c.flag_after-6.ensures.0) (flags_after c.args.x c.args.flags)
