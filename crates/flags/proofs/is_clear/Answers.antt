-- Both bits, tested in turn.
use Rattle.chip_rules.specs.Rules.{clears}
use Rattle.flags.proofs.is_clear.Goals as goal

pub returns-then-has_bit : goal.returns-then-has_bit
unfolding clears
returns-then-has_bit c = rw (← c.has_bit.ensures, c.if-has_bit.true) c.has_bit-then-has_bit.ensures

pub returns-else-has_bit : goal.returns-else-has_bit
unfolding clears
returns-else-has_bit c = rw (← c.has_bit.ensures, c.if-has_bit.false)
