-- By V: two bytes held, or any.
use Rattle.chip_rules.specs.Rules.{n_flag}
use Rattle.chip.proofs.Chip.n_flag.Goals as goal

pub returns-then-has_bit : goal.returns-then-has_bit
unfolding n_flag
returns-then-has_bit c = rw (← c.has_bit.ensures, c.if-has_bit.true, c.count.ensures, c.fed-channel.ensures)

pub returns-else-has_bit : goal.returns-else-has_bit
unfolding n_flag
returns-else-has_bit c = rw (← c.has_bit.ensures, c.if-has_bit.false) (rw c.fed-channel.ensures at c.holds_byte.ensures)
