-- Each line's weight, summed in the rules' order.
use Rattle.chip_rules.specs.Rules.{lines}
use Rattle.chip.proofs.Chip.line_sum.Goals as goal

pub returns : goal.returns
unfolding lines
returns c = rw (c.weight.ensures.0, c.host_irq.ensures, c.weight-2.ensures.0, c.parasite_irq.ensures, c.weight-3.ensures.0, c.parasite_nmi.ensures, c.weight-4.ensures.0, c.has_bit.ensures)
