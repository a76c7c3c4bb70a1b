-- Each bit's weight, summed in the rules' order.
use Rattle.chip_rules.specs.Rules.{status}
use Rattle.chip.proofs.Chip.status.Goals as goal

pub returns : goal.returns
unfolding status
returns c = rw (c.weight.ensures.0, c.is_ready.ensures, c.weight-2.ensures.0, c.has_room.ensures, c.fed.ensures, c.low_bits.ensures.0, c.number.ensures)
