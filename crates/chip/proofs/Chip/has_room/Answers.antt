-- The count is compared with the rules' limit.
use Rattle.chip_rules.specs.Rules.{room}
use Rattle.chip.proofs.Chip.has_room.Goals as goal

pub returns : goal.returns
unfolding room
returns c = rw (c.count.ensures, c.limit.ensures)
