-- A channel with room gets the byte; one without refuses it.
use Rattle.chip.proofs.Steps.{has_place, wrote, full}
use mathlib.Core.Path.{sym, ◌∙◌}
use Rattle.chip.proofs.Valid.write_data.Goals as goal

pub put-requires : goal.put-requires
put-requires c = let a = c.args in has_place a.self.chip a.channel.index a.channel.within (sym c.has_room.ensures ∙ c.if-has_room.true)

pub returns-then-has_room : goal.returns-then-has_room
returns-then-has_room c = let a = c.args in wrote a.self.chip a.channel.index a.b c.put.result.chip (sym c.has_room.ensures ∙ c.if-has_room.true) c.put.ensures

pub returns-else-has_room : goal.returns-else-has_room
returns-else-has_room c = let a = c.args in full a.self.chip a.channel.index a.b (sym c.has_room.ensures ∙ c.if-has_room.false)
