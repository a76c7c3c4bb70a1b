-- While idle the byte is a character.
use Rattle.link_step.proofs.Steps.{character_told}
use Rattle.link_step.proofs.Usable.reply.Goals as goal

pub returns-in-Idle : goal.returns-in-Idle
returns-in-Idle c = let a = c.args in character_told a.self.link a.reply.now a.b c.requires a.self.usable c.in-Idle.is c.going.ensures
