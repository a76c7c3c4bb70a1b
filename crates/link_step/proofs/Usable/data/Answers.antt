-- Outside an action the byte is of the reply, else it is of the action.
use Rattle.link_step.proofs.Steps.{data_outside}
use Rattle.link_step.proofs.Usable.data.Goals as goal

pub returns-in-None : goal.returns-in-None
returns-in-None c = let a = c.args in data_outside a.self.link a.reply.now a.own.now a.b c.in-None.is c.outer.ensures
