-- With no transfer open the byte is of the reply, in a load it is load data, in a save it is refused.
use mathlib.Core.Path.{refl}
use borrow.Author.Rules.{rules}
use native.Mathlib.Omega.{arith}
use Rattle.link_step.proofs.Steps.{data_loaded, data_saved}
use Rattle.link_step.proofs.Usable.outer.Goals as goal

pub returns-then-nested-eq0-2 : goal.returns-then-nested-eq0-2
returns-then-nested-eq0-2 c = let a = c.args in data_saved a.self.link a.reply.now a.b a.self.usable (search rules) (omega arith) refl

pub returns : goal.returns
returns c = let a = c.args in data_loaded a.self.link a.reply.now a.b a.self.usable (search rules) (omega arith) c.going.ensures
