-- Outside an action the mark goes by its class; inside one it is refused.
use mathlib.Core.Path.{refl}
use Rattle.link_step.proofs.Steps.{mark_outside_lem, mark_inside}
use Rattle.link_step.proofs.Usable.mark.Goals as goal

pub returns-in-None : goal.returns-in-None
returns-in-None c = mark_outside_lem c.args.self.link c.args.m c.in-None.is c.opening.ensures

pub returns-in-Some : goal.returns-in-Some
returns-in-Some c = mark_inside c.args.self.link c.args.m c.in-Some.is refl
