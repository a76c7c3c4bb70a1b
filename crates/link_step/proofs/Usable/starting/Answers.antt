-- An action may start, or it would open a fifth transfer.
use mathlib.Core.Path.{refl, sym, ◌∙◌}
use Rattle.link_step.proofs.Steps.{started, fifth_refused}
use Rattle.link_step.proofs.Usable.starting.Goals as goal

pub returns-then-not-may_start : goal.returns-then-not-may_start
returns-then-not-may_start c = fifth_refused c.args.self.link c.args.action (sym c.may_start.ensures ∙ c.if-not-may_start.true) refl

pub returns : goal.returns
returns c = started c.args.self.link c.args.self.usable c.args.action c.requires (sym c.may_start.ensures ∙ c.if-not-may_start.false) c.going.ensures
