-- Only a load or save has a limit.
use mathlib.Core.Path.{sym, ◌∙◌}
use Rattle.actions.proofs.Starts.{may_open}
use Rattle.actions.proofs.Action.may_start.Goals as goal

pub returns-else-not-opens_transfer : goal.returns-else-not-opens_transfer
returns-else-not-opens_transfer c = may_open c.args.nested c.args.self (sym c.opens_transfer.ensures ∙ c.if-not-opens_transfer.false)
