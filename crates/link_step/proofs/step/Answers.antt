-- A stopped link is left as it is; else the step is that of a usable one.
use mathlib.Core.Path.{sym, ◌∙◌}
use Rattle.link_step.proofs.Steps.{at_stopped, at_usable}
use Rattle.link_step.proofs.step.Goals as goal

pub returns-then-not-usable : goal.returns-then-not-usable
returns-then-not-usable c = let a = c.args in rw c.number.ensures (at_stopped a.link a.reply.now a.own.now a.raw (sym c.usable.ensures.0 ∙ c.if-not-usable.true))

pub returns-in-Ok : goal.returns-in-Ok
returns-in-Ok c = let a = c.args in at_usable a.link a.reply.now a.own.now a.raw (sym c.usable.ensures.0 ∙ c.if-not-usable.false) c.in-Ok.ensures

pub returns-in-Err : goal.returns-in-Err
returns-in-Err c = let a = c.args in at_usable a.link a.reply.now a.own.now a.raw (sym c.usable.ensures.0 ∙ c.if-not-usable.false) (rw (c.refused.ensures, c.number-in-Err.ensures) c.in-Err.ensures)
