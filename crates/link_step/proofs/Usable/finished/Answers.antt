-- Each arm is the end of that action, whose law says what the record left promises.
use Rattle.link.specs.declared.Wait.TheVariants.{Idle}
use Rattle.std.specs.Prelude.{None}
use mathlib.Core.Path.{ap, ◌∙◌}
use native.Mathlib.Omega.{arith}
use Rattle.answers.specs.declared.Answer.{Answer}
use Rattle.link.specs.Parts.{going_from, resting_with}
use Rattle.link_step.specs.Parts.{placed_from}
use Rattle.link_step.proofs.Steps.{error_ended, event_ended, address_ended, block_ended}
use Rattle.link_step.proofs.Usable.finished.Goals as goal

pub returns-in-Error : goal.returns-in-Error
returns-in-Error c = let a = c.args in error_ended a.self.link a.own.now c.in-Error.is (c.requires.0 c.in-Error.is) (omega arith) (c.resting.ensures ∙ ap (λ (n : Answer). resting_with n Idle 0) c.told_by-answer.ensures)

pub returns-in-Address : goal.returns-in-Address
returns-in-Address c = let a = c.args in address_ended a.self.link a.own.now a.self.usable c.in-Address.is c.requires.1 (c.placed.ensures ∙ ap (placed_from a.self.link c.in-Address.target) c.told_by-answer.ensures)

pub returns-in-Event : goal.returns-in-Event
returns-in-Event c = let a = c.args in event_ended a.self.link a.own.now a.self.usable c.in-Event.is (c.going.ensures ∙ ap (λ (n : Answer). going_from a.self.link n None 0) c.told_by-answer.ensures)

pub returns-in-Block : goal.returns-in-Block
returns-in-Block c = let a = c.args in block_ended a.self.link a.own.now a.self.usable c.in-Block.is (omega arith) (c.going-in-Block.ensures ∙ ap (λ (n : Answer). going_from a.self.link n None 0) c.told_by-answer.ensures)
