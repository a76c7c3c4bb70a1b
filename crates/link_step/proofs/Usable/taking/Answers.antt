-- Each turn of the shape is one outcome of the rule, whose law says what the record left promises.
use Rattle.std.specs.Prelude.{Ok, Err}
use Rattle.std.proofs.lemmas.Result.{err_from_is_err_and}
use mathlib.Core.Path.{refl, ap}
use native.Mathlib.Omega.{arith}
use Rattle.shapes.proofs.Turned.{turned}
use Rattle.link_step.proofs.Steps.{reply_refused, reply_more, reply_ended}
use Rattle.link_step.proofs.Usable.taking.Goals as goal

pub returns-in_err-turn : goal.returns-in_err-turn
returns-in_err-turn c =
    let a = c.args in
    let t = turned c.shape.result {t = Err c.in_err-turn.field-0.0} a.self.link.got a.b c.shape.ensures c.in_err-turn.ensures refl in
    let p = err_from_is_err_and c.from_residual.result c.from_residual.ensures.1 in
    rw (p.1, p.2) (reply_refused a.self.link a.reply.now a.b c.requires.1 c.requires.0 (omega arith) t refl)

pub returns-in-More : goal.returns-in-More
returns-in-More c =
    let a = c.args in
    let t = turned c.shape.result a.self.link.got a.b c.shape.ensures c.in_ok-turn.ensures (ap Ok c.in-More.is) in
    reply_more a.self.link a.reply.now a.b c.requires.1 c.requires.0 (omega arith) t c.resting.ensures

pub returns-in-Done : goal.returns-in-Done
returns-in-Done c =
    let a = c.args in
    let t = turned c.shape.result a.self.link.got a.b c.shape.ensures c.in_ok-turn.ensures (ap Ok c.in-Done.is) in
    reply_ended a.self.link a.reply.now a.b c.requires.1 c.requires.0 (omega arith) t c.resting-in-Done.ensures
