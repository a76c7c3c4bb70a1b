-- Each turn of the shape is one outcome of the rule, whose law says what the record left promises.
use Rattle.std.specs.Prelude.{Ok, Err}
use Rattle.std.proofs.lemmas.Result.{err_from_is_err_and}
use mathlib.Core.Path.{refl, ap}
use native.Mathlib.Omega.{arith}
use Rattle.shapes.proofs.Turned.{turned}
use Rattle.link_step.proofs.Steps.{error_full, own_nested, own_refused, own_more, own_ended}
use Rattle.link_step.proofs.Usable.own.Goals as goal

pub finished-requires : goal.finished-requires
finished-requires c =
    let a = c.args in
    let t = turned c.shape.result a.self.link.held a.b c.shape.ensures c.in_ok-turn.ensures (ap Ok c.in-Done.is) in
    (error_full a.self.link.held a.b t, own_nested a.self.link c.requires a.self.usable)

pub returns-in_err-turn : goal.returns-in_err-turn
returns-in_err-turn c =
    let a = c.args in
    let t = turned c.shape.result {t = Err c.in_err-turn.field-0.0} a.self.link.held a.b c.shape.ensures c.in_err-turn.ensures refl in
    let p = err_from_is_err_and c.from_residual.result c.from_residual.ensures.1 in
    rw (p.1, p.2) (own_refused a.self.link a.own.now a.b c.requires (omega arith) t refl)

pub returns-in-More : goal.returns-in-More
returns-in-More c =
    let a = c.args in
    let t = turned c.shape.result a.self.link.held a.b c.shape.ensures c.in_ok-turn.ensures (ap Ok c.in-More.is) in
    own_more a.self.link a.own.now a.b c.requires (omega arith) a.self.usable t c.going.ensures

pub returns-in-Done : goal.returns-in-Done
returns-in-Done c =
    let a = c.args in
    let t = turned c.shape.result a.self.link.held a.b c.shape.ensures c.in_ok-turn.ensures (ap Ok c.in-Done.is) in
    own_ended a.self.link a.own.now a.b c.requires (omega arith) a.self.usable t c.finished.ensures
