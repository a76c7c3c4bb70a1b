-- Each way out is one outcome of a begun call.
use mathlib.Core.Path.{sym, ap, ◌∙◌}
use Rattle.serial_rules.specs.Reply.{longest}
use Rattle.link.proofs.Begins.{begin_refused, begin_complete, begin_waits}
use Rattle.link.proofs.Link.begin.Goals as goal

pub returns-in-Err : goal.returns-in-Err
returns-in-Err c = begin_refused c.args.self c.args.kind (sym c.in-Err.ensures)

pub returns-then-longest-eq0 : goal.returns-then-longest-eq0
returns-then-longest-eq0 c =
    let z = ap longest (sym c.shape.ensures) ∙ sym c.longest.ensures.0 ∙ c.if-longest-eq0.true in
    begin_complete c.args.self c.args.kind (sym c.in_default.ensures) z

pub returns : goal.returns
returns c =
    let e = c.longest.ensures.0 ∙ ap longest c.shape.ensures in
    begin_waits c.args.self c.args.kind (sym c.in_default.ensures) (λ z. c.if-longest-eq0.false (e ∙ z))
