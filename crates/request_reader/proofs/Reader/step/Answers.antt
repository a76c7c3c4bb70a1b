-- By the standing of the record: stopped, outside or inside a request. A record that stands inside keeps its limits.
use mathlib.Core.Path.{sym}
use Rattle.request_reader.proofs.Steps.{stands_inside, at_stopped, at_outside, at_inside}
use Rattle.request_reader.proofs.Reader.step.Goals as goal

pub inside_step-requires : goal.inside_step-requires
inside_step-requires c = stands_inside c.args.self (sym c.in-Inside.ensures)

pub returns-in-Stopped : goal.returns-in-Stopped
returns-in-Stopped c = at_stopped c.args.self c.args.body.now c.args.raw (sym c.in-Stopped.ensures)

pub returns-in-Outside : goal.returns-in-Outside
returns-in-Outside c = at_outside c.args.self c.args.body.now c.args.raw c.outside_step.result (sym c.in-Outside.ensures) c.outside_step.ensures c.settled.ensures

pub returns-in-Inside : goal.returns-in-Inside
returns-in-Inside c = at_inside c.args.self c.args.body.now c.args.raw c.inside_step.result (sym c.in-Inside.ensures) c.inside_step.ensures c.settled-in-Inside.ensures
