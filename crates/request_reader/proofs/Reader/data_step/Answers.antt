-- Each turn of the body is one outcome of the rule, whose law says what the record left promises. The limits put the count inside the
-- lent bytes.
use borrow.Author.Rules.{rules}
use mathlib.Core.Path.{sym, ap, ◌∙◌}
use native.Mathlib.Omega.{arith}
use Rattle.std.specs.Prelude.{Ok}
use Rattle.std.proofs.lemmas.Result.{err_from_is_err_and}
use Rattle.turns.specs.Turns.{turn_of}
use Rattle.request_reader.proofs.Steps.{inside_room, data_refused, data_more, data_done}
use Rattle.request_reader.proofs.Reader.data_step.Goals as goal

pub shared_ref_as_front-body_turn : goal.shared_ref_as_front-body_turn
shared_ref_as_front-body_turn c = let room = inside_room c.args.self c.requires in omega arith

pub bounds-body-at : goal.bounds-body-at
bounds-body-at c = let room = inside_room c.args.self c.requires in omega arith

pub overflow_add-length : goal.overflow_add-length
overflow_add-length c = let room = inside_room c.args.self c.requires in search rules

pub returns-in_err-turn : goal.returns-in_err-turn
returns-in_err-turn c =
    let a = c.args in
    let p = err_from_is_err_and c.from_residual.result c.from_residual.ensures.1 in
    rw (p.1, p.2) (data_refused a.self a.body.now a.b (sym c.in_err-turn.ensures))

pub returns-in-More : goal.returns-in-More
returns-in-More c =
    let a = c.args in
    let room = inside_room a.self c.requires in
    data_more a.self a.body.now a.b c.requires (omega arith) (c.fits-body 1)
    (sym c.in_ok-turn.ensures ∙ ap turn_of (ap Ok c.in-More.is)) c.going.ensures

pub returns-in-Done : goal.returns-in-Done
returns-in-Done c =
    let a = c.args in
    let room = inside_room a.self c.requires in
    data_done a.self a.body.now a.b (omega arith) (sym c.in_ok-turn.ensures ∙ ap turn_of (ap Ok c.in-Done.is)) c.resting.ensures
