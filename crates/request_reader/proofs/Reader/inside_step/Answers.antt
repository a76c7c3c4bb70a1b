-- Each arm is the rule of that piece, whose law says what the record left promises.
use mathlib.Core.Path.{sym}
use Rattle.request_reader.proofs.Steps.{inside_pending, inside_mark, inside_data}
use Rattle.request_reader.proofs.Reader.inside_step.Goals as goal

pub returns-in-Pending : goal.returns-in-Pending
returns-in-Pending c = inside_pending c.args.self c.args.body.now c.requires (sym c.in-Pending.ensures) c.going.ensures

pub returns-in-Mark : goal.returns-in-Mark
returns-in-Mark c = inside_mark c.args.self c.args.body.now (sym c.in-Mark.ensures)

pub returns-in-Data : goal.returns-in-Data
returns-in-Data c = inside_data c.args.self c.args.body.now c.data_step.result (sym c.in-Data.ensures) c.data_step.ensures
