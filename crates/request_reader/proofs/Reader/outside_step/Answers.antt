-- Each arm is the rule of that piece, whose law says what the record left promises.
use mathlib.Core.Path.{sym}
use Rattle.request_reader.proofs.Steps.{outside_pending, outside_data, outside_mark}
use Rattle.request_reader.proofs.Reader.outside_step.Goals as goal

pub returns-in-Pending : goal.returns-in-Pending
returns-in-Pending c = outside_pending c.args.self (sym c.in-Pending.ensures) c.resting.ensures

pub returns-in-Data : goal.returns-in-Data
returns-in-Data c = outside_data c.args.self (sym c.in-Data.ensures) c.resting-in-Data.ensures

pub returns-in-Mark : goal.returns-in-Mark
returns-in-Mark c = outside_mark c.args.self c.mark_step.result (sym c.in-Mark.ensures) c.mark_step.ensures
