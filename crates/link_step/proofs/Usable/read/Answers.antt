-- An escape needs its second byte; else the piece is a mark or a data byte.
use mathlib.Core.Path.{◌∙◌, sym, ap}
use Rattle.escape.specs.Layer.{piece_for}
use Rattle.link_step.proofs.Steps.{read_pending, read_mark, read_data}
use Rattle.link_step.proofs.Usable.read.Goals as goal

pub returns-in-Pending : goal.returns-in-Pending
returns-in-Pending c = let a = c.args in read_pending a.self.link a.reply.now a.own.now a.raw a.self.usable (sym c.read.ensures ∙ ap piece_for c.in-Pending.is) c.pausing.ensures

pub returns-in-Mark : goal.returns-in-Mark
returns-in-Mark c = let a = c.args in read_mark a.self.link a.reply.now a.own.now a.raw (sym c.read.ensures ∙ ap piece_for c.in-Mark.is) c.mark.ensures

pub returns-in-Data : goal.returns-in-Data
returns-in-Data c = let a = c.args in read_data a.self.link a.reply.now a.own.now a.raw (sym c.read.ensures ∙ ap piece_for c.in-Data.is) c.data.ensures
