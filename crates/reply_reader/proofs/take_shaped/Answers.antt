-- A byte behind the last is refused; any other goes by the turn of the shape.
use native.Mathlib.Omega.{arith}
use Rattle.shapes.specs.Shapes.{shape_for}
use Rattle.reply_reader.proofs.Laws.{over, refuses, takes}
use Rattle.reply_reader.proofs.take_shaped.Goals as goal

pub returns-then-longest-at : goal.returns-then-longest-at
returns-then-longest-at c =
    let a = c.args in
    let l = c.longest.ensures in
    (omega (arith, l.0, l.1), over (shape_for a.shape) a.count a.byte a.reply.now (omega (arith, l.0)))

pub returns-in-Err : goal.returns-in-Err
returns-in-Err c =
    let a = c.args in
    let l = c.longest.ensures in
    (omega (arith, l.0, l.1), refuses (shape_for a.shape) a.count a.byte a.reply.now (omega (arith, l.0)) c.turn-turn.ensures c.in-Err.is)

pub returns-in-Ok : goal.returns-in-Ok
returns-in-Ok c =
    let a = c.args in
    let l = c.longest.ensures in
    (omega (arith, l.0, l.1), takes (shape_for a.shape) a.count a.byte a.reply.now (omega (arith, l.0)) c.turn-turn.ensures c.in-Ok.field-0 c.in-Ok.is)
