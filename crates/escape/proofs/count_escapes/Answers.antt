-- A piece is what comes first of the rest.
use Rattle.std.proofs.Common.{arith, ap}
use Rattle.serial_rules.specs.Escape.{escapes}
use Rattle.escape.proofs.Laws.{escapes_split}
use Rattle.escape.proofs.count_escapes.Goals as goal

pub loop-piece-preserved : goal.loop-piece-preserved
loop-piece-preserved c =
    let p = c.in-Some.ensures.cases in
    omega (arith, escapes_split 224 c.loop-piece.rest.now, ap escapes p.0, ap escapes p.1)
