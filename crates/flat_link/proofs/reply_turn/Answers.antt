-- The turn is that of the shape of the reply, where the record is within its limits.
use Rattle.flat_link.proofs.Field.{turned, beyond}
use Rattle.flat_link.proofs.reply_turn.Goals as goal

pub returns-then-at-longest : goal.returns-then-at-longest
returns-then-at-longest c =
    let a = c.args in
    turned a.link a.raw c.shape-shape.result c.kind_at.ensures c.shape-shape.ensures c.longest.ensures c.if-at-longest.true c.turn.ensures

pub returns : goal.returns
returns c =
    let a = c.args in
    beyond a.link a.raw c.shape-shape.result c.kind_at.ensures c.shape-shape.ensures c.longest.ensures c.if-at-longest.false
