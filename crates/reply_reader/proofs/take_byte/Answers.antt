-- The reply goes by the shape of its kind.
use borrow.Author.Rules.{rules}
use Rattle.reply_reader.proofs.Laws.{byte_taken}
use Rattle.reply_reader.proofs.take_byte.Goals as goal

pub returns : goal.returns
returns c =
    let d = c.take_shaped.ensures in
    byte_taken c.args.kind c.shape.ensures d.0 (search rules) d.1
