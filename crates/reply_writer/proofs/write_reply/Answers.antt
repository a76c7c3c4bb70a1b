-- After the checks only the room is left to test.
use Rattle.std.proofs.Common.{rules, tests}
use Rattle.kind.specs.Kinds.{kind_for}
use Rattle.reply.specs.Promise.{reply_for}
use Rattle.reply_writer.proofs.Laws.{wrote}
use Rattle.reply_writer.proofs.write_reply.Goals as goal

pub returns : goal.returns
returns c =
    let a = c.args in
    wrote a.carrier (kind_for a.kind) (reply_for a.reply) a.block.now a.text.now a.out.now (search (tests, rules)) c.parts_of-parts.ensures c.fits.ensures (search rules)
    c.write.ensures
