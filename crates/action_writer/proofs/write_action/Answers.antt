-- After the checks only the room is left to test.
use Rattle.std.proofs.Common.{rules, tests}
use Rattle.action_parts.specs.Parts.{sent_for}
use Rattle.action_writer.proofs.Laws.{wrote}
use Rattle.action_writer.proofs.write_action.Goals as goal

pub returns : goal.returns
returns c =
    let a = c.args in
    wrote (sent_for a.action) a.block.now a.text.now a.out.now (search (tests, rules)) c.length_byte.ensures c.parts_of-parts.ensures c.fits.ensures (search rules)
    c.write.ensures
