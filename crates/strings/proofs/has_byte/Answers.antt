-- Turn i has found whether the byte stands among the first i bytes; with those from i on they are all.
use borrow.Author.Rules.{rules}
use Rattle.strings.proofs.Laws.{byte_more, byte_all}
use Rattle.strings.proofs.has_byte.Goals as goal

pub loop-b-preserved : goal.loop-b-preserved
loop-b-preserved c =
    byte_more c.args.byte c.args.text.now c.loop-b.b-index c.loop-b.found (search rules) (search rules) c.loop-b.invariant

pub returns : goal.returns
returns c = byte_all c.args.byte c.args.text.now _ _ (search rules) c.loop-b.invariant
