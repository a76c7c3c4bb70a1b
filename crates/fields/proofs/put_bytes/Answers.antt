-- The next byte has room in the tail, since the whole fits; its raw bytes are the first of the rest.
use Rattle.fields.proofs.Going.{going_room, going_more, going_all}
use Rattle.fields.proofs.Laws.{escaped_next, escaped_end}
use Rattle.fields.proofs.put_bytes.Goals as goal

pub put_byte-at-requires : goal.put_byte-at-requires
put_byte-at-requires c = going_room c.loop-b.invariant _ _ (escaped_next c.args.bytes.now c.loop-b.b-index c.loop-b-test.true) c.requires

pub loop-b-preserved : goal.loop-b-preserved
loop-b-preserved c =
    going_more c.loop-b.invariant _ _ (escaped_next c.args.bytes.now c.loop-b.b-index c.loop-b-test.true) c.put_byte-at.ensures

pub returns : goal.returns
returns c = going_all c.loop-b.invariant (escaped_end c.args.bytes.now c.loop-b.b-index c.loop-b-test.false)
