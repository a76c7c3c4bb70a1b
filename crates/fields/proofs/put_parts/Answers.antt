-- The next field has room in the tail, since the whole fits; its raw bytes are the first of the rest.
use Rattle.fields.proofs.Going.{going_room, going_more, going_all}
use Rattle.fields.proofs.Laws.{fields_next, fields_end}
use Rattle.fields.proofs.put_parts.Goals as goal

pub put_data-at-requires : goal.put_data-at-requires
put_data-at-requires c = going_room c.loop-field.invariant _ _ (fields_next c.args.carrier c.args.fields.now c.loop-field.field-index _ c.loop-field-test.true) c.requires

pub loop-field-preserved : goal.loop-field-preserved
loop-field-preserved c =
    going_more c.loop-field.invariant _ _ (fields_next c.args.carrier c.args.fields.now c.loop-field.field-index _ c.loop-field-test.true) c.put_data-at.ensures

pub returns : goal.returns
returns c = going_all c.loop-field.invariant (fields_end c.args.carrier c.args.fields.now c.loop-field.field-index c.loop-field-test.false)
