-- A plain byte in the middle of a field needs no reader.
use Rattle.flat_request.proofs.Field.{field_read}
use Rattle.flat_request.proofs.read_inside.Goals as goal

pub returns-then-in_field : goal.returns-then-in_field
returns-then-in_field c = field_read (c.in_field.ensures c.if-in_field.true) c.told-body c.next_place.ensures c.flat_read.ensures
