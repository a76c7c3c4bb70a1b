-- The word, the count and the answer written one after the other are the last line; each need of room follows from its length.
use native.Mathlib.Omega.{arith}
use Rattle.script_text.proofs.Writers.{wrote_then}
use Rattle.script_lines.proofs.Lines.{end_fields, end_length, field_length}
use Rattle.script_text.proofs.put_end.Goals as goal

pub put_end_word-a-requires : goal.put_end_word-a-requires
put_end_word-a-requires c = omega (arith, simp end_length at c.requires)

pub put_field-b-requires : goal.put_field-b-requires
put_field-b-requires c = simp field_length (omega (arith, simp end_length at c.requires))

pub put_field-requires : goal.put_field-requires
put_field-requires c =
    let b = simp field_length at c.put_field-b.ensures.next in
    simp field_length (omega (arith, simp end_length at c.requires))

pub returns : goal.returns
returns c =
    let a = wrote_then c.put_end_word-a.ensures c.put_field-b.ensures in
    rw end_fields (wrote_then a c.put_field.ensures)
