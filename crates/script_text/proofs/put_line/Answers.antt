-- Three fields written one after the other are the line; each need of room follows from its length.
use native.Mathlib.Omega.{arith}
use Rattle.script_text.proofs.Writers.{wrote_then}
use Rattle.script_lines.proofs.Lines.{line_fields, line_length, field_length}
use Rattle.script_text.proofs.put_line.Goals as goal

pub put_field-a-requires : goal.put_field-a-requires
put_field-a-requires c = simp field_length (omega (arith, simp line_length at c.requires))

pub put_field-b-requires : goal.put_field-b-requires
put_field-b-requires c =
    let a = simp field_length at c.put_field-a.ensures.next in
    simp field_length (omega (arith, simp line_length at c.requires))

pub put_field-requires : goal.put_field-requires
put_field-requires c =
    let a = simp field_length at c.put_field-a.ensures.next in
    let b = simp field_length at c.put_field-b.ensures.next in
    simp field_length (omega (arith, simp line_length at c.requires))

pub returns : goal.returns
returns c =
    let a = wrote_then c.put_field-a.ensures c.put_field-b.ensures in
    rw line_fields (wrote_then a c.put_field.ensures)
