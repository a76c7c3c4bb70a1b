-- The digits and the byte behind them.
use native.Mathlib.Omega.{arith}
use Rattle.script_lines.specs.Fields.{field_of}
use Rattle.script_text.proofs.Writers.{wrote_then}
use Rattle.script_lines.proofs.Lines.{field_length}
use Rattle.script_text.proofs.put_field.Goals as goal

pub put_digits-a-requires : goal.put_digits-a-requires
put_digits-a-requires c =
    let a = c.args in
    omega (arith, field_length a.n a.end)

pub put_byte-requires : goal.put_byte-requires
put_byte-requires c =
    let a = c.args in
    omega (arith, field_length a.n a.end)

pub returns : goal.returns
unfolding field_of
returns c = wrote_then c.put_digits-a.ensures c.put_byte.ensures
