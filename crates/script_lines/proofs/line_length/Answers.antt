-- Three numbers, and three bytes that end them.
use native.Mathlib.Omega.{arith}
use Rattle.script_lines.proofs.Lines.{line_length}
use Rattle.script_lines.proofs.line_length.Goals as goal

pub returns : goal.returns
returns c = let a = c.args in omega (arith, line_length a.answer a.byte a.line)
