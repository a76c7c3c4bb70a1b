-- Two numbers, two bytes that end them, and the four of the word.
use native.Mathlib.Omega.{arith}
use Rattle.script_lines.proofs.Lines.{end_length}
use Rattle.script_lines.proofs.end_length.Goals as goal

pub returns : goal.returns
returns c = let a = c.args in omega (arith, end_length a.played a.answer)
