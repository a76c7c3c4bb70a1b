-- By definition, since no weight is zero; a word has no digit behind the eighth.
use Rattle.word.proofs.Digits.{power_some, digit_behind}
use Rattle.word.specs.Word.{digit}
use mathlib.Core.Path.{sym}
use native.Mathlib.Omega.{arith}
use Rattle.word.proofs.digit.Goals as goal

pub nonzero_div-byte : goal.nonzero_div-byte
nonzero_div-byte c = rw c.power.ensures (power_some c.args.i)

pub returns-then-i-lt8 : goal.returns-then-i-lt8
unfolding digit
returns-then-i-lt8 c = rw c.power.ensures

pub returns-else-i-lt8 : goal.returns-else-i-lt8
returns-else-i-lt8 c = sym (digit_behind c.args.w c.args.i (omega arith) (omega arith))
