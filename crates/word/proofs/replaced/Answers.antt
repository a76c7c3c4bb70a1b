-- What the digit weighs is exchanged for what `b` weighs.
use Rattle.word.proofs.Digits.{replaced, replaced_fits, weight_most, weight_fits}
use native.Mathlib.Omega.{arith}
use Rattle.word.proofs.replaced.Goals as goal

pub overflow_mul-old : goal.overflow_mul-old
overflow_mul-old c = let a = c.args in rw (c.digit.ensures, c.power-p.ensures) (let h = weight_most a.i a.w in omega arith)

pub overflow_mul-new : goal.overflow_mul-new
overflow_mul-new c = let a = c.args in rw c.power-p.ensures (let h = weight_fits a.i a.b c.if-i-lt8.true (omega arith) in omega arith)

pub overflow_sub-rest : goal.overflow_sub-rest
overflow_sub-rest c = let a = c.args in rw (c.digit.ensures, c.power-p.ensures) (weight_most a.i a.w)

pub overflow_add-result : goal.overflow_add-result
overflow_add-result c =
    let a = c.args in
    rw (c.digit.ensures, c.power-p.ensures)
    (let h = replaced_fits a.w a.i a.b (omega arith) c.if-i-lt8.true (omega arith) in omega arith)

pub returns-then-i-lt8 : goal.returns-then-i-lt8
returns-then-i-lt8 c = let a = c.args in rw (c.digit.ensures, c.power-p.ensures) (replaced a.w a.i a.b (omega arith))
