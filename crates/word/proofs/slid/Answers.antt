-- Below the weight of digit `n` the word one digit down, above it the word itself.
use Rattle.word.proofs.Digits.{slid, slid_fits, all_slid, power_some}
use native.Mathlib.Omega.{arith}
use Rattle.word.proofs.slid.Goals as goal

pub nonzero_rem-below : goal.nonzero_rem-below
nonzero_rem-below c = rw c.power-p.ensures (power_some c.args.n)

pub nonzero_rem-kept : goal.nonzero_rem-kept
nonzero_rem-kept c = rw c.power-p.ensures (power_some c.args.n)

pub overflow_add-result : goal.overflow_add-result
overflow_add-result c = let a = c.args in rw c.power-p.ensures (let h = slid_fits a.w a.n c.if-n-lt8.true (omega arith) in omega arith)

pub returns-then-n-lt8 : goal.returns-then-n-lt8
returns-then-n-lt8 c = rw c.power-p.ensures (slid c.args.w c.args.n)

pub returns-else-n-lt8 : goal.returns-else-n-lt8
returns-else-n-lt8 c = all_slid c.args.w c.args.n (omega arith) (omega arith)
