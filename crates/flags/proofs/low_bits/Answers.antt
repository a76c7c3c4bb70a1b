-- R1 shows the flags, which are the remainder by 64; every other register ones.
use Rattle.flags.proofs.Bits.{low_six}
use Rattle.chip_rules.specs.Rules.{low}
use mathlib.Core.Path.{refl, sym}
use native.Mathlib.Omega.{arith}
use borrow.Author.Tests.{eq-eqb, ne_eqb}
use Rattle.flags.proofs.low_bits.Goals as goal

pub returns-then-register-eq0 : goal.returns-then-register-eq0
unfolding low
returns-then-register-eq0 c = rw (eq-eqb _ _ c.if-register-eq0.true) (sym (low_six c.args.flags), omega arith)

pub returns-else-register-eq0 : goal.returns-else-register-eq0
unfolding low
returns-else-register-eq0 c = rw (ne_eqb _ _ c.if-register-eq0.false) (refl, omega arith)
