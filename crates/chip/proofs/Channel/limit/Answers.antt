-- With V set the capacity decides; with V clear R3 takes a byte only when empty.
use Rattle.chip.proofs.Parts.{capacity_at, limit_at}
use Rattle.chip_rules.specs.State.{R3}
use Prim.Native.Nat.{◌/◌}
use lib.Dec.{eqb}
use mathlib.Core.Bool.{and-false, and-true}
use Rattle.chip.proofs.Channel.limit.Goals as goal

pub returns-then-has_bit : goal.returns-then-has_bit
returns-then-has_bit c =
    rw (← c.has_bit.ensures, c.if-has_bit.true, and-false (eqb (c.args.self.index / 2) R3), c.digit.ensures) (capacity_at c.args.self.index c.args.self.within)

pub returns-else-has_bit : goal.returns-else-has_bit
returns-else-has_bit c =
    rw (← c.has_bit.ensures, c.if-has_bit.false, and-true (eqb (c.args.self.index / 2) R3), c.digit-else-has_bit.ensures) (limit_at c.args.self.index c.args.self.within)
