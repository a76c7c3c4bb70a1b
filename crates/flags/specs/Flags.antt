-- How one number stores the flags that the rules speak of.
use Rattle.std.specs.Prelude.{ℕ, ◌/◌, ◌≡◌}
use Rattle.chip_rules.specs.State.{Flags}
use Rattle.chip_rules.specs.Rules.{bit, control}

-- the flags are bits 5 to 0
abbrev pub flags_of : ℕ → Flags
flags_of n = record { p = bit n 32; v = bit n 16; m = bit n 8; j = bit n 4; i = bit n 2; q = bit n 1 }

-- the flags f after the control byte x; what lies above them is kept
pub record FlagsAfter (x f r : ℕ) : Type 0 where
  pub flags : flags_of r ≡ control x (flags_of f)
  pub bits : r / 64 ≡ f / 64
