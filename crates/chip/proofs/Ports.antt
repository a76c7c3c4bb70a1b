-- The sides and registers by their numbers, and bit 7 of a status by the port.
use Prim.Native.Nat.{ℕ, ◌/◌, ◌<◌, ◌≤◌}
use native.Mathlib.Omega.{arith}
use mathlib.Core.Bool.{Bool, true, false, ◌&&◌, and-false, true≢false}
use mathlib.Core.Path.{◌≡◌, refl, sym}
use lib.Dec.{ltb}
use borrow.Author.Tests.{le-leb, lt-leb}
use denote.Enum.Bare.{sameb}
use Rattle.chip.specs.contracts.Side as side
use Rattle.chip.specs.contracts.Register as register
use Rattle.chip.specs.declared.Side.{Side}
use Rattle.chip.specs.declared.Side.TheVariants.{Host, Parasite}
use Rattle.chip.specs.declared.Register.{Register}
use Rattle.chip.specs.declared.Register.TheVariants.{R1, R2, R3, R4}
use Rattle.chip.specs.Steps.{side_of, register_of}
use Rattle.chip_rules.specs.State.{Flags, toward, Access}
use Rattle.chip_rules.specs.Rules.{n_flag, ready, exists}

module _ (a : Access) where
  pub no_side : 1 < a.side → exists a ≡ false
  no_side h = rw (lt-leb a.side 1 h) refl

  pub no_register : 3 < a.offset / 2 → exists a ≡ false
  no_register h = rw (lt-leb a.offset 7 (omega arith)) (and-false _)

  pub both_there : (s : Side) (r : Register) → side_of s ≡ a.side → register_of r ≡ a.offset / 2 → exists a ≡ true
  both_there s r e f = rw (le-leb a.side 1 (near s e), le-leb a.offset 7 (low r f)) refl
    where
      near : (s : Side) → side_of s ≡ a.side → a.side ≤ 1
      near Host e = omega arith
      near Parasite e = omega arith

      low : (r : Register) → register_of r ≡ a.offset / 2 → a.offset ≤ 7
      low R1 e = omega arith
      low R2 e = omega arith
      low R3 e = omega arith
      low R4 e = omega arith

-- the test of the code for the parasite's R3
abbrev is_parasite_R3 : Side → Register → Bool
is_parasite_R3 s r = sameb side.the_type s Parasite && sameb register.the_type r R3

module _ (f : Flags) where
  pub ready_n : (s : Side) (r : Register) (n : ℕ → ℕ) → is_parasite_R3 s r ≡ true
      → ready f (side_of s) (register_of r) (n (toward (side_of s) (register_of r))) ≡ n_flag f (n 4)
  unfolding ready
  ready_n Parasite R3 n e = refl
  ready_n _ _ n e = absurd (true≢false (sym e))

  pub ready_held : (s : Side) (r : Register) (n : ℕ → ℕ) → is_parasite_R3 s r ≡ false
      → ltb 0 (n (toward (side_of s) (register_of r))) ≡ ready f (side_of s) (register_of r) (n (toward (side_of s) (register_of r)))
  unfolding ready
  ready_held Parasite R3 n e = absurd (true≢false e)
  ready_held _ _ n e = refl
