-- Clearing V loses nothing, and R3 then has no room until its bytes have gone.
use Prim.Native.Nat.{ℕ, suc, ◌/◌}
use mathlib.Core.Path.{◌≡◌}
use mathlib.Core.Bool.{true, false}
use native.Mathlib.Omega.{arith}
use lib.Dec.{eqb}
use borrow.Author.Tests.{le-ltb, lt-ltb}
use Rattle.chip_rules.specs.State.{Flags, State, R3}
use Rattle.chip_rules.specs.Rules.{room, clears, controlled}

-- control that is no clear leaves every byte held
pub control_keeps : (b : ℕ) (s : State) → clears b ≡ false → (controlled b s).channels ≡ s.channels
control_keeps b s h = rw h

pub record Latched (f : Flags) (c : ℕ) : Type 0 where
  pub held : (n : ℕ) → room f c (suc n) ≡ false
  pub empty : room f c 0 ≡ true

pub no_room_until_empty : (f : Flags) (c : ℕ) → eqb (c / 2) R3 ≡ true → f.v ≡ false → Latched f c
unfolding room
no_room_until_empty f c r v = record { held = λ n. rw (r, v) (le-ltb (suc n) 1 (omega arith)); empty = rw (r, v) (lt-ltb 0 1 (omega arith)) }
