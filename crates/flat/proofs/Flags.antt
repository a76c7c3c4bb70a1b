-- A flag there and back, and a number there and back; a test that fails.
use Prim.Native.Nat.{ℕ, zero, suc}
use native.Mathlib.Omega.{arith}
use mathlib.Core.Path.{◌≡◌, refl, sym}
use mathlib.Core.Bool.{Bool, true, false, cond, not, true≢false}
use borrow.Author.Tests.{ne_eqb}
use lib.Dec.{eqb}
use Rattle.std.specs.Prelude.{Err}
use Rattle.refusal.specs.declared.Refusal.TheVariants.{TooLong, BadField}
use Rattle.flat.specs.Flat.{flag_number, flat_written, unwritten_with}

pub not_zero : (n : ℕ) → eqb (suc n) 0 ≡ false
not_zero n = ne_eqb (suc n) 0 (λ h. omega (arith, h))

pub flag_back : (given : ℕ) (set : Bool) → not (eqb (flag_number given set) 0) ≡ set
flag_back given false = refl
flag_back zero true = refl
flag_back (suc n) true = simp (not_zero n)

pub flag_same : (n : ℕ) → flag_number n (not (eqb n 0)) ≡ n
flag_same zero = refl
flag_same (suc n) = simp (not_zero n)

-- what holds where a test succeeds need not be shown where it fails
pub never : {X : Type 0} → false ≡ true → X
never e = absurd (true≢false (sym e))

-- a string that is too long comes before a field that breaks its rule
pub refused : (long : Bool) → flat_written (Err (cond long TooLong BadField)) ≡ unwritten_with (cond long 6 9)
refused true = refl
refused false = refl
