-- A carrier comes back from its number, and a number in range from its carrier.
use Prim.Native.Nat.{ℕ, zero, suc}
use native.Mathlib.Omega.{arith}
use mathlib.Core.Path.{◌≡◌, refl}
use mathlib.Core.Bool.{true}
use lib.Dec.{leb}
use borrow.Author.Tests.{leb-true}
use Rattle.carrier.specs.declared.Carrier.{Carrier}
use Rattle.carrier.specs.declared.Carrier.TheVariants.{Serial, Parallel}
use Rattle.carrier.specs.Carriers.{carrier_at, last_carrier, carrier_number}

pub carrier_back : (k : Carrier) → carrier_at (carrier_number k) ≡ k
carrier_back Serial = refl
carrier_back Parallel = refl

pub carrier_tag : (k : Carrier) → leb (carrier_number k) last_carrier ≡ true
carrier_tag Serial = refl
carrier_tag Parallel = refl

pub carrier_same : (n : ℕ) → leb n last_carrier ≡ true → carrier_number (carrier_at n) ≡ n
carrier_same zero h = refl
carrier_same (suc zero) h = refl
carrier_same (suc (suc n)) h = absurd (omega (arith, leb-true (suc (suc n)) 1 h))
