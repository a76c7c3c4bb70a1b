-- The program's carriers, as the rules speak of them, and their numbers.
use Rattle.std.specs.Prelude.{ℕ, cond, eqb, leb, Result, Ok, Err}
use Rattle.serial_rules.specs.Call as rules
use Rattle.refusal.specs.declared.Refusal.{Refusal}
use Rattle.refusal.specs.declared.Refusal.TheVariants.{BadField}
use Rattle.carrier.specs.declared.Carrier.{Carrier}
use Rattle.carrier.specs.declared.Carrier.TheVariants.{Serial, Parallel}

abbrev pub carrier_of : Carrier → rules.Carrier
carrier_of Serial = rules.serial
carrier_of Parallel = rules.parallel

-- 0 is the serial lead, 1 the parallel side; a number above the last falls to the last
abbrev pub carrier_at : ℕ → Carrier
carrier_at n = cond (eqb n 0) Serial Parallel

abbrev pub last_carrier : ℕ
last_carrier = 1

-- the carrier of a number, or that the number is a field that breaks its rule
abbrev pub carrier_from : ℕ → Result Carrier Refusal
carrier_from n = cond (leb n last_carrier) (Ok (carrier_at n)) (Err BadField)

abbrev pub carrier_number : Carrier → ℕ
carrier_number Serial = 0
carrier_number Parallel = 1
