-- The raw bytes of data bytes on a carrier of the program.
use Rattle.std.specs.Prelude.{ℕ, List, [], ◌∷◌, ◌++◌}
use Rattle.std.specs.Borrow.{Bor}
use Rattle.serial_rules.specs.Escape.{escapes}
use Rattle.serial_rules.specs.Call.{carried}
use Rattle.carrier.specs.declared.Carrier.{Carrier}
use Rattle.carrier.specs.declared.Carrier.TheVariants.{Serial, Parallel}
use Rattle.carrier.specs.Carriers.{carrier_of}

-- data bytes on the carrier: escaped, or as they are
unfoldable pub coded : Carrier → List ℕ → List ℕ
coded carrier l = carried (carrier_of carrier) l

-- the bytes that the carrier adds to them
unfoldable pub added_on : Carrier → List ℕ → ℕ
added_on Serial l = escapes l
added_on Parallel l = 0

-- the fields, one behind the other
abbrev pub joined : List (Bor (List ℕ)) → List ℕ
joined [] = []
joined (f ∷ fs) = f.now ++ joined fs

-- the raw bytes of a heading and fields
abbrev pub parts_raw : Carrier → List ℕ → List (Bor (List ℕ)) → List ℕ
parts_raw carrier h fs = h ++ coded carrier (joined fs)
