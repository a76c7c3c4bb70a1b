-- The fields of a request in its body.
use mathlib.Core.Path.{◌≡◌}
use mathlib.Core.List.{List}
use Prim.Native.Nat.{ℕ}
use Rattle.serial_rules.specs.Fields as rules
use Rattle.request.specs.Promise.{Asked, fields_in, AskedDone}

-- what was read are the fields
pub fields_are : {s : List ℕ} {f : rules.Fields} {r : Asked} → AskedDone s f r → fields_in r s ≡ f
fields_are d = rw (d.call_is, d.block_at.bytes_are, d.text_at.bytes_are)
