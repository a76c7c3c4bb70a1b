-- A raw byte in the middle of a field, as the flat record and the lent body show it: what the private functions of `read` promise, which no
-- public contract names.
use Rattle.std.specs.Prelude.{ℕ, ◌+◌, ◌<◌, ◌≡◌, Bool, true, ◌&&◌, List, leb, length, get_or, take}
use Rattle.serial_rules.specs.Call.{style_ok}
use Rattle.turns.specs.Plain.{plain}
use Rattle.middles.specs.Ahead.{ahead_in}
use Rattle.carrier.specs.Carriers.{carrier_of, carrier_at, last_carrier}
use Rattle.flat_reader.specs.declared.FlatReader.{FlatReader}

-- the carrier's number is in range, and the style one of its own
abbrev pub styled : ℕ → ℕ → Bool
styled carrier style = leb carrier last_carrier && style_ok (carrier_of (carrier_at carrier)) style

-- inside a request, its style and its place within the limits, no escape seen, and a plain byte with more to come in its field
pub record InField (f : FlatReader) (lent : List ℕ) (raw : ℕ) : Type 0 where
  pub inside : f.phase ≡ 1
  pub shut : f.escape ≡ 0
  pub style : styled f.carrier f.style ≡ true
  pub byte : plain raw ≡ true
  pub place : f.count < length lent
  pub second : get_or lent 1 0 < 256
  pub ahead : 0 < ahead_in f.code (take f.count lent)

-- the record after one more byte
abbrev pub placed_next : FlatReader → FlatReader
placed_next f = record { count = f.count + 1; carrier = f.carrier; phase = f.phase; escape = f.escape; style = f.style; code = f.code }
