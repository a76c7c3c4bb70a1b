-- Flat records for callers in C: numbers for the enums, with total conversions. A tag out of range counts as exceeding the limits.
use Rattle.std.specs.Prelude.{ℕ, ◌≡◌, Bool, true, false, cond, not, ◌&&◌, List, eqb, leb, Option, Some, None, Result, Ok, Err}
use Rattle.refusal.specs.declared.Refusal.{Refusal}
use Rattle.refusal.specs.declared.Refusal.TheVariants as refusal
use Rattle.refusal.specs.Refusals.{number}
use Rattle.carrier.specs.Carriers.{carrier_at, last_carrier, carrier_number}
use Rattle.request_reader.specs.declared.Phase.{Phase}
use Rattle.request_reader.specs.declared.Phase.TheVariants.{Outside, Inside, Stopped}
use Rattle.request_reader.specs.declared.Reader.{Reader}
use Rattle.request_reader.specs.declared.Answer.{Answer}
use Rattle.request_reader.specs.declared.Answer.TheVariants.{More, Character, Request, Refused}
use Rattle.request_reader.specs.declared.Stepped.{Stepped}
use Rattle.request_reader.specs.View.{StepDone}
use Rattle.flat.specs.Flat.{flag_number}
use Rattle.flat_reader.specs.declared.FlatReader.{FlatReader}
use Rattle.flat_reader.specs.declared.FlatRead.{FlatRead}

-- phase 0 is outside a request, 1 inside, 2 stopped
abbrev pub phase_at : ℕ → Phase
phase_at n = cond (eqb n 0) Outside (cond (eqb n 1) Inside Stopped)

-- the phase of a number, or that it is none
abbrev pub phase_from : ℕ → Option Phase
phase_from n = cond (leb n 2) (Some (phase_at n)) None

abbrev pub phase_number : Phase → ℕ
phase_number Outside = 0
phase_number Inside = 1
phase_number Stopped = 2

-- an escape was seen where its number is not 0
abbrev pub reader_of : FlatReader → Reader
reader_of f =
    record { carrier = carrier_at f.carrier; phase = phase_at f.phase; escape = not (eqb f.escape 0); style = f.style; code = f.code; count = f.count }

unfoldable pub tags_ok : FlatReader → Bool
tags_ok f = leb f.carrier last_carrier && leb f.phase 2

-- the reader of a record; one with a number out of range counts as stopped
abbrev pub reader_from : FlatReader → Result Reader Refusal
reader_from f = cond (tags_ok f) (Ok (reader_of f)) (Err refusal.Stopped)

abbrev pub fresh_reader : ℕ → FlatReader
fresh_reader carrier = record { count = 0; carrier = carrier; phase = 0; escape = 0; style = 0; code = 0 }

-- The flat record of a reader. The number of a seen escape stays where it stands for the same, so that a reader unchanged is a record unchanged.
abbrev pub flat_of : ℕ → Reader → FlatReader
flat_of given r =
    record { count = r.count; carrier = carrier_number r.carrier; phase = phase_number r.phase; escape = flag_number given r.escape; style = r.style; code = r.code }

-- The flat result of an answer: kind 0 needs more, 1 is a character, 2 a request, 3 a refusal; what the kind does not name is 0.
abbrev pub flat_plain : FlatReader → ℕ → ℕ → FlatRead
flat_plain f kind value = record { reader = f; length = 0; kind = kind; value = value; style = 0; code = 0 }

abbrev pub flat_read : FlatReader → Answer → FlatRead
flat_read f More = flat_plain f 0 0
flat_read f (Character b) = flat_plain f 1 b
flat_read f (Request style code n) = record { reader = f; length = n; kind = 2; value = 0; style = style; code = code }
flat_read f (Refused r) = flat_plain f 3 (number r)

-- a step of the record's reader, and its result is flat
pub record FlatReaderStepped (f : FlatReader) (lent : List ℕ) (raw : ℕ) (r : FlatRead) (left : List ℕ) : Type 0 where
  pub stepped : Stepped
  pub done : StepDone (reader_of f) lent raw stepped left
  pub is : r ≡ flat_read (flat_of f.escape stepped.reader) stepped.answer

-- What `read` promises of the flat reader, the lent body before and after, the raw byte and the result. A record with a number out of range
-- refuses the byte as a stopped reader does, and is unchanged.
pub record FlatDone (f : FlatReader) (lent : List ℕ) (raw : ℕ) (r : FlatRead) (left : List ℕ) : Type 0 where
  pub known : tags_ok f ≡ true → FlatReaderStepped f lent raw r left
  pub unknown : tags_ok f ≡ false → (r ≡ flat_read f (Refused refusal.Stopped)) × (left ≡ lent)
