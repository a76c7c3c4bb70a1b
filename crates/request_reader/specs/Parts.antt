-- The private types as the rules speak of them, and what the parts of a step promise.
use Rattle.std.specs.Prelude.{ℕ, ◌≡◌, Bool, List, take, Result, Ok, Err}
use Rattle.serial_rules.specs.Escape as escape
use Rattle.serial_rules.specs.Reader as rules
use Rattle.carrier.specs.Carriers.{carrier_of}
use Rattle.refusal.specs.declared.Refusal.{Refusal}
use Rattle.request_reader.specs.View.{answer_of, answer_for, view_of, piece_lent, stopped_from}
use Rattle.request_reader.specs.declared.Phase.TheVariants.{Outside, Inside}
use Rattle.request_reader.specs.declared.Reader.{Reader}
use Rattle.request_reader.specs.declared.Answer.{Answer}
use Rattle.request_reader.specs.declared.Answer.TheVariants.{More, Refused}
use Rattle.request_reader.specs.declared.Stepped.{Stepped}

-- what a step leaves: the record stopped; outside a request; or inside one
abbrev pub refused_from : Reader → Refusal → Stepped
refused_from r n = record { answer = Refused n; reader = stopped_from r }

abbrev pub resting_from : Reader → Bool → Answer → Stepped
resting_from r e a = record { answer = a; reader = record { carrier = r.carrier; phase = Outside; escape = e; style = 0; code = 0; count = 0 } }

abbrev pub going_from : Reader → Bool → ℕ → ℕ → ℕ → Stepped
going_from r e style code n = record { answer = More; reader = record { carrier = r.carrier; phase = Inside; escape = e; style = style; code = code; count = n } }

-- a step that may be refused
abbrev pub settled : Reader → Result Stepped Refusal → Stepped
settled r (Ok s) = s
settled r (Err n) = refused_from r n

abbrev pub step_of : Stepped → List ℕ → rules.Step
step_of r lent = rules.gives (answer_of r.answer lent) (view_of r.reader lent)

-- The result is that of a step of the rules, and the lent bytes left are `after`; the carrier stays; a refusal leaves the record given,
-- stopped.
pub record ReaderGives (reader : Reader) (step : rules.Step) (after : List ℕ) (r : Stepped) (left : List ℕ) : Type 0 where
  pub step_is : step_of r left ≡ step
  pub answer_is : r.answer ≡ answer_for step.answer
  pub bytes : left ≡ after
  pub carrier : r.reader.carrier ≡ reader.carrier
  pub stops : (n : Refusal) → r.answer ≡ Refused n → r.reader ≡ stopped_from reader

-- a piece outside a request, whatever bytes are lent
abbrev pub OutsideDone : Reader → escape.Piece → Result Stepped Refusal → Type 0
OutsideDone reader p r = (lent : List ℕ) → ReaderGives reader (rules.outside_step (carrier_of reader.carrier) p) lent (settled reader r) lent

-- a piece inside a request
abbrev pub InsideDone : Reader → List ℕ → escape.Piece → Result Stepped Refusal → List ℕ → Type 0
InsideDone reader lent p r left =
    ReaderGives reader
    (rules.inside_step reader.style reader.code (take reader.count lent) p)
    (piece_lent lent reader.code (take reader.count lent) p) (settled reader r) left
