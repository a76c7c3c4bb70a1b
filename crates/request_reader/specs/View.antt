-- How a reader record with its lent body stands for the rules' reader, and what a step promises.
use Rattle.std.specs.Prelude.{ℕ, ◌≡◌, Bool, true, false, cond, ◌&&◌, List, eqb, ltb, length, take}
use Rattle.serial_rules.specs.Escape as escape
use Rattle.serial_rules.specs.Call as call
use Rattle.serial_rules.specs.Body as body
use Rattle.serial_rules.specs.Lent.{turn_lent}
use Rattle.serial_rules.specs.Reader as rules
use Rattle.carrier.specs.declared.Carrier.{Carrier}
use Rattle.carrier.specs.Carriers.{carrier_of}
use Rattle.request_reader.specs.declared.Phase.{Phase}
use Rattle.request_reader.specs.declared.Phase.TheVariants.{Outside, Inside, Stopped}
use Rattle.request_reader.specs.declared.Reader.{Reader}
use Rattle.request_reader.specs.declared.Answer.{Answer}
use Rattle.request_reader.specs.declared.Answer.TheVariants.{More, Character, Request, Refused}
use Rattle.request_reader.specs.declared.Stepped.{Stepped}
use Rattle.refusal.specs.declared.Refusal.{Refusal}
use Rattle.refusal.specs.Refusals.{number, refusal_at}

-- how many bytes are lent for a body
abbrev pub body_room : ℕ
body_room = 273

-- "one whose record exceeds its limits counts as stopped": outside a request style, code and count are 0; inside one the style is the
-- carrier's, the code has a body, and the count is below that code's longest body
abbrev pub outside_limits : Reader → Bool
outside_limits r = eqb r.style 0 && (eqb r.code 0 && eqb r.count 0)

unfoldable pub inside_limits : Reader → Bool
inside_limits r = call.style_ok (carrier_of r.carrier) r.style && ltb r.count (body.longest_body r.code)

abbrev pub limits_in : Phase → Reader → Bool
limits_in Outside r = outside_limits r
limits_in Inside r = inside_limits r
limits_in Stopped r = true

abbrev pub keeps_limits : Reader → Bool
keeps_limits r = limits_in r.phase r

-- the phase that a record counts as
abbrev pub standing_of : Reader → Phase
standing_of r = cond (keeps_limits r) r.phase Stopped

abbrev pub placed : Phase → Bool → ℕ → ℕ → List ℕ → rules.Reader
placed Outside e style code s = rules.outside e
placed Inside e style code s = rules.inside e style code s
placed Stopped e style code s = rules.stopped

-- the abstraction function: the body so far is the first `count` bytes of the lent body
abbrev pub view_of : Reader → List ℕ → rules.Reader
view_of r lent = placed (standing_of r) r.escape r.style r.code (take r.count lent)

-- each answer's number and values; a finished body is the first `length` bytes of the lent body
abbrev pub answer_of : Answer → List ℕ → rules.Answer
answer_of More lent = rules.need_more
answer_of (Character b) lent = rules.character b
answer_of (Request style code n) lent = rules.request style code (take n lent)
answer_of (Refused r) lent = rules.refusal (number r)

-- the program's answer to one of the rules: a finished request tells how long its body is
abbrev pub answer_for : rules.Answer → Answer
answer_for rules.need_more = More
answer_for (rules.character b) = Character b
answer_for (rules.request style code s) = Request style code (length s)
answer_for (rules.refusal n) = Refused (refusal_at n)

-- every lent byte after a raw byte: a data byte that the body takes stands behind the bytes so far, and no other byte changes
abbrev pub piece_lent : List ℕ → ℕ → List ℕ → escape.Piece → List ℕ
piece_lent lent code s escape.pending = lent
piece_lent lent code s (escape.data_byte b) = turn_lent lent (length s) b (body.body_turn code s b)
piece_lent lent code s (escape.mark m) = lent

unfoldable pub lent_after : call.Carrier → rules.Reader → ℕ → List ℕ → List ℕ
lent_after carrier rules.stopped raw lent = lent
lent_after carrier (rules.outside e) raw lent = lent
lent_after carrier (rules.inside e style code s) raw lent = piece_lent lent code s (rules.piece_inside carrier e raw)

-- the record of a fresh reader
abbrev pub fresh : Carrier → Reader
fresh carrier = record { carrier = carrier; phase = Outside; escape = false; style = 0; code = 0; count = 0 }

-- the record with its reader stopped
abbrev pub stopped_from : Reader → Reader
stopped_from r = record { carrier = r.carrier; phase = Stopped; escape = r.escape; style = r.style; code = r.code; count = r.count }

-- What `step` promises of the reader, the lent body before and after, the raw byte and the result, for every one of them.
pub record StepDone (reader : Reader) (lent : List ℕ) (raw : ℕ) (r : Stepped) (left : List ℕ) : Type 0 where
  pub answer : answer_of r.answer left ≡ (rules.step (carrier_of reader.carrier) (view_of reader lent) raw).answer
  pub answer_is : r.answer ≡ answer_for (rules.step (carrier_of reader.carrier) (view_of reader lent) raw).answer
  pub next : view_of r.reader left ≡ (rules.step (carrier_of reader.carrier) (view_of reader lent) raw).next
  pub bytes : left ≡ lent_after (carrier_of reader.carrier) (view_of reader lent) raw lent
  pub carrier : r.reader.carrier ≡ reader.carrier
  -- a stopped reader is unchanged; any other refusal leaves the record given, stopped
  pub kept : view_of reader lent ≡ rules.stopped → r.reader ≡ reader
  pub stops : (n : Refusal) → (view_of reader lent ≡ rules.stopped → ⊥) → r.answer ≡ Refused n → r.reader ≡ stopped_from reader
