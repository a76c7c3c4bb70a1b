-- The request reader as a machine on raw bytes, on either carrier.
use Rattle.std.specs.Prelude.{ℕ, Bool, true, false, cond, List, [], ◌∷◌, ◌++◌, eqb}
use Rattle.serial_rules.specs.Escape.{Piece, pending, data_byte, mark, piece_of}
use Rattle.serial_rules.specs.Marks.{is_code, style_of, code_in, starts_request}
use Rattle.serial_rules.specs.Call.{Carrier, serial, parallel}
use Rattle.serial_rules.specs.Body.{Turn, more, done, refused, body_turn}

-- What is compared of a reader: stopped; outside a request; or inside one, with its style, code and body bytes so far.
-- The flag says that an escape was seen.
pub data Reader : Type 0 where
  stopped : Reader
  outside : Bool → Reader
  inside : Bool → ℕ → ℕ → List ℕ → Reader

-- what a raw byte gives: need-more, a character, a finished request, or a refusal with its number
pub data Answer : Type 0 where
  need_more : Answer
  character : ℕ → Answer
  request : ℕ → ℕ → List ℕ → Answer
  refusal : ℕ → Answer

pub record Step : Type 0 where
  pub answer : Answer
  pub next : Reader

abbrev pub gives : Answer → Reader → Step
gives a r = record { answer = a; next = r }

-- a refused byte stops the reader until it is reset (the customer's demand 1)
abbrev pub stops : ℕ → Step
stops n = gives (refusal n) stopped

-- The pieces of the raw bytes. On the parallel carrier a byte outside is a plain code, and a byte inside is data.
abbrev pub piece_outside : Carrier → Bool → ℕ → Piece
piece_outside serial e raw = piece_of e raw
piece_outside parallel e raw = mark raw

abbrev pub piece_inside : Carrier → Bool → ℕ → Piece
piece_inside serial e raw = piece_of e raw
piece_inside parallel e raw = data_byte raw

-- "A mark outside starts one"; 4: "mark or request code not carried"
abbrev pub starts : Carrier → ℕ → Bool
starts serial m = starts_request m
starts parallel m = is_code m

-- OSRDCHIO, code &00, has no body and is finished at its mark
abbrev pub begun : ℕ → ℕ → Step
begun style code = cond (eqb code 0) (gives (request style 0 []) (outside false)) (gives need_more (inside false style code []))

-- "Data outside a request is an OSWRCH character."
abbrev pub outside_step : Carrier → Piece → Step
outside_step carrier pending = gives need_more (outside true)
outside_step carrier (data_byte b) = gives (character b) (outside false)
outside_step carrier (mark m) = cond (starts carrier m) (begun (style_of m) (code_in m)) (stops 4)

abbrev pub turned : ℕ → ℕ → List ℕ → ℕ → Turn → Step
turned style code s b more = gives need_more (inside false style code (s ++ (b ∷ [])))
turned style code s b done = gives (request style code (s ++ (b ∷ []))) (outside false)
turned style code s b (refused n) = stops n

-- 5: "mark inside a request"
abbrev pub inside_step : ℕ → ℕ → List ℕ → Piece → Step
inside_step style code s pending = gives need_more (inside true style code s)
inside_step style code s (data_byte b) = turned style code s b (body_turn code s b)
inside_step style code s (mark m) = stops 5

-- One raw byte. "Reader: 7, 5, 4, 6, 9."
unfoldable pub step : Carrier → Reader → ℕ → Step
step carrier stopped raw = stops 7
step carrier (outside e) raw = outside_step carrier (piece_outside carrier e raw)
step carrier (inside e style code s) raw = inside_step style code s (piece_inside carrier e raw)
