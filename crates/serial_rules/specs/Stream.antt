-- Raw streams: what a reader gives on them, and the raw bytes that its answers and its open part stand for.
use Rattle.std.specs.Prelude.{ℕ, ◌+◌, ◌≡◌, length, replicate, Bool, true, false, List, [], ◌∷◌, ◌++◌}
use Rattle.serial_rules.specs.Escape.{escape}
use Rattle.serial_rules.specs.Call.{Carrier, serial, parallel, carried, heading}
use Rattle.serial_rules.specs.Reader.{Reader, stopped, outside, inside, Answer, need_more, character, request, refusal, step}

-- the first answer on a stream that is not need-more, with the reader after it and the raw bytes left; or the reader where the stream ends before
pub data Fed : Type 0 where
  waiting : Reader → Fed
  gave : Answer → Reader → List ℕ → Fed

abbrev pub fed_by : Answer → Reader → List ℕ → Fed → Fed
fed_by need_more r left f = f
fed_by (character b) r left f = gave (character b) r left
fed_by (request style code s) r left f = gave (request style code s) r left
fed_by (refusal n) r left f = gave (refusal n) r left

unfoldable pub feed : Carrier → Reader → List ℕ → Fed
feed carrier r [] = waiting r
feed carrier r (x ∷ l) = fed_by (step carrier r x).answer (step carrier r x).next l (feed carrier (step carrier r x).next l)

-- where a reader stands after a stream, and its answers
unfoldable pub reader_after : Carrier → Reader → List ℕ → Reader
reader_after carrier r [] = r
reader_after carrier r (x ∷ l) = reader_after carrier (step carrier r x).next l

unfoldable pub answers : Carrier → Reader → List ℕ → List Answer
answers carrier r [] = []
answers carrier r (x ∷ l) = (step carrier r x).answer ∷ answers carrier (step carrier r x).next l

-- the raw bytes of what an answer finished
abbrev pub raw_of : Carrier → Answer → List ℕ
raw_of carrier need_more = []
raw_of carrier (character b) = carried carrier (b ∷ [])
raw_of carrier (request style code s) = heading carrier style code ++ carried carrier s
raw_of carrier (refusal n) = []

unfoldable pub finished : Carrier → List Answer → List ℕ
finished carrier [] = []
finished carrier (a ∷ l) = raw_of carrier a ++ finished carrier l

-- an escape that waits for its second byte
abbrev pub seen : Bool → Carrier → List ℕ
seen false carrier = []
seen true serial = escape ∷ []
seen true parallel = []

-- the raw bytes of the part that is open
abbrev pub opened : Carrier → Reader → List ℕ
opened carrier stopped = []
opened carrier (outside e) = seen e carrier
opened carrier (inside e style code s) = (heading carrier style code ++ carried carrier s) ++ seen e carrier

-- no byte was refused
abbrev pub Accepted : List Answer → Type 0
Accepted [] = Unit
Accepted (need_more ∷ l) = Accepted l
Accepted (character b ∷ l) = Accepted l
Accepted (request style code s ∷ l) = Accepted l
Accepted (refusal n ∷ l) = ⊥

-- On the stream l a reader answers `need-more` until the byte that gives a; `rest` is left behind that byte, for the reader q.
pub record FirstAnswer (carrier : Carrier) (r : Reader) (l : List ℕ) (a : Answer) (q : Reader) (rest : List ℕ) : Type 0 where
  pub waits : ℕ
  pub answers_are : answers carrier r l ≡ replicate waits need_more ++ (a ∷ answers carrier q rest)
  pub place : length l ≡ waits + 1 + length rest
