-- A script of accesses (document 01: 'The script program').
use Rattle.std.specs.Prelude.{ℕ, zero, suc, ◌*◌, ◌/◌, ◌%◌, ◌≡◌, Bool, cond, List, [], ◌∷◌, ◌++◌, leb, eqb, length, drop}
use Rattle.chip.specs.declared.Chip.{Chip}
use Rattle.chip.specs.Record.{view, repaired}
use Rattle.chip.specs.Promise.{access_of, History}
use Rattle.chip_rules.specs.State.{Reply}
use Rattle.chip_rules.specs.History.{View, Event, accessed, was_reset, says, line_value, next, run, replies}
use Rattle.script.specs.declared.Stepped.{Stepped}
use Rattle.script.specs.declared.Played.{Played}

-- "kind (0 host read, 1 host write, 2 parasite read, 3 parasite write, 4 reset, others answer 1), offset, byte. Reset ignores the last two."
-- A kind above 4 is an access of side 2 or above, which does not exist.
abbrev pub event_of : ℕ → ℕ → ℕ → Event
event_of kind offset byte = cond (eqb kind 4) was_reset (accessed (access_of (kind / 2) offset (eqb (kind % 2) 1) byte))

-- "Records of three bytes": the records played of a script with a limit
unfoldable pub records : ℕ → List ℕ → List Event
records zero s = []
records (suc n) [] = []
records (suc n) (k ∷ []) = []
records (suc n) (k ∷ o ∷ []) = []
records (suc n) (k ∷ o ∷ b ∷ s) = event_of k o b ∷ records n s

-- the final answer: 10 "play limit reached, script bytes remain", then 11 "script ends inside a record", else 0
unfoldable pub final_answer : ℕ → List ℕ → ℕ
final_answer zero [] = 0
final_answer zero (k ∷ s) = 10
final_answer (suc n) [] = 0
final_answer (suc n) (k ∷ []) = 11
final_answer (suc n) (k ∷ o ∷ []) = 11
final_answer (suc n) (k ∷ o ∷ b ∷ s) = final_answer n s

-- what a record is answered; a reset is done
abbrev pub reply_to : View Chip → Event → Reply
reply_to v (accessed a) = says v a
reply_to v was_reset = record { answer = 0; byte = 0 }

-- "One line a record: answer, byte, line value": the result bytes of records from a view on
unfoldable pub results_of : View Chip → List Event → List ℕ
results_of v [] = []
results_of v (e ∷ es) = (reply_to v e).answer ∷ (reply_to v e).byte ∷ line_value (next repaired v e) ∷ results_of (next repaired v e) es

-- the events done from record k to record l, each by what `access` or `reset` promises, with the rules' replies
abbrev pub Done : Chip → List Event → Chip → Type 0
Done k es l = History k es (replies repaired (view k) es) l

-- What `step` promises: the event is done, and the result bytes are its own.
pub record StepDone (chip : Chip) (e : Event) (r : Stepped) : Type 0 where
  pub steps : Done chip (e ∷ []) r.chip
  pub results : r.answer ∷ r.byte ∷ r.lines ∷ [] ≡ results_of (view chip) (e ∷ [])

-- the first n records of a script, with their results in the lent bytes; those beyond stay
pub record RecordsDone (chip : Chip) (script : List ℕ) (n : ℕ) (before : List ℕ) (r : Chip) (left : List ℕ) : Type 0 where
  pub steps : Done chip (records n script) r
  pub results : left ≡ results_of (view chip) (records n script) ++ drop (3 * n) before

-- the room that the results of a script need is there
unfoldable pub fits : ℕ → List ℕ → List ℕ → Bool
fits limit script lent = leb (3 * length (records limit script)) (length lent)

-- the records played: all that the limit allows, or none where their results do not fit (8: "lent buffer shorter than the whole encoding")
abbrev pub played_of : ℕ → List ℕ → List ℕ → List Event
played_of limit script lent = cond (fits limit script lent) (records limit script) []

-- What `play` promises of the chip, the script, the limit, the lent bytes before and after, and its result.
pub record PlayDone (chip : Chip) (script : List ℕ) (limit : ℕ) (before : List ℕ) (r : Played) (left : List ℕ) : Type 0 where
  -- refused records count
  pub count : r.played ≡ length (played_of limit script before)
  pub answer : r.answer ≡ cond (fits limit script before) (final_answer limit script) 8
  -- the state after the records played, and each step on the way to the record returned
  pub state : view r.chip ≡ run repaired (view chip) (played_of limit script before)
  pub steps : Done chip (played_of limit script before) r.chip
  -- every lent byte: the results, then the bytes beyond as they were
  pub results : left ≡ results_of (view chip) (played_of limit script before) ++ drop (3 * length (played_of limit script before)) before

-- The replies to the accesses of a script, read off its result bytes.
unfoldable pub replies_in : List Event → List ℕ → List Reply
replies_in [] l = []
replies_in (e ∷ es) [] = []
replies_in (e ∷ es) (x ∷ []) = []
replies_in (e ∷ es) (x ∷ y ∷ []) = []
replies_in (was_reset ∷ es) (x ∷ y ∷ z ∷ l) = replies_in es l
replies_in (accessed a ∷ es) (x ∷ y ∷ z ∷ l) = record { answer = x; byte = y } ∷ replies_in es l
