-- What the reader of a recorded reply promises: what it gives is that of the stepwise link over the same bytes, and it is written where the lent bytes
-- have room for all of it. `answer_of`, each outcome's answer, is passed on from action_bytes.
use Rattle.std.specs.Prelude.{ℕ, ◌*◌, ◌≡◌, Bool, true, false, ◌&&◌, List, [], ◌∷◌, leb, length}
use Rattle.escape.specs.Put.{over}
use Rattle.serial_rules.specs.Link as rules
use Rattle.serial_rules.specs.Record as record-rules
use Rattle.serial_rules.specs.Record.{Outcome, ran_out, closed, recorded_reply}
use Rattle.kind.specs.Kinds.{kind_for}
use Rattle.kind.specs.declared.CallKind.{CallKind}
use Rattle.refusal.specs.declared.Refusal.TheVariants.{NoRoom}
use Rattle.refusal.specs.Refusals.{number}
use Rattle.answers.specs.declared.Answer.TheVariants as variant
use Rattle.notes.specs.Notes.{notes_of, data_of}
pub use Rattle.action_bytes.specs.Parts.{answer_of}
use Rattle.recorded.specs.declared.Recorded.{Recorded}

-- the bytes that a report leaves: those of a reply, or the number of an error and its text
abbrev pub bytes_in : rules.Report → List ℕ
bytes_in rules.need_more = []
bytes_in (rules.character b) = []
bytes_in (rules.reply s) = s
bytes_in (rules.escape_state on) = []
bytes_in (rules.event y x a) = []
bytes_in (rules.address t b3 b2 b1 b0) = []
bytes_in (rules.block h) = []
bytes_in (rules.loaded b) = []
bytes_in (rules.ended t) = []
bytes_in (rules.error n t) = n ∷ t
bytes_in rules.restart = []
bytes_in (rules.refusal n) = []

abbrev pub bytes_of : Outcome → List ℕ
bytes_of ran_out = []
bytes_of (closed r) = bytes_in r

-- whether the lent bytes have room for the notes and the data of what is given
unfoldable pub has_room : record-rules.Recorded → ℕ → ℕ → Bool
has_room q notes content = leb (length (notes_of q.reports)) notes && leb (length (data_of q.reports)) content

-- What is read of a recording, where q is what the rules give of it, and where its outcome stands in the lent bytes.
pub record Read (q : record-rules.Recorded) (notes content out : List ℕ) (r : Recorded) (notes-left content-left out-left : List ℕ) : Type 0 where
  pub answer : r.answer ≡ answer_of q.outcome
  pub used : r.used ≡ q.used
  pub noted : notes-left ≡ over (notes_of q.reports) notes
  pub stored : content-left ≡ over (data_of q.reports) content
  pub bytes : out-left ≡ over (bytes_of q.outcome) out

-- 8: nothing is read or touched
pub record Short (notes content out : List ℕ) (r : Recorded) (notes-left content-left out-left : List ℕ) : Type 0 where
  pub answer : r.answer ≡ variant.Refused (number NoRoom)
  pub used : r.used ≡ 0
  pub same_notes : notes-left ≡ notes
  pub same_content : content-left ≡ content
  pub same_out : out-left ≡ out

-- What `read_recorded` promises of the kind of the call, the recording, the lent bytes before and after and the result: 8 exactly where a lent room is
-- shorter than what it would hold; the counts are of all that there is to give, also then.
pub record ReadDone (kind : CallKind) (raw notes content out : List ℕ) (r : Recorded) (notes-left content-left out-left : List ℕ) : Type 0 where
  pub notes_count : 5 * r.noted ≡ length (notes_of (recorded_reply (kind_for kind) raw).reports)
  pub content_count : r.stored ≡ length (data_of (recorded_reply (kind_for kind) raw).reports)
  pub enough : has_room (recorded_reply (kind_for kind) raw) (length notes) (length content) ≡ true
      → Read (recorded_reply (kind_for kind) raw) notes content out r notes-left content-left out-left
  pub short : has_room (recorded_reply (kind_for kind) raw) (length notes) (length content) ≡ false → Short notes content out r notes-left content-left out-left
