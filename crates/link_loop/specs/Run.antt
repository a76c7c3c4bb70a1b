-- A stream read by the program, and what its loop promises: each step is what `link_step::step` promises, on what the last one left.
use Rattle.std.specs.Prelude.{ℕ, ◌+◌, ◌*◌, ◌/◌, ◌≤◌, ◌≡◌, Bool, true, false, ◌||◌, List, [], ◌∷◌, ◌++◌, ltb, length, take}
use Rattle.escape.specs.Put.{over}
use Rattle.serial_rules.specs.Link as rules
use Rattle.serial_rules.specs.Record.{passes}
use Rattle.refusal.specs.declared.Refusal.TheVariants.{NoRoom}
use Rattle.refusal.specs.Refusals.{number}
use Rattle.link.specs.declared.Link.{Link}
use Rattle.answers.specs.declared.Answer.{Answer}
use Rattle.answers.specs.declared.Answer.TheVariants as variant
use Rattle.link.specs.declared.Stepped.{Stepped}
use Rattle.link_loop.specs.declared.Ran.{Ran}
use Rattle.link.specs.View.{StepDone}
use Rattle.answers.specs.Reports.{report_of, answer_for}
use Rattle.notes.specs.Notes.{notes_of, data_of}

-- from a link and its lent bytes, over raw bytes, with the reports, to the link and the lent bytes left
pub data Runs : Link → List ℕ → List ℕ → List ℕ → List rules.Report → Link → List ℕ → List ℕ → Type 0 where
  stop : {l : Link} {reply own : List ℕ} → Runs l reply own [] [] l reply own
  took : {l q : Link} {reply own reply-left own-left reply-end own-end : List ℕ} {x : ℕ} {raw : List ℕ} {o : Stepped} {reports : List rules.Report}
      → StepDone l reply own x o reply-left own-left → Runs o.link reply-left own-left raw reports q reply-end own-end
      → Runs l reply own (x ∷ raw) (report_of o.answer reply-left own-left ∷ reports) q reply-end own-end

-- each of them is passed over: a finished reply, an error or restart and a refusal end the loop
pub data Passed : List rules.Report → Type 0 where
  none : Passed []
  next : {r : rules.Report} {l : List rules.Report} → passes r ≡ true → Passed l → Passed (r ∷ l)

-- the report that ended the loop, where one did: need-more says that the raw bytes had ended
abbrev pub last_of : Answer → List ℕ → List ℕ → List rules.Report
last_of variant.More reply own = []
last_of (variant.Character b) reply own = report_of (variant.Character b) reply own ∷ []
last_of (variant.Reply n) reply own = report_of (variant.Reply n) reply own ∷ []
last_of (variant.EscapeState on) reply own = report_of (variant.EscapeState on) reply own ∷ []
last_of (variant.Event y x a) reply own = report_of (variant.Event y x a) reply own ∷ []
last_of (variant.Address t b3 b2 b1 b0) reply own = report_of (variant.Address t b3 b2 b1 b0) reply own ∷ []
last_of (variant.Block n) reply own = report_of (variant.Block n) reply own ∷ []
last_of (variant.Loaded b) reply own = report_of (variant.Loaded b) reply own ∷ []
last_of (variant.Ended save) reply own = report_of (variant.Ended save) reply own ∷ []
last_of (variant.Error n k) reply own = report_of (variant.Error n k) reply own ∷ []
last_of variant.Restart reply own = report_of variant.Restart reply own ∷ []
last_of (variant.Refused n) reply own = report_of (variant.Refused n) reply own ∷ []

-- The room is for the worst case, a note and a byte of data for each raw byte; a control block may have bytes before them. Without it the answer is 8,
-- and nothing is used or touched.
unfoldable pub lacks_room : ℕ → ℕ → ℕ → ℕ → Bool
lacks_room held bytes room content = ltb (room / 5) bytes || ltb content (bytes + held)

abbrev pub no_room : Link → Ran
no_room l = record { answer = variant.Refused (number NoRoom); used = 0; noted = 0; stored = 0; link = l }

-- The loop ran: over the bytes used it passed over `reports`, whose notes and data stand in the lent bytes, and then ended as its answer says.
pub record RanDone (link : Link) (reply own raw room content : List ℕ) (r : Ran) (reply-left own-left room-left content-left : List ℕ) : Type 0 where
  pub reports : List rules.Report
  pub passed : Passed reports
  pub steps : Runs link reply own (take r.used raw) (reports ++ last_of r.answer reply-left own-left) r.link reply-left own-left
  -- a finished reply and an error's text have their whole lengths
  pub sized : r.answer ≡ answer_for (report_of r.answer reply-left own-left)
  pub within : r.used ≤ length raw
  -- need-more where the raw bytes end first, and only there; else a report that is not passed over
  pub ended : r.answer ≡ variant.More → r.used ≡ length raw
  pub stopped : (r.answer ≡ variant.More → ⊥) → passes (report_of r.answer reply-left own-left) ≡ false
  pub noted : 5 * r.noted ≡ length (notes_of reports)
  pub bytes : room-left ≡ over (notes_of reports) room
  pub stored : r.stored ≡ length (data_of reports)
  pub contents : content-left ≡ over (data_of reports) content

-- What `run` promises of the link, the lent bytes before and after, the raw bytes and the result.
pub record RunDone (link : Link) (reply own raw room content : List ℕ) (r : Ran) (reply-left own-left room-left content-left : List ℕ) : Type 0 where
  pub short : lacks_room link.held (length raw) (length room) (length content) ≡ true
      → (r ≡ no_room link) × (reply-left ≡ reply) × (own-left ≡ own) × (room-left ≡ room) × (content-left ≡ content)
  pub ran : lacks_room link.held (length raw) (length room) (length content) ≡ false
      → RanDone link reply own raw room content r reply-left own-left room-left content-left
