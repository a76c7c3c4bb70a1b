-- How much was noted, as the program counts it, and what the lent bytes then hold.
use Rattle.std.specs.Prelude.{ℕ, ◌+◌, ◌*◌, ◌-◌, ◌≤◌, ◌<◌, ◌≡◌, Bool, true, false, not, ◌&&◌, List, [], ◌∷◌, ◌++◌, eqb, leb, ltb, length, take, drop}
use Rattle.escape.specs.Put.{over}
use Rattle.serial_rules.specs.Link as rules
use Rattle.turns.specs.Plain.{is_data, run_of}
use Rattle.answers.specs.declared.Answer.{Answer}
use Rattle.answers.specs.declared.Answer.TheVariants as variant
use Rattle.answers.specs.Reports.{report_of}
use Rattle.notes.specs.declared.Log.{Log}
use Rattle.notes.specs.Notes.{Given, notes_in, note_of, longest_run}

-- nothing noted so far
abbrev pub fresh : Log
fresh = record { noted = 0; stored = 0; run = 0 }

-- w was written at the start of the lent bytes `out`, if they have room for it; they stay as many
pub record Lays (w out left : List ℕ) : Type 0 where
  pub size : length left ≡ length out
  pub bytes : length w ≤ length out → left ≡ over w out

-- What was given, as it is counted, and what the lent bytes hold of it: `notes` and `data` were lent, `notes-now` and `content-now` is what they are.
pub record Holds (g : Given) (log : Log) (notes content notes-now content-now : List ℕ) : Type 0 where
  pub count : 5 * log.noted ≡ length (notes_in g)
  pub run : log.run ≡ g.run
  pub short : g.run ≤ longest_run
  pub stored : log.stored ≡ length g.content
  pub laid : Lays (notes_in g) notes notes-now
  pub laid_content : Lays g.content content content-now

-- the bytes of data that an answer brings
abbrev pub data_in : Answer → ℕ
data_in variant.More = 0
data_in (variant.Character b) = 0
data_in (variant.Reply n) = 0
data_in (variant.EscapeState on) = 0
data_in (variant.Event y x a) = 0
data_in (variant.Address t b3 b2 b1 b0) = 0
data_in (variant.Block n) = n
data_in (variant.Loaded b) = 1
data_in (variant.Ended save) = 0
data_in (variant.Error n k) = 0
data_in variant.Restart = 0
data_in (variant.Refused n) = 0

-- the largest count
abbrev pub most_count : ℕ
most_count = 0xFFFFFFFFFFFFFFFF

-- The counts have room for one answer more, and the bytes of a block are among its own, fewer than 256.
unfoldable pub countable : Log → Answer → ℕ → Bool
countable log a own = ltb log.noted most_count && (leb (data_in a) own && (ltb (data_in a) 256 && leb log.stored (most_count - data_in a)))

-- the last note is of load data and counts one byte more
unfoldable pub run_goes_on : Log → Bool
run_goes_on log = not (eqb log.run 0) && (not (eqb log.noted 0) && ltb log.run longest_run)

-- w was written at a place of the lent bytes where they have room for it there, else nothing was; they stay as many.
pub record Wrote (at : ℕ) (w out left : List ℕ) : Type 0 where
  pub size : length left ≡ length out
  pub bytes : at + length w ≤ length out → left ≡ take at out ++ (w ++ drop (at + length w) out)
  pub full : length out < at + length w → left ≡ out

-- the counts with a note more, with a control block of n bytes more, with a note of one load byte more, and with n load bytes more in the last note
abbrev pub noted_in : Log → Log
noted_in log = record { noted = log.noted + 1; stored = log.stored; run = 0 }

abbrev pub block_in : Log → ℕ → Log
block_in log n = record { noted = log.noted + 1; stored = log.stored + n; run = 0 }

abbrev pub started_in : Log → Log
started_in log = record { noted = log.noted + 1; stored = log.stored + 1; run = 1 }

abbrev pub grown_by : Log → ℕ → Log
grown_by log n = record { noted = log.noted; stored = log.stored + n; run = log.run + n }

-- nothing is noted
abbrev pub Unchanged : Log → List ℕ → List ℕ → Log → List ℕ → List ℕ → Type 0
Unchanged log notes content r notes-left content-left = (r ≡ log) × (notes-left ≡ notes) × (content-left ≡ content)

-- the note w
abbrev pub Noted : List ℕ → Log → List ℕ → List ℕ → Log → List ℕ → List ℕ → Type 0
Noted w log notes content r notes-left content-left = (r ≡ noted_in log) × Wrote (5 * log.noted) w notes notes-left × (content-left ≡ content)

-- a control block
abbrev pub BlockDone : Log → List ℕ → List ℕ → List ℕ → Log → List ℕ → List ℕ → Type 0
BlockDone log h notes content r notes-left content-left =
    (r ≡ block_in log (length h)) × Wrote (5 * log.noted) (note_of (rules.block h)) notes notes-left × Wrote log.stored h content content-left

-- a byte of load data: it joins the last note, or has one of its own
pub record LoadedDone (log : Log) (b : ℕ) (notes content : List ℕ) (r : Log) (notes-left content-left : List ℕ) : Type 0 where
  pub byte : Wrote log.stored (b ∷ []) content content-left
  pub goes_on : run_goes_on log ≡ true → (r ≡ grown_by log 1) × Wrote (5 * (log.noted - 1)) (13 ∷ (log.run + 1) ∷ 0 ∷ 0 ∷ 0 ∷ []) notes notes-left
  pub starts : run_goes_on log ≡ false → (r ≡ started_in log) × Wrote (5 * log.noted) (13 ∷ 1 ∷ 0 ∷ 0 ∷ 0 ∷ []) notes notes-left

-- What a report more does to the counts and the lent bytes, whatever these were.
abbrev pub Logs : rules.Report → Log → List ℕ → List ℕ → Log → List ℕ → List ℕ → Type 0
Logs rules.need_more log notes content r notes-left content-left = Unchanged log notes content r notes-left content-left
Logs (rules.character b) log notes content r notes-left content-left = Noted (note_of (rules.character b)) log notes content r notes-left content-left
Logs (rules.reply s) log notes content r notes-left content-left = Unchanged log notes content r notes-left content-left
Logs (rules.escape_state on) log notes content r notes-left content-left = Noted (note_of (rules.escape_state on)) log notes content r notes-left content-left
Logs (rules.event y x a) log notes content r notes-left content-left = Noted (note_of (rules.event y x a)) log notes content r notes-left content-left
Logs (rules.address t b3 b2 b1 b0) log notes content r notes-left content-left = Noted (note_of (rules.address t b3 b2 b1 b0)) log notes content r notes-left content-left
Logs (rules.block h) log notes content r notes-left content-left = BlockDone log h notes content r notes-left content-left
Logs (rules.loaded b) log notes content r notes-left content-left = LoadedDone log b notes content r notes-left content-left
Logs (rules.ended t) log notes content r notes-left content-left = Noted (note_of (rules.ended t)) log notes content r notes-left content-left
Logs (rules.error n t) log notes content r notes-left content-left = Unchanged log notes content r notes-left content-left
Logs rules.restart log notes content r notes-left content-left = Unchanged log notes content r notes-left content-left
Logs (rules.refusal n) log notes content r notes-left content-left = Unchanged log notes content r notes-left content-left

abbrev pub Added : Log → Answer → List ℕ → List ℕ → List ℕ → Log → List ℕ → List ℕ → Type 0
Added log a own notes content r notes-left content-left = (reply : List ℕ) → Logs (report_of a reply own) log notes content r notes-left content-left

-- What `add` promises of what was noted, an answer with the action's own bytes, the lent bytes before and after and the result.
pub record AddDone (log : Log) (a : Answer) (own notes content : List ℕ) (r : Log) (notes-left content-left : List ℕ) : Type 0 where
  pub adds_it : countable log a (length own) ≡ true → Added log a own notes content r notes-left content-left
  pub beyond : countable log a (length own) ≡ false → Unchanged log notes content r notes-left content-left

-- how many load bytes join the last note: those before the first escape, as far as the note counts
abbrev pub joins : Log → List ℕ → ℕ
joins log raw = run_of is_data (longest_run - log.run) raw

-- load bytes can join the last note, and the counts have room for n of them
unfoldable pub joinable : Log → ℕ → Bool
joinable log n = run_goes_on log && leb log.stored (most_count - n)

-- What `add_run` promises: the load bytes that join the last note are stored, and it counts them.
pub record JoinedDone (log : Log) (raw notes content : List ℕ) (r : Log) (notes-left content-left : List ℕ) : Type 0 where
  pub grew : r ≡ grown_by log (joins log raw)
  pub note : Wrote (5 * (log.noted - 1)) (13 ∷ (log.run + joins log raw) ∷ 0 ∷ 0 ∷ 0 ∷ []) notes notes-left
  pub bytes : Wrote log.stored (take (joins log raw) raw) content content-left

pub record AddRunDone (log : Log) (raw notes content : List ℕ) (r : Log) (notes-left content-left : List ℕ) : Type 0 where
  pub adds_it : joinable log (length raw) ≡ true → JoinedDone log raw notes content r notes-left content-left
  pub beyond : joinable log (length raw) ≡ false → Unchanged log notes content r notes-left content-left
