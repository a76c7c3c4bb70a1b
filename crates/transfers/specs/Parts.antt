-- What the readers of an action and of the body of a transfer promise.
use Rattle.std.specs.Prelude.{ℕ, ◌+◌, ◌-◌, ◌≤◌, ◌<◌, ◌≡◌, Bool, true, false, List, [], ◌∷◌, ◌++◌, map, length, take, drop, Option, Some, None}
use Rattle.serial_rules.specs.Link as rules
use Rattle.turns.specs.Plain.{is_data, All}
use Rattle.actions.specs.declared.Meaning.{Meaning}
use Rattle.actions.specs.declared.Meaning.TheVariants.{Unknown, State, End, Starts}
use Rattle.answers.specs.declared.Answer.{Answer}
use Rattle.answers.specs.Reports.{transfer_for, report_of}
use Rattle.notes.specs.declared.Log.{Log}
use Rattle.notes.specs.Notes.{Given, adds_all}
use Rattle.notes.specs.Logs.{Holds, AddDone, AddRunDone}
use Rattle.action_bytes.specs.Walk.{Went, on, halt, Body, Act}
use Rattle.action_bytes.specs.Parts.{outcome_of, Ends}
use Rattle.transfers.specs.declared.Walked.{Walked}
use Rattle.transfers.specs.declared.Loads.{Loads}

-- where a part went, with an error's bytes in `own`
abbrev pub went_of : Option Answer → ℕ → List ℕ → Went
went_of None n own = on n
went_of (Some a) n own = halt n (outcome_of a [] own)

abbrev pub halted_at : Answer → ℕ → Log → Walked
halted_at a n log = record { end = Some a; at = n; log = log }

abbrev pub going_at : ℕ → Log → Walked
going_at n log = record { end = None; at = n; log = log }

abbrev pub EndedWell : Option Answer → List ℕ → Type 0
EndedWell None own = Unit
EndedWell (Some a) own = Ends a own

-- Reports logged one behind the other, whatever was counted and lent: each as `add` does it, and load bytes that join the last note as `add_run` does.
pub data Logged : Log → List ℕ → List ℕ → List rules.Report → Log → List ℕ → List ℕ → Type 0 where
  none : {log : Log} {notes content : List ℕ} → Logged log notes content [] log notes content
  one : {log mid end : Log} {own notes content notes-mid content-mid notes-left content-left : List ℕ} {a : Answer} {g : List rules.Report}
      → AddDone log a own notes content mid notes-mid content-mid → Logged mid notes-mid content-mid g end notes-left content-left
      → Logged log notes content (report_of a [] own ∷ g) end notes-left content-left
  run : {log mid end : Log} {raw notes content notes-mid content-mid notes-left content-left : List ℕ} {g : List rules.Report}
      → AddRunDone log raw notes content mid notes-mid content-mid → Logged mid notes-mid content-mid g end notes-left content-left
      → Logged log notes content (map rules.loaded (take (mid.run - log.run) raw) ++ g) end notes-left content-left

-- What was given so far is counted, and it has no more notes and no more data than the n raw bytes that were used.
pub record Held (G : Given) (log : Log) (n : ℕ) (notes₀ content₀ notes content : List ℕ) : Type 0 where
  pub holds : Holds G log notes₀ content₀ notes content
  pub few : log.noted ≤ n
  pub small : log.stored ≤ n

-- What was given on the way from the place n to the place m: for whatever was given before, these reports are added.
pub record Gives (g : List rules.Report) (log : Log) (n : ℕ) (notes content : List ℕ) (log-left : Log) (m : ℕ) (notes-left content-left : List ℕ) : Type 0 where
  pub adds_them : (G : Given) (notes₀ content₀ : List ℕ) → Held G log n notes₀ content₀ notes content
      → Held (adds_all G g) log-left m notes₀ content₀ notes-left content-left

pub record BodyDone (s : List ℕ) (save : Bool) (d i : ℕ) (log : Log) (notes content : List ℕ) (r : Walked) (own-left notes-left content-left : List ℕ) : Type 0 where
  pub given : List rules.Report
  pub says : Body s (transfer_for save) d i given (went_of r.end r.at own-left)
  pub ends : EndedWell r.end own-left
  pub logged : Logged log notes content given r.log notes-left content-left
  pub gives : Gives given log i notes content r.log r.at notes-left content-left
  pub far : i ≤ r.at
  pub near : r.at ≤ length s

-- An action: what it gives is what the link gives, and it is logged. The place i is behind the mark, so that each place n before it has fewer raw bytes.
-- `own` is room to work in: what it is left with is free, but where an error ended the reading its number and text are there.
pub record ActDone (s : List ℕ) (d i : ℕ) (w : rules.Meaning) (log : Log) (notes content : List ℕ) (r : Walked) (own-left notes-left content-left : List ℕ) : Type 0 where
  pub given : List rules.Report
  pub says : Act s d i w given (went_of r.end r.at own-left)
  pub ends : EndedWell r.end own-left
  pub logged : Logged log notes content given r.log notes-left content-left
  pub gives : (n : ℕ) → n < i → Gives given log n notes content r.log r.at notes-left content-left
  pub far : i ≤ r.at
  pub near : r.at ≤ length s

-- a byte of load data before the place i, and those behind it that join its note
pub record LoadDone (s : List ℕ) (b i : ℕ) (log : Log) (notes content : List ℕ) (r : Loads) (notes-left content-left : List ℕ) : Type 0 where
  pub more : List ℕ
  pub is : more ≡ take (length more) (drop i s)
  pub plain : All is_data more
  pub at : r.at ≡ i + length more
  pub logged : Logged log notes content (map rules.loaded (b ∷ more)) r.log notes-left content-left
  pub gives : (n : ℕ) → n < i → Gives (map rules.loaded (b ∷ more)) log n notes content r.log r.at notes-left content-left
  pub near : r.at ≤ length s

abbrev pub is_end : Meaning → Bool
is_end Unknown = false
is_end (State s) = false
is_end End = true
is_end (Starts a) = false
