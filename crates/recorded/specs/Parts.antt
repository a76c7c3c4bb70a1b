-- What the parts of the reader of a whole reply promise.
use Rattle.std.specs.Prelude.{ℕ, ◌+◌, ◌/◌, ◌≤◌, ◌≡◌, Bool, true, cond, List, [], ltb, length, take, drop}
use Rattle.std.proofs.lemmas.List.Edits.{sets}
use Rattle.serial_rules.specs.Reply.{Kind}
use Rattle.serial_rules.specs.Link as rules
use Rattle.serial_rules.specs.Session.{inside}
use Rattle.serial_rules.specs.Record as record-rules
use Rattle.serial_rules.specs.Record.{recording, recorded}
use Rattle.turns.specs.Plain.{Plains}
use Rattle.kind.specs.Kinds.{kind_for}
use Rattle.kind.specs.declared.CallKind.{CallKind}
use Rattle.answers.specs.declared.Answer.{Answer}
use Rattle.notes.specs.declared.Log.{Log}
use Rattle.notes.specs.Logs.{fresh}
use Rattle.action_bytes.specs.Parts.{outcome_of, answer_of}
use Rattle.transfers.specs.Parts.{Gives}
use Rattle.recorded.specs.declared.Recorded.{Recorded}
use Rattle.recorded.specs.declared.Ended.{Ended}

-- the whole reply of a call of a kind, from the place i on, behind the bytes s of it
pub record Whole (s : List ℕ) (k : Kind) (i : ℕ) (got : List ℕ) (r : record-rules.Recorded) : Type 0 where
  pub says : recorded i (rules.live (inside []) (rules.frame (rules.waiting k) got)) (drop i s) ≡ r

abbrev pub ended_at : Answer → ℕ → Log → Ended
ended_at a n log = record { answer = a; at = n; log = log }

-- the reply from its first byte on
pub record AllDone (s : List ℕ) (k : CallKind) (notes content : List ℕ) (r : Ended) (reply-left own-left notes-left content-left : List ℕ) : Type 0 where
  pub given : List rules.Report
  pub says : Whole s (kind_for k) 0 [] (recording given r.at (outcome_of r.answer reply-left own-left))
  pub sized : r.answer ≡ answer_of (outcome_of r.answer reply-left own-left)
  pub gives : Gives given fresh 0 notes content r.log r.at notes-left content-left

-- the call ended before the first byte
abbrev pub nothing_read : Answer → Recorded
nothing_read a = record { answer = a; used = 0; noted = 0; stored = 0 }

-- lent bytes too short for what was counted
abbrev pub is_short : Log → ℕ → ℕ → Bool
is_short log notes content = cond (ltb (notes / 5) log.noted) true (ltb content log.stored)

-- plain bytes of a reply behind the first `got` and before its last place, stored at once
pub record PassDone (got last : ℕ) (raw reply : List ℕ) (n : ℕ) (left : List ℕ) : Type 0 where
  pub before : got + n ≤ last
  pub within : n ≤ length raw
  pub plain : Plains (take n raw)
  pub bytes : left ≡ sets reply got (take n raw)
