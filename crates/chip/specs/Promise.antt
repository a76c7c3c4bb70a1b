-- What the chip's functions promise, by the rules and through the view of the record.
use Rattle.std.specs.Prelude.{ℕ, ◌/◌, ◌<◌, ◌≤◌, ◌≡◌, Bool, List, Result, Ok, Err}
use Rattle.chip.specs.declared.Chip.{Chip}
use Rattle.chip.specs.declared.Accessed.{Accessed}
use Rattle.chip.specs.declared.Refusal.{Refusal}
use Rattle.chip.specs.declared.Refusal.TheVariants.{Missing, NoRoom, Empty}
use Rattle.chip.specs.Record.{places, byte_of, count_of, view, blank}
use Rattle.chip_rules.specs.State.{Access, Reply}
use Rattle.chip_rules.specs.History.{Event, says, after}
use Rattle.chip_rules.specs.Trace.{Trace}

-- Document 01's number of each refusal
abbrev pub number : Refusal → ℕ
number Missing = 1
number NoRoom = 2
number Empty = 3

-- what the caller is told: answer 0 with the byte, or the number of the refusal with byte 0
abbrev pub told : Result ℕ Refusal → Reply
told (Ok b) = record { answer = 0; byte = b }
told (Err e) = record { answer = number e; byte = 0 }

abbrev pub reply_of : Accessed → Reply
reply_of r = told r.answer

abbrev pub access_of : ℕ → ℕ → Bool → ℕ → Access
access_of side offset write byte = record { side = side; offset = offset; write = write; byte = byte }

-- the part of a record that stands for nothing is as it was
pub record UnusedKept (chip r : Chip) : Type 0 where
  pub bytes : (c i : ℕ) → c < 8 → i < places c → count_of r c ≤ i → byte_of r c i ≡ byte_of chip c i
  pub bits : r.flags / 64 ≡ chip.flags / 64

-- What `access` promises of the record, the access, the reply and the record left, for every one of them.
pub record AccessDone (chip : Chip) (a : Access) (r : Reply) (next : Chip) : Type 0 where
  -- the number of the answer and the byte
  pub reply : r ≡ says (view chip) a
  -- the channels and flags left, or the record itself where it holds more than its places
  pub left : view next ≡ after (view chip) a
  -- "chip unchanged": a refusal leaves the record itself
  pub kept : (r.answer ≡ 0 → ⊥) → next ≡ chip
  -- the free part: bytes that are not held, and the bits above the six flags, stand for nothing and stay as they were
  pub free : UnusedKept chip next

-- What `reset` promises: the record of a fresh chip, whatever it was.
abbrev pub ResetDone : Chip → Chip → Type 0
ResetDone chip r = r ≡ blank

-- A history done by the program from one record to another, with the replies: each step is what `access` or `reset` promises.
abbrev pub History : Chip → List Event → List Reply → Chip → Type 0
History k es rs l = Trace AccessDone ResetDone k es rs l
