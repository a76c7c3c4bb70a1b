-- What the reader of a recorded reply promises of flat records.
use Rattle.std.specs.Prelude.{ℕ, ◌≤◌, ◌<◌, ◌≡◌, List}
use Rattle.flat_kind.specs.Kinds.{last_call}
use Rattle.kind.specs.declared.CallKind.{CallKind}
use Rattle.refusal.specs.declared.Refusal.TheVariants.{NotCarried}
use Rattle.refusal.specs.Refusals.{number}
use Rattle.answers.specs.declared.Answer.{Answer}
use Rattle.answers.specs.declared.Answer.TheVariants as variant
use Rattle.recorded.specs.declared.Recorded.{Recorded}
use Rattle.recorded.specs.Promise.{ReadDone}
use Rattle.flat_recorded.specs.declared.FlatRecorded.{FlatRecorded}

-- The flat result: kind 0 ran out, 5 is a reply, 6 an error, 7 a restart, 8 a refusal; what it does not have is 0.
abbrev pub recorded_with : Recorded → ℕ → ℕ → ℕ → FlatRecorded
recorded_with q kind value n = record { used = q.used; noted = q.noted; stored = q.stored; length = n; kind = kind; number = value }

abbrev pub flat_end : Recorded → Answer → FlatRecorded
flat_end q variant.More = recorded_with q 0 0 0
flat_end q (variant.Character b) = recorded_with q 0 0 0
flat_end q (variant.Reply n) = recorded_with q 5 0 n
flat_end q (variant.EscapeState on) = recorded_with q 0 0 0
flat_end q (variant.Event y x a) = recorded_with q 0 0 0
flat_end q (variant.Address t b3 b2 b1 b0) = recorded_with q 0 0 0
flat_end q (variant.Block n) = recorded_with q 0 0 0
flat_end q (variant.Loaded b) = recorded_with q 0 0 0
flat_end q (variant.Ended save) = recorded_with q 0 0 0
flat_end q (variant.Error n k) = recorded_with q 6 n k
flat_end q variant.Restart = recorded_with q 7 0 0
flat_end q (variant.Refused n) = recorded_with q 8 n 0

abbrev pub flat_recorded : Recorded → FlatRecorded
flat_recorded q = flat_end q q.answer

-- a call that is not carried is refused before the first byte
abbrev pub not_called : Recorded
not_called = record { answer = variant.Refused (number NotCarried); used = 0; noted = 0; stored = 0 }

-- the recording was read, and its result is flat
pub record IsFlatRecorded (kind : CallKind) (raw notes content out : List ℕ) (r : FlatRecorded) (notes-left content-left out-left : List ℕ) : Type 0 where
  pub read : Recorded
  pub done : ReadDone kind raw notes content out read notes-left content-left out-left
  pub is : r ≡ flat_recorded read

-- What `read_recorded` promises of the call's number and kind, the recording, the lent bytes before and after and the result.
pub record FlatRecordedDone (call : ℕ) (kind : CallKind) (raw notes content out : List ℕ) (r : FlatRecorded) (notes-left content-left out-left : List ℕ) : Type 0 where
  pub known : call ≤ last_call → IsFlatRecorded kind raw notes content out r notes-left content-left out-left
  pub no_call : last_call < call → (r ≡ flat_recorded not_called) × (notes-left ≡ notes) × (content-left ≡ content) × (out-left ≡ out)
