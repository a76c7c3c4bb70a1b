-- What `read_recorded` promises of flat records, from what the reader below it does.
use Prim.Native.Nat.{ℕ, ◌≤◌, ◌<◌}
use native.Mathlib.Omega.{arith}
use mathlib.Core.Path.{◌≡◌, refl}
use mathlib.Core.List.{List}
use Rattle.flat_kind.specs.Kinds.{last_call}
use Rattle.kind.specs.declared.CallKind.{CallKind}
use Rattle.recorded.specs.declared.Recorded.{Recorded}
use Rattle.recorded.specs.Promise.{ReadDone}
use Rattle.flat_recorded.specs.declared.FlatRecorded.{FlatRecorded}
use Rattle.flat_recorded.specs.Recordings.{flat_recorded, not_called, FlatRecordedDone}

module _ {call : ℕ} {kind : CallKind} {raw notes content out : List ℕ} {r : FlatRecorded} where
  pub called : {k : CallKind} {read : Recorded} {notes-left content-left out-left : List ℕ} → call ≤ last_call → k ≡ kind
      → ReadDone k raw notes content out read notes-left content-left out-left → r ≡ flat_recorded read
      → FlatRecordedDone call kind raw notes content out r notes-left content-left out-left
  called {read = read} low same d e =
      record { known = λ _. record { read = read; done = rw same at d; is = e }; no_call = λ above. absurd (omega (arith, above)) }

  pub not_called_lem : last_call < call → r ≡ flat_recorded not_called → FlatRecordedDone call kind raw notes content out r notes content out
  not_called_lem above e = record { known = λ low. absurd (omega (arith, low)); no_call = λ _. (e, refl, refl, refl) }
