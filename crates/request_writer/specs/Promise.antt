-- What the request writer promises, of the carrier, the request, the lent bytes before and after, and its result.
use Rattle.std.specs.Prelude.{ℕ, List, length}
use Rattle.serial_rules.specs.Call.{Carrier, encoding_of, writer_number}
use Rattle.fields.specs.Promise.{Written, WriterDone}
use Rattle.calls.specs.declared.Call.{Call}
use Rattle.calls.specs.Calls.{call_of}

abbrev pub RequestDone : Carrier → ℕ → Call → List ℕ → List ℕ → List ℕ → Written → List ℕ → Type 0
RequestDone carrier style call block text out r left =
    WriterDone (writer_number carrier style (call_of call) block text (length out)) (encoding_of carrier style (call_of call) block text) out r left
