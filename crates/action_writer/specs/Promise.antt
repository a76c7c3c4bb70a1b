-- What writing an action promises.
use Rattle.std.specs.Prelude.{ℕ, List, length}
use Rattle.host_rules.specs.Actions.{sent_raw, sent_number}
use Rattle.fields.specs.Promise.{Written, WriterDone}
use Rattle.action_parts.specs.declared.Sent.{Sent}
use Rattle.action_parts.specs.Parts.{sent_for}

-- What `write_action` promises of the action, its block and its text, the lent bytes before and after, and its answer.
abbrev pub ActionWritten : Sent → List ℕ → List ℕ → List ℕ → Written → List ℕ → Type 0
ActionWritten action block text out r left = WriterDone (sent_number (sent_for action) block text (length out)) (sent_raw (sent_for action) block text) out r left
