-- What writing a reply promises.
use Rattle.std.specs.Prelude.{ℕ, List, length}
use Rattle.serial_rules.specs.Call.{Carrier}
use Rattle.serial_rules.specs.Reply.{reply_number, reply_encoding}
use Rattle.fields.specs.Promise.{Written, WriterDone}
use Rattle.kind.specs.Kinds.{kind_for}
use Rattle.kind.specs.declared.CallKind.{CallKind}
use Rattle.reply.specs.Promise.{reply_for}
use Rattle.reply.specs.declared.Reply.{Reply}

-- What `write_reply` promises of the carrier, the kind, the reply, the lent bytes before and after, and its answer.
abbrev pub ReplyWritten : Carrier → CallKind → Reply → List ℕ → List ℕ → List ℕ → Written → List ℕ → Type 0
ReplyWritten carrier kind reply block text out r left =
    WriterDone (reply_number carrier (kind_for kind) (reply_for reply) block text (length out)) (reply_encoding carrier (reply_for reply) block text) out r left
