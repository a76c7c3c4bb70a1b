-- The writer's answers by their tests.
use Prim.Native.Nat.{ℕ, ◌<◌}
use mathlib.Core.Path.{◌≡◌, refl, sym, ◌∙◌}
use mathlib.Core.Bool.{Bool, true, false, not}
use mathlib.Core.List.{List}
use Rattle.std.specs.Prelude.{Err}
use lib.Dec.{ltb}
use lib.ListN.{length}
use borrow.Author.Tests.{lt-ltb, not-true, not-false}
use Rattle.serial_rules.specs.Reply as rules
use Rattle.carrier.specs.declared.Carrier.{Carrier}
use Rattle.carrier.specs.Carriers.{carrier_of}
use Rattle.room.specs.Carriers.{coded}
use Rattle.refusal.specs.declared.Refusal.TheVariants.{TooLong, BadField}
use Rattle.fields.specs.Promise.{Written, WriterDone, Encoded}
use Rattle.kind.specs.Kinds.{kind_for}
use Rattle.kind.specs.declared.CallKind.{CallKind}
use Rattle.reply.specs.declared.Reply.{Reply}
use Rattle.reply.specs.Promise.{reply_for}
use Rattle.reply_writer.specs.Promise.{ReplyWritten}
use Rattle.reply_parts.specs.declared.Parts.{Parts}
use Rattle.reply_parts.specs.Parts.{parts_bytes, parts_ok, parts_of}
use Rattle.reply_parts.proofs.Laws.{parts_bytes_lem, parts_ok_lem}

-- The writer: refused, or the bytes of its parts are those of the reply.
module _ (carrier : Carrier) (k : rules.Kind) (r : rules.Reply) (b t out : List ℕ) where
  abbrev ReplyAnswer : Written → List ℕ → Type 0
  ReplyAnswer w left = WriterDone (rules.reply_number (carrier_of carrier) k r b t (length out)) (rules.reply_encoding (carrier_of carrier) r b t) out w left

  pub too_long : ltb 255 (length t) ≡ true → ReplyAnswer (Err TooLong) out
  unfolding rules.reply_number
  too_long h = simp h (record { answer = refl; written = refl; bytes = refl })

  module _ {p : Parts} {ok : Bool} (short : ltb 255 (length t) ≡ false) (d : p ≡ parts_of r) (e : ok ≡ parts_ok k p b t) where
    judged : ok ≡ rules.reply_ok k r b t
    judged = rw (d, parts_ok_lem k r b t) at e

    pub bad_field : not ok ≡ true → ReplyAnswer (Err BadField) out
    unfolding rules.reply_number
    bad_field h = let o = sym judged ∙ not-true ok h in simp (short, o) (record { answer = refl; written = refl; bytes = refl })

    pub wrote : {left : List ℕ} {w : Written} → not ok ≡ false → Encoded (coded carrier (parts_bytes p b t)) out w left → ReplyAnswer w left
    unfolding rules.reply_number rules.reply_encoding coded
    wrote h w = let o = sym judged ∙ not-false ok h in simp (short, o) (rw (d, parts_bytes_lem r b t) at w)

-- a string that is too long, by its length
pub text_too_long : (carrier : Carrier) (kind : CallKind) (reply : Reply) (b t out : List ℕ) → 255 < length t
    → ReplyWritten (carrier_of carrier) kind reply b t out (Err TooLong) out
text_too_long carrier kind reply b t out h = too_long carrier (kind_for kind) (reply_for reply) b t out (lt-ltb 255 (length t) h)

-- what the writer needs
pub ruleset answers = (too_long, bad_field)
