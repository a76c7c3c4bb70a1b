-- Replies by number, for callers in C: what writing one and reading its fields promise.
use Rattle.std.specs.Prelude.{ℕ, ◌≤◌, ◌<◌, ◌≡◌, Option, Some, None, Result, Ok, Err, Bool, true, false, cond, not, ◌&&◌, List, eqb, leb, ltb, length}
use Rattle.serial_rules.specs.Call.{string_limit}
use Rattle.carrier.specs.Carriers.{carrier_of, carrier_at, last_carrier}
use Rattle.refusal.specs.declared.Refusal.{Refusal}
use Rattle.refusal.specs.declared.Refusal.TheVariants.{NotCarried, TooLong, BadField}
use Rattle.refusal.specs.Refusals as refusals
use Rattle.fields.specs.Promise.{Written}
use Rattle.turns.specs.declared.Turn.{Turn}
use Rattle.turns.specs.declared.Turn.TheVariants.{More, Done}
use Rattle.kind.specs.declared.CallKind.{CallKind}
use Rattle.reply.specs.declared.Reply.{Reply}
use Rattle.reply.specs.declared.Reply.TheVariants.{CarryA, Ack, Byte, CarryYX, Block, EscapedLine, ReadLine, ABlock, Plain, BlockCarryA}
use Rattle.reply.specs.Promise.{Given, ReadDone}
use Rattle.reply_reader.specs.declared.Taken.{Taken}
use Rattle.reply_reader.specs.Promise.{TakeDone}
use Rattle.reply_writer.specs.Promise.{ReplyWritten}
use Rattle.flat.specs.declared.FlatWritten.{FlatWritten}
use Rattle.flat.specs.Flat.{flag_number, flat_written, unwritten_with}
use Rattle.flat_reply.specs.declared.FlatTaken.{FlatTaken}
use Rattle.flat_reply.specs.declared.FlatGiven.{FlatGiven}
use Rattle.flat_kind.specs.Kinds.{last_call}

-- the replies in the order of the program's, from 0, with the numbers that each has; a carry is set where its number is not 0
abbrev pub reply_at : ℕ → ℕ → ℕ → ℕ → ℕ → Reply
reply_at n carry x y a =
    cond (eqb n 0) (CarryA (not (eqb carry 0)) a)
    (cond (eqb n 1) (Ack (not (eqb carry 0)))
    (cond (eqb n 2) (Byte a)
    (cond (eqb n 3) (CarryYX (not (eqb carry 0)) y x)
    (cond (eqb n 4) Block
    (cond (eqb n 5) EscapedLine
    (cond (eqb n 6) ReadLine
    (cond (eqb n 7) (ABlock a)
    (cond (eqb n 8) Plain
    (BlockCarryA (not (eqb carry 0)) a)))))))))

-- the reply of a number, none above the last
abbrev pub reply_from : ℕ → Bool → ℕ → ℕ → ℕ → Option Reply
reply_from n carry x y a = cond (leb n 9) (Some (reply_at n (flag_number 0 carry) x y a)) None

-- What the reply writer answers on the carrier of that number, for the kind and the reply that numbers name.
pub record NumberedDone (carrier : ℕ) (named : Option CallKind) (given : Option Reply) (b t out : List ℕ) (r : Written) (left : List ℕ) : Type 0 where
  pub known : (kind : CallKind) (reply : Reply) → named ≡ Some kind → given ≡ Some reply → carrier ≤ last_carrier
      → ReplyWritten (carrier_of (carrier_at carrier)) kind reply b t out r left
  pub no_call : named ≡ None → (r ≡ Err NotCarried) × (left ≡ out)
  pub no_carrier : (kind : CallKind) → named ≡ Some kind → last_carrier < carrier → (r ≡ Err (cond (ltb string_limit (length t)) TooLong BadField)) × (left ≡ out)
  pub no_reply : (kind : CallKind) → named ≡ Some kind → given ≡ None → (r ≡ Err (cond (ltb string_limit (length t)) TooLong BadField)) × (left ≡ out)

-- the numbers of the carrier and of the reply are in range
unfoldable pub numbers_known : ℕ → ℕ → Bool
numbers_known carrier reply = leb carrier last_carrier && leb reply 9

-- The result is the flat form of what the reply writer answers on the carrier of that number.
pub record FlatReplyWritten (carrier : ℕ) (kind : CallKind) (reply : Reply) (b t out : List ℕ) (r : FlatWritten) (left : List ℕ) : Type 0 where
  pub written : Written
  pub done : ReplyWritten (carrier_of (carrier_at carrier)) kind reply b t out written left
  pub is : r ≡ flat_written written

-- What `write_reply` promises of the numbers of the carrier, the call and the reply, of its kind and that reply, the lent bytes before and after,
-- and the result. A number above the last call is first of all 4, "mark or request code not carried"; another carrier or reply is a field that
-- breaks its rule, 9, behind 6.
pub record FlatReplyDone (carrier call : ℕ) (kind : CallKind) (n : ℕ) (reply : Reply) (b t out : List ℕ) (r : FlatWritten) (left : List ℕ) : Type 0 where
  pub known : call ≤ last_call → numbers_known carrier n ≡ true → FlatReplyWritten carrier kind reply b t out r left
  pub no_call : last_call < call → (r ≡ unwritten_with 4) × (left ≡ out)
  pub no_field : call ≤ last_call → numbers_known carrier n ≡ false → (r ≡ unwritten_with (cond (ltb string_limit (length t)) 6 9)) × (left ≡ out)

-- the flat record of a reply read: a number that the reply lacks is 0
abbrev pub given_with : Given → ℕ → Bool → ℕ → ℕ → ℕ → FlatGiven
given_with g n carry x y a =
    record { block_start = g.block.start; block_length = g.block.length; text_start = g.text.start; text_length = g.text.length; reply = n; carry = flag_number 0 carry; x = x; y = y; a = a }

abbrev pub given_as : Given → Reply → FlatGiven
given_as g (CarryA carry a) = given_with g 0 carry 0 0 a
given_as g (Ack set) = given_with g 1 set 0 0 0
given_as g (Byte b) = given_with g 2 false 0 0 b
given_as g (CarryYX carry y x) = given_with g 3 carry x y 0
given_as g Block = given_with g 4 false 0 0 0
given_as g EscapedLine = given_with g 5 false 0 0 0
given_as g ReadLine = given_with g 6 false 0 0 0
given_as g (ABlock a) = given_with g 7 false 0 0 a
given_as g Plain = given_with g 8 false 0 0 0
given_as g (BlockCarryA carry a) = given_with g 9 carry 0 0 a

abbrev pub flat_given : Given → FlatGiven
flat_given g = given_as g g.said

-- the record for a call that does not exist
abbrev pub no_reply : FlatGiven
no_reply = record { block_start = 0; block_length = 0; text_start = 0; text_length = 0; reply = 10; carry = 0; x = 0; y = 0; a = 0 }

-- the reply was read by its kind, and the result is flat
pub record IsFlatGiven (kind : CallKind) (s : List ℕ) (r : FlatGiven) : Type 0 where
  pub given : Given
  pub read : ReadDone kind s given
  pub is : r ≡ flat_given given

-- What `read_reply` promises of the number of the call and its kind, the bytes and the result.
pub record FlatReadDone (call : ℕ) (kind : CallKind) (s : List ℕ) (r : FlatGiven) : Type 0 where
  pub known : call ≤ last_call → IsFlatGiven kind s r
  pub unknown : last_call < call → r ≡ no_reply

-- the flat form of what a byte of a reply does: kind 0 more follow, 1 it is the last, 2 it is refused by number
abbrev pub taken_with : ℕ → ℕ → ℕ → FlatTaken
taken_with n kind answer = record { count = n; kind = kind; answer = answer }

abbrev pub taken_as : ℕ → Result Turn Refusal → FlatTaken
taken_as n (Ok More) = taken_with n 0 0
taken_as n (Ok Done) = taken_with n 1 0
taken_as n (Err r) = taken_with n 2 (refusals.number r)

abbrev pub flat_taken : Taken → FlatTaken
flat_taken r = taken_as r.count r.turn

-- the byte was taken or refused by the reply's kind, and the result is flat
pub record IsFlatTaken (kind : CallKind) (n b : ℕ) (lent : List ℕ) (r : FlatTaken) (left : List ℕ) : Type 0 where
  pub taken : Taken
  pub done : TakeDone kind n b lent taken left
  pub is : r ≡ flat_taken taken

-- What `reply_step` promises of the number of the call and its kind, the count, the byte, the lent bytes before and after, and the result.
pub record FlatTakeDone (call : ℕ) (kind : CallKind) (n b : ℕ) (lent : List ℕ) (r : FlatTaken) (left : List ℕ) : Type 0 where
  pub known : call ≤ last_call → IsFlatTaken kind n b lent r left
  pub no_call : last_call < call → (r ≡ taken_with n 2 4) × (left ≡ lent)
