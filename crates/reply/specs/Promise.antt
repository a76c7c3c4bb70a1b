-- The program's replies, as the rules speak of them, and what reading the fields of one promises.
use Rattle.std.specs.Prelude.{ℕ, ◌≡◌, List, cond, eqb, take, drop}
use Rattle.places.specs.Part.{PartDone}
use Rattle.serial_rules.specs.Reply as rules
use Rattle.kind.specs.Kinds.{kind_for}
use Rattle.kind.specs.declared.CallKind.{CallKind}
use Rattle.reply.specs.declared.Reply.{Reply}
use Rattle.reply.specs.declared.Reply.TheVariants.{CarryA, Ack, Byte, CarryYX, Block, EscapedLine, ReadLine, ABlock, Plain, BlockCarryA}
use Rattle.places.specs.declared.Fields.{Fields}

abbrev pub reply_for : Reply → rules.Reply
reply_for (CarryA carry a) = rules.carry_a carry a
reply_for (Ack set) = rules.ack set
reply_for (Byte x) = rules.byte x
reply_for (CarryYX carry y x) = rules.carry_yx carry y x
reply_for Block = rules.block
reply_for EscapedLine = rules.escaped_line
reply_for ReadLine = rules.read_line
reply_for (ABlock a) = rules.a_block a
reply_for Plain = rules.plain
reply_for (BlockCarryA carry a) = rules.block_carry_a carry a

-- A reply read: its numbers, and where its block and its string lie in the bytes.
abbrev pub Given : Type 0
Given = Fields Reply

-- the reply of its numbers and of the parts of the bytes s that are its block and its string
abbrev pub given_in : Given → List ℕ → rules.Given
given_in g s = rules.given (reply_for g.said) (take g.block.length (drop g.block.start s)) (take g.text.length (drop g.text.start s))

-- how many bytes stand before the block of a reply, and before its line: A before the block of "A, 4 bytes" and "A, 16 bytes", and the first
-- byte before a line
abbrev pub reply_block_before : rules.Reply → ℕ
reply_block_before r = cond (eqb (rules.form_in r) 6) 1 0

abbrev pub line_before : rules.Reply → ℕ
line_before r = cond (rules.has_line r) 1 0

-- The result is the reply g of the rules, and its parts are at their places in the bytes.
pub record GivenDone (s : List ℕ) (g : rules.Given) (r : Given) : Type 0 where
  pub reply_is : reply_for r.said ≡ g.reply
  pub block_at : PartDone s (reply_block_before g.reply) g.block r.block
  pub text_at : PartDone s (line_before g.reply) g.text r.text

-- What `read_reply` promises of the kind, the bytes and the result.
abbrev pub ReadDone : CallKind → List ℕ → Given → Type 0
ReadDone kind s r = GivenDone s (rules.reply_read (kind_for kind) s) r
