-- The parts of a reply.
use Rattle.std.specs.Prelude.{ℕ, Bool, not, ◌&&◌, ◌||◌, List, [], ◌∷◌, ◌++◌, eqb, length, take}
use Rattle.serial_rules.specs.Call.{return, has_return}
use Rattle.serial_rules.specs.Reply as rules
use Rattle.serial_rules.specs.Reply.{Kind, form_of, block_in, carry_byte, ack_byte}
use Rattle.kind.specs.declared.Form.{Form}
use Rattle.kind.specs.declared.Form.TheVariants as form
use Rattle.kind.specs.Kinds.{form_number}
use Rattle.fields.specs.declared.few.Few.{Few}
use Rattle.fields.specs.Few.{few}
use Rattle.fields.specs.declared.middle.Middle.{Middle}
use Rattle.fields.specs.declared.middle.Middle.TheVariants.{Nothing, Block, Text}
use Rattle.fields.specs.Middle.{middle_in, is_text}
use Rattle.reply_parts.specs.declared.Parts.{Parts}

-- the parts of a reply of numbers alone
abbrev pub numbers_of : Form → Few 3 → Parts
numbers_of form head = record { form = form; middle = Nothing; head = head; tail = few 2 [] }

-- the numbers of parts around the bytes m
abbrev pub numbers_around : Parts → List ℕ → List ℕ
numbers_around p m = take p.head.count p.head.bytes ++ (m ++ take p.tail.count p.tail.bytes)

-- the data bytes of parts, with the block b and the string t
abbrev pub parts_bytes : Parts → List ℕ → List ℕ → List ℕ
parts_bytes p b t = numbers_around p (middle_in p.middle b t)

-- parts fit the kind
unfoldable pub parts_ok : Kind → Parts → List ℕ → List ℕ → Bool
parts_ok kind p b t = eqb (form_number p.form) (form_of kind) && (eqb (length b) (block_in kind) && ((is_text p.middle || eqb (length t) 0) && not (has_return t)))

-- the numbers of a reply before its block or line; "escaped as &FF, other plain acknowledgements as &7F"
abbrev pub numbers_before : rules.Reply → List ℕ
numbers_before (rules.carry_a c a) = carry_byte c ∷ a ∷ []
numbers_before (rules.ack k) = ack_byte k ∷ []
numbers_before (rules.byte x) = x ∷ []
numbers_before (rules.carry_yx c y x) = carry_byte c ∷ y ∷ x ∷ []
numbers_before rules.block = []
numbers_before rules.escaped_line = 0xFF ∷ []
numbers_before rules.read_line = 0x7F ∷ []
numbers_before (rules.a_block a) = a ∷ []
numbers_before rules.plain = 0x7F ∷ []
numbers_before (rules.block_carry_a c a) = []

-- and behind it
abbrev pub numbers_behind : rules.Reply → List ℕ
numbers_behind (rules.carry_a c a) = []
numbers_behind (rules.ack k) = []
numbers_behind (rules.byte x) = []
numbers_behind (rules.carry_yx c y x) = []
numbers_behind rules.block = []
numbers_behind rules.escaped_line = []
numbers_behind rules.read_line = return ∷ []
numbers_behind (rules.a_block a) = []
numbers_behind rules.plain = []
numbers_behind (rules.block_carry_a c a) = carry_byte c ∷ a ∷ []

-- what stands in the middle of a reply: the forms 4 "out length bytes", 6 "A, 4 bytes" or "A, 16 bytes", and 8 "13 bytes, Cy A" have a block
abbrev pub middle_of : rules.Reply → Middle
middle_of (rules.carry_a c a) = Nothing
middle_of (rules.ack k) = Nothing
middle_of (rules.byte x) = Nothing
middle_of (rules.carry_yx c y x) = Nothing
middle_of rules.block = Block
middle_of rules.escaped_line = Nothing
middle_of rules.read_line = Text
middle_of (rules.a_block a) = Block
middle_of rules.plain = Nothing
middle_of (rules.block_carry_a c a) = Block

abbrev pub form_for : rules.Reply → Form
form_for (rules.carry_a c a) = form.CarryA
form_for (rules.ack k) = form.Ack
form_for (rules.byte x) = form.Byte
form_for (rules.carry_yx c y x) = form.CarryYX
form_for rules.block = form.Block
form_for rules.escaped_line = form.Line
form_for rules.read_line = form.Line
form_for (rules.a_block a) = form.ABlock
form_for rules.plain = form.Plain
form_for (rules.block_carry_a c a) = form.BlockCarryA

-- the parts of a reply: its numbers stand in arrays of three and two places
unfoldable pub parts_of : rules.Reply → Parts
parts_of r = record { form = form_for r; middle = middle_of r; head = few 3 (numbers_before r); tail = few 2 (numbers_behind r) }
