-- The replies of document 01, 'Replies and actions, inward': what each kind of call gets, its bytes, and its fields' rules.
use Rattle.std.specs.Prelude.{ℕ, ◌-◌, Bool, true, false, cond, not, ◌&&◌, ◌||◌, List, [], ◌∷◌, ◌++◌, eqb, ltb, length, take, drop}
use Rattle.serial_rules.specs.Marks.{bit, is_code}
use Rattle.serial_rules.specs.Call as call
use Rattle.serial_rules.specs.Call.{return, string_limit, file_block, has_return, Carrier, carried}
use Rattle.serial_rules.specs.Body.{Turn, more, done, refused, fixed_turn, string_turn}
use Rattle.serial_rules.specs.Fields.{at, fields_of}

-- "the call's kind and out length fix how its reply is read": thirteen kinds, OSFIND twice
pub data Kind : Type 0 where
  osrdch : Kind
  oscli : Kind
  osbyte_low : Kind
  osbyte_high : Kind
  osword : ℕ → Kind
  osword0 : Kind
  osargs : Kind
  osbget : Kind
  osbput : Kind
  osfind_close : Kind
  osfind_open : Kind
  osfile : Kind
  osgbpb : Kind

abbrev pub kind_of : call.Call → Kind
kind_of call.osrdch = osrdch
kind_of call.oscli = oscli
kind_of (call.osbyte_low x a) = osbyte_low
kind_of (call.osbyte_high x y a) = osbyte_high
kind_of (call.osword a out) = osword out
kind_of call.osword0 = osword0
kind_of (call.osargs y a) = osargs
kind_of (call.osbget y) = osbget
kind_of (call.osbput y a) = osbput
kind_of (call.osfind_close y) = osfind_close
kind_of (call.osfind_open a) = osfind_open
kind_of (call.osfile a) = osfile
kind_of (call.osgbpb a) = osgbpb

-- the kind of a finished request, by its code and body
abbrev pub kind_from : ℕ → List ℕ → Kind
kind_from code s = kind_of (fields_of code s).call

-- a code that no request has is no call
pub data Found : Type 0 where
  known : Kind → Found
  no_call : Found

unfoldable pub kind_in : ℕ → List ℕ → Found
kind_in code s = cond (is_code code) (known (kind_from code s)) no_call

-- How bytes that belong together end: so many of them; a line, behind one byte that may say that there is none; a text, behind one number.
pub data Shape : Type 0 where
  fixed : ℕ → Shape
  line : Shape
  text : Shape

-- the column 'Reply'
abbrev pub shape_of : Kind → Shape
shape_of osrdch = fixed 2
shape_of oscli = fixed 1
shape_of osbyte_low = fixed 1
shape_of osbyte_high = fixed 3
shape_of (osword out) = fixed out
shape_of osword0 = line
shape_of osargs = fixed 5
shape_of osbget = fixed 2
shape_of osbput = fixed 1
shape_of osfind_close = fixed 1
shape_of osfind_open = fixed 1
shape_of osfile = fixed 17
shape_of osgbpb = fixed 15

-- a byte of a text, after n bytes of it: "text without &00 of 0 to 255 bytes, &00"
abbrev pub text_turn : ℕ → ℕ → Turn
text_turn n b = cond (eqb b 0) done (cond (ltb n string_limit) more (refused 6))

-- The byte b after n bytes. "A reply is complete at its last byte, neither earlier nor later."
-- "OSWORD 0: first byte with bit 7 set means escaped and ends the reply; clear, and a string follows."
unfoldable pub shape_turn : Shape → ℕ → ℕ → Turn
shape_turn (fixed k) n b = fixed_turn n (k - 1)
shape_turn line n b = cond (eqb n 0) (cond (bit b 0x80) done more) (string_turn (n - 1) b)
shape_turn text n b = cond (eqb n 0) more (text_turn (n - 1) b)

-- how many bytes the longest of a shape has
abbrev pub longest : Shape → ℕ
longest (fixed k) = k
longest line = 257
longest text = 257

-- The byte b of a reply on the parallel side, behind the bytes s of it so far: there are no escapes and no actions, so that each byte is one of
-- the reply. 7 where the reply has had all its bytes; one with out length 0 has none.
unfoldable pub reply_turn : Kind → List ℕ → ℕ → Turn
reply_turn k s b = cond (ltb (length s) (longest (shape_of k))) (shape_turn (shape_of k) (length s) b) (refused 7)

-- the turns of bytes, one by one, behind the bytes s
unfoldable pub reply_turns : Kind → List ℕ → List ℕ → List Turn
reply_turns k s [] = []
reply_turns k s (b ∷ l) = reply_turn k s b ∷ reply_turns k (s ++ (b ∷ [])) l

-- A reply with its numbers; its block and its string stand beside it.
pub data Reply : Type 0 where
  carry_a : Bool → ℕ → Reply
  ack : Bool → Reply
  byte : ℕ → Reply
  carry_yx : Bool → ℕ → ℕ → Reply
  block : Reply
  escaped_line : Reply
  read_line : Reply
  a_block : ℕ → Reply
  plain : Reply
  block_carry_a : Bool → ℕ → Reply

-- "Cy as &00 or &80, ack as &7F or &80"
abbrev pub carry_byte : Bool → ℕ
carry_byte carry = cond carry 0x80 0x00

abbrev pub ack_byte : Bool → ℕ
ack_byte set = cond set 0x80 0x7F

-- "escaped as &FF, other plain acknowledgements as &7F"
unfoldable pub reply_bytes : Reply → List ℕ → List ℕ → List ℕ
reply_bytes (carry_a c a) b t = carry_byte c ∷ a ∷ []
reply_bytes (ack k) b t = ack_byte k ∷ []
reply_bytes (byte x) b t = x ∷ []
reply_bytes (carry_yx c y x) b t = carry_byte c ∷ y ∷ x ∷ []
reply_bytes block b t = b
reply_bytes escaped_line b t = 0xFF ∷ []
reply_bytes read_line b t = 0x7F ∷ (t ++ (return ∷ []))
reply_bytes (a_block a) b t = a ∷ b
reply_bytes plain b t = 0x7F ∷ []
reply_bytes (block_carry_a c a) b t = b ++ (carry_byte c ∷ a ∷ [])

-- The forms of the column 'Reply': 0 "Cy A", 1 "ack", 2 "X" or "A", 3 "Cy Y X", 4 "out length bytes", 5 "escaped, or line string",
-- 6 "A, 4 bytes" or "A, 16 bytes", 7 "one byte", 8 "13 bytes, Cy A".
abbrev pub form_of : Kind → ℕ
form_of osrdch = 0
form_of oscli = 1
form_of osbyte_low = 2
form_of osbyte_high = 3
form_of (osword out) = 4
form_of osword0 = 5
form_of osargs = 6
form_of osbget = 0
form_of osbput = 7
form_of osfind_close = 7
form_of osfind_open = 2
form_of osfile = 6
form_of osgbpb = 8

abbrev pub form_in : Reply → ℕ
form_in (carry_a c a) = 0
form_in (ack k) = 1
form_in (byte x) = 2
form_in (carry_yx c y x) = 3
form_in block = 4
form_in escaped_line = 5
form_in read_line = 5
form_in (a_block a) = 6
form_in plain = 7
form_in (block_carry_a c a) = 8

-- how long the block of a reply is
abbrev pub block_in : Kind → ℕ
block_in osrdch = 0
block_in oscli = 0
block_in osbyte_low = 0
block_in osbyte_high = 0
block_in (osword out) = out
block_in osword0 = 0
block_in osargs = 4
block_in osbget = 0
block_in osbput = 0
block_in osfind_close = 0
block_in osfind_open = 0
block_in osfile = file_block
block_in osgbpb = 13

-- whether the reply has a string
abbrev pub has_line : Reply → Bool
has_line (carry_a c a) = false
has_line (ack k) = false
has_line (byte x) = false
has_line (carry_yx c y x) = false
has_line block = false
has_line escaped_line = false
has_line read_line = true
has_line (a_block a) = false
has_line plain = false
has_line (block_carry_a c a) = false

-- "A reply that does not fit the call's kind is 9."
unfoldable pub reply_ok : Kind → Reply → List ℕ → List ℕ → Bool
reply_ok kind r b t = eqb (form_in r) (form_of kind) && (eqb (length b) (block_in kind) && ((has_line r || eqb (length t) 0) && not (has_return t)))

-- the bytes of a reply on a carrier: on the parallel side "no escapes"
unfoldable pub reply_encoding : Carrier → Reply → List ℕ → List ℕ → List ℕ
reply_encoding carrier r b t = carried carrier (reply_bytes r b t)

-- The number of the writer's answer, "Writer: 6, 9, 8", where `room` bytes are lent.
unfoldable pub reply_number : Carrier → Kind → Reply → List ℕ → List ℕ → ℕ → ℕ
reply_number carrier kind r b t room =
    cond (ltb string_limit (length t)) 6
    (cond (not (reply_ok kind r b t)) 9
    (cond (ltb room (length (reply_encoding carrier r b t))) 8 0))

-- A reply read: its numbers, its block and its string.
pub record Given : Type 0 where
  pub reply : Reply
  pub block : List ℕ
  pub text : List ℕ

abbrev pub given : Reply → List ℕ → List ℕ → Given
given r b t = record { reply = r; block = b; text = t }

-- "Cy and ack are bit 7 of their byte."
abbrev pub flag : ℕ → Bool
flag b = bit b 0x80

-- The bytes s of a finished reply, read by the call's kind. "OSBPUT and closing OSFIND ignore the byte's meaning."
unfoldable pub reply_read : Kind → List ℕ → Given
reply_read osrdch s = given (carry_a (flag (at s 0)) (at s 1)) [] []
reply_read oscli s = given (ack (flag (at s 0))) [] []
reply_read osbyte_low s = given (byte (at s 0)) [] []
reply_read osbyte_high s = given (carry_yx (flag (at s 0)) (at s 1) (at s 2)) [] []
reply_read (osword out) s = given block s []
reply_read osword0 s = cond (flag (at s 0)) (given escaped_line [] []) (given read_line [] (take (length s - 2) (drop 1 s)))
reply_read osargs s = given (a_block (at s 0)) (drop 1 s) []
reply_read osbget s = given (carry_a (flag (at s 0)) (at s 1)) [] []
reply_read osbput s = given plain [] []
reply_read osfind_close s = given plain [] []
reply_read osfind_open s = given (byte (at s 0)) [] []
reply_read osfile s = given (a_block (at s 0)) (drop 1 s) []
reply_read osgbpb s = given (block_carry_a (flag (at s 13)) (at s 14)) (take 13 s) []

-- "reading then writing gives those normal bytes": the bytes read, with Cy, ack and the plain acknowledgements as the writer sends them
abbrev pub first : (ℕ → ℕ) → List ℕ → List ℕ
first f [] = []
first f (x ∷ s) = f x ∷ s

abbrev pub normal_carry : ℕ → ℕ
normal_carry x = carry_byte (flag x)

abbrev pub normal_ack : ℕ → ℕ
normal_ack x = ack_byte (flag x)

abbrev pub normal_plain : ℕ → ℕ
normal_plain x = 0x7F

unfoldable pub normal_of : Kind → List ℕ → List ℕ
normal_of osrdch s = first normal_carry s
normal_of oscli s = first normal_ack s
normal_of osbyte_low s = s
normal_of osbyte_high s = first normal_carry s
normal_of (osword out) s = s
normal_of osword0 s = cond (flag (at s 0)) (0xFF ∷ []) (first normal_plain s)
normal_of osargs s = s
normal_of osbget s = first normal_carry s
normal_of osbput s = first normal_plain s
normal_of osfind_close s = first normal_plain s
normal_of osfind_open s = s
normal_of osfile s = s
normal_of osgbpb s = take 13 s ++ first normal_carry (drop 13 s)
