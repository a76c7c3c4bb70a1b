-- The calls of document 01, 'Requests, outward': the body of each, its fields' rules, and its encoding on either carrier.
use Rattle.std.specs.Prelude.{ℕ, ◌+◌, ◌*◌, Bool, true, false, cond, not, ◌&&◌, ◌||◌, List, [], ◌∷◌, ◌++◌, eqb, leb, ltb, length}
use Rattle.serial_rules.specs.Escape.{escape, escaped}

-- A call with its numbers; its block and its string stand beside it. OSFIND is two calls, close and open.
pub data Call : Type 0 where
  osrdch : Call
  oscli : Call
  osbyte_low : ℕ → ℕ → Call
  osbyte_high : ℕ → ℕ → ℕ → Call
  osword : ℕ → ℕ → Call
  osword0 : Call
  osargs : ℕ → ℕ → Call
  osbget : ℕ → Call
  osbput : ℕ → ℕ → Call
  osfind_close : ℕ → Call
  osfind_open : ℕ → Call
  osfile : ℕ → Call
  osgbpb : ℕ → Call

unfoldable pub code_of : Call → ℕ
code_of osrdch = 0x00
code_of oscli = 0x02
code_of (osbyte_low x a) = 0x04
code_of (osbyte_high x y a) = 0x06
code_of (osword a out) = 0x08
code_of osword0 = 0x0A
code_of (osargs y a) = 0x0C
code_of (osbget y) = 0x0E
code_of (osbput y a) = 0x10
code_of (osfind_close y) = 0x12
code_of (osfind_open a) = 0x12
code_of (osfile a) = 0x14
code_of (osgbpb a) = 0x16

abbrev pub return : ℕ
return = 0x0D

-- "A string is 0 to 255 bytes without &0D, then &0D."
abbrev pub string_limit : ℕ
string_limit = 255

-- OSFILE's block: "16 bytes"
abbrev pub file_block : ℕ
file_block = 16

-- "The body, in order": b is the call's block, "high byte first" and "kept in that order", t its string
unfoldable pub body_of : Call → List ℕ → List ℕ → List ℕ
body_of osrdch b t = []
body_of oscli b t = t ++ (return ∷ [])
body_of (osbyte_low x a) b t = x ∷ a ∷ []
body_of (osbyte_high x y a) b t = x ∷ y ∷ a ∷ []
body_of (osword a out) b t = a ∷ length b ∷ (b ++ (out ∷ []))
body_of osword0 b t = b
body_of (osargs y a) b t = y ∷ (b ++ (a ∷ []))
body_of (osbget y) b t = y ∷ []
body_of (osbput y a) b t = y ∷ a ∷ []
body_of (osfind_close y) b t = 0 ∷ y ∷ []
body_of (osfind_open a) b t = a ∷ (t ++ (return ∷ []))
body_of (osfile a) b t = b ++ (t ++ (return ∷ a ∷ []))
body_of (osgbpb a) b t = b ++ (a ∷ [])

-- how long the call's block is, where nb bytes are given: OSWORD's own length is free up to 255
abbrev pub block_ok : Call → ℕ → Bool
block_ok osrdch nb = eqb nb 0
block_ok oscli nb = eqb nb 0
block_ok (osbyte_low x a) nb = eqb nb 0
block_ok (osbyte_high x y a) nb = eqb nb 0
block_ok (osword a out) nb = leb nb 255
block_ok osword0 nb = eqb nb 5
block_ok (osargs y a) nb = eqb nb 4
block_ok (osbget y) nb = eqb nb 0
block_ok (osbput y a) nb = eqb nb 0
block_ok (osfind_close y) nb = eqb nb 0
block_ok (osfind_open a) nb = eqb nb 0
block_ok (osfile a) nb = eqb nb file_block
block_ok (osgbpb a) nb = eqb nb 13

-- whether the call has a string
abbrev pub has_string : Call → Bool
has_string osrdch = false
has_string oscli = true
has_string (osbyte_low x a) = false
has_string (osbyte_high x y a) = false
has_string (osword a out) = false
has_string osword0 = false
has_string (osargs y a) = false
has_string (osbget y) = false
has_string (osbput y a) = false
has_string (osfind_close y) = false
has_string (osfind_open a) = true
has_string (osfile a) = true
has_string (osgbpb a) = false

-- "A < &80", "A >= &80", "A (not 0)"
abbrev pub numbers_ok : Call → Bool
numbers_ok osrdch = true
numbers_ok oscli = true
numbers_ok (osbyte_low x a) = ltb a 0x80
numbers_ok (osbyte_high x y a) = leb 0x80 a
numbers_ok (osword a out) = not (eqb a 0)
numbers_ok osword0 = true
numbers_ok (osargs y a) = true
numbers_ok (osbget y) = true
numbers_ok (osbput y a) = true
numbers_ok (osfind_close y) = true
numbers_ok (osfind_open a) = not (eqb a 0)
numbers_ok (osfile a) = true
numbers_ok (osgbpb a) = true

-- whether &0D stands in a string
unfoldable pub has_return : List ℕ → Bool
has_return [] = false
has_return (x ∷ t) = eqb x return || has_return t

-- every field of a call keeps its rule; a string is given to a call that has one only
unfoldable pub call_ok : Call → List ℕ → List ℕ → Bool
call_ok call b t = numbers_ok call && (block_ok call (length b) && ((has_string call || eqb (length t) 0) && not (has_return t)))

-- The two carriers: "On the parallel side the same bodies follow the plain code on R2, style 0, no escapes".
pub data Carrier : Type 0 where
  serial : Carrier
  parallel : Carrier

abbrev pub carried : Carrier → List ℕ → List ℕ
carried serial l = escaped l
carried parallel l = l

abbrev pub heading : Carrier → ℕ → ℕ → List ℕ
heading serial style code = escape ∷ (style * 32 + code) ∷ []
heading parallel style code = code ∷ []

abbrev pub style_ok : Carrier → ℕ → Bool
style_ok serial style = leb style 3
style_ok parallel style = eqb style 0

unfoldable pub encoding_of : Carrier → ℕ → Call → List ℕ → List ℕ → List ℕ
encoding_of carrier style call b t = heading carrier style (code_of call) ++ carried carrier (body_of call b t)

-- The number of the writer's answer, "Writer: 6, 9, 8", where `room` bytes are lent.
unfoldable pub writer_number : Carrier → ℕ → Call → List ℕ → List ℕ → ℕ → ℕ
writer_number carrier style call b t room =
    cond (ltb string_limit (length t)) 6
    (cond (not (style_ok carrier style && call_ok call b t)) 9
    (cond (ltb room (length (encoding_of carrier style call b t))) 8 0))
