-- What a mark may be, each way, by document 01's bit rules (004: outward a command byte, inward a transfer byte).
-- "What a mark may be, for each of its 256 byte values and each way, is one constant table with its rule proved over the whole of it."
use Rattle.std.specs.Prelude.{ℕ, ◌/◌, ◌%◌, Bool, cond, not, ◌&&◌, eqb, leb, ltb}
use Rattle.serial_rules.specs.Escape.{escape}

-- the bit of weight w of a byte
abbrev pub bit : ℕ → ℕ → Bool
bit m w = eqb (m / w % 2) 1

-- The twelve codes of the table of requests: &00 to &16, bit 0 clear.
abbrev pub is_code : ℕ → Bool
is_code code = not (bit code 1) && leb code 0x16

-- Outward: "bits 7 and 0 must be 0, bits 6 and 5 are the style (0 to 3, kept), the rest is the code."
abbrev pub style_of : ℕ → ℕ
style_of m = m / 32

abbrev pub code_in : ℕ → ℕ
code_in m = m % 32

unfoldable pub starts_request : ℕ → Bool
starts_request m = not (bit m 128) && is_code (code_in m)

-- Inward: the classes of a mark, 0 for one that is not carried.
abbrev pub not_carried : ℕ
not_carried = 0

abbrev pub error_mark : ℕ
error_mark = 1

abbrev pub escape_mark : ℕ
escape_mark = 2

abbrev pub event_mark : ℕ
event_mark = 3

abbrev pub address_mark : ℕ
address_mark = 4

abbrev pub block_mark : ℕ
block_mark = 5

abbrev pub end_mark : ℕ
end_mark = 6

abbrev pub execute_mark : ℕ
execute_mark = 7

abbrev pub load_mark : ℕ
load_mark = 8

abbrev pub save_mark : ℕ
save_mark = 9

-- "&00 (error number, text without &00 of 0 to 255 bytes, &00), &80 to &8F (bit 0 is the Escape state), &90 to &9F except &9B (Y X A follow), &C0 to
-- &CF (4 address bytes, high first)"; document 02: "&01 to &7F (that many control-block bytes follow), &Bx end, &Dx execute, &Ex load and &Fx save"; "Only &Ax still gives 4."
unfoldable pub inward_class : ℕ → ℕ
inward_class m =
    cond (eqb m 0) error_mark
    (cond (ltb m 0x80) block_mark
    (cond (eqb (m / 16) 0x8) escape_mark
    (cond (eqb (m / 16) 0x9 && not (eqb m escape)) event_mark
    (cond (eqb (m / 16) 0xB) end_mark
    (cond (eqb (m / 16) 0xC) address_mark
    (cond (eqb (m / 16) 0xD) execute_mark
    (cond (eqb (m / 16) 0xE) load_mark
    (cond (eqb (m / 16) 0xF) save_mark
    not_carried))))))))

-- the outward row's class: 1 starts a request, 0 is not carried
unfoldable pub outward_class : ℕ → ℕ
outward_class m = cond (starts_request m) 1 not_carried

-- the two rows of the table
pub data Way : Type 0 where
  outward : Way
  inward : Way

abbrev pub class_of : Way → ℕ → ℕ
class_of outward m = outward_class m
class_of inward m = inward_class m
