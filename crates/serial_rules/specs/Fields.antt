-- The fields of a finished request, taken out of its body again.
use Rattle.std.specs.Prelude.{ℕ, ◌-◌, cond, List, [], eqb, length, get_or, take, drop}
use Rattle.serial_rules.specs.Marks.{is_code}
use Rattle.serial_rules.specs.Call.{Call, osrdch, oscli, osbyte_low, osbyte_high, osword, osword0, osargs, osbget, osbput, osfind_close, osfind_open, osfile, osgbpb, file_block}

pub record Fields : Type 0 where
  pub call : Call
  pub block : List ℕ
  pub text : List ℕ

abbrev pub fields : Call → List ℕ → List ℕ → Fields
fields call block text = record { call = call; block = block; text = text }

-- the byte at index i, and the last one
abbrev pub at : List ℕ → ℕ → ℕ
at s i = get_or s i 0

abbrev pub last : List ℕ → ℕ
last s = get_or s (length s - 1) 0

-- by the code: the numbers, the block and the string of the body s
unfoldable pub fields_of : ℕ → List ℕ → Fields
fields_of code s =
    cond (eqb code 0x02) (fields oscli [] (take (length s - 1) s))
    (cond (eqb code 0x04) (fields (osbyte_low (at s 0) (at s 1)) [] [])
    (cond (eqb code 0x06) (fields (osbyte_high (at s 0) (at s 1) (at s 2)) [] [])
    (cond (eqb code 0x08) (fields (osword (at s 0) (last s)) (take (length s - 3) (drop 2 s)) [])
    (cond (eqb code 0x0A) (fields osword0 s [])
    (cond (eqb code 0x0C) (fields (osargs (at s 0) (at s 5)) (take 4 (drop 1 s)) [])
    (cond (eqb code 0x0E) (fields (osbget (at s 0)) [] [])
    (cond (eqb code 0x10) (fields (osbput (at s 0) (at s 1)) [] [])
    (cond (eqb code 0x12) (cond (eqb (at s 0) 0) (fields (osfind_close (at s 1)) [] []) (fields (osfind_open (at s 0)) [] (take (length s - 2) (drop 1 s))))
    (cond (eqb code 0x14) (fields (osfile (last s)) (take file_block s) (take (length s - 18) (drop file_block s)))
    (cond (eqb code 0x16) (fields (osgbpb (at s 13)) (take 13 s) [])
    (fields osrdch [] [])))))))))))

-- What a code and a body ask: the fields of a request, or, of a code that no request has, nothing.
pub data Asked : Type 0 where
  asks : Fields → Asked
  asks_nothing : Asked

unfoldable pub asked_by : ℕ → List ℕ → Asked
asked_by code s = cond (is_code code) (asks (fields_of code s)) asks_nothing
