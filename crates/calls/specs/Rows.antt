-- The request table as the writer reads it: the row of a call, and what a row asks of what is given.
use Rattle.std.specs.Prelude.{ℕ, ◌≤◌, ◌≡◌, Bool, true, cond, not, ◌&&◌, ◌||◌, List, [], ◌∷◌, ◌++◌, eqb, leb, length, take}
use Rattle.serial_rules.specs.Call.{Call, file_block, osrdch, oscli, osbyte_low, osbyte_high, osword, osword0, osargs, osbget, osbput, osfind_close, osfind_open, osfile, osgbpb, return, code_of, numbers_ok, has_string, has_return, style_ok, heading}
use Rattle.carrier.specs.declared.Carrier.{Carrier}
use Rattle.carrier.specs.Carriers.{carrier_of}
use Rattle.room.specs.Carriers.{coded}
use Rattle.fields.specs.Few.{few}
use Rattle.calls.specs.declared.Row.{Row}

-- a length as a byte
abbrev pub length_byte : ℕ → ℕ
length_byte n = cond (leb n 255) n 0

-- the numbers that a row puts before the block and the string, and behind them
abbrev pub head_in : Row → List ℕ
head_in row = take row.head.count row.head.bytes

abbrev pub tail_in : Row → List ℕ
tail_in row = take row.tail.count row.tail.bytes

-- numbers, block and string keep the rules of a row
unfoldable pub given_ok : Row → List ℕ → List ℕ → Bool
given_ok row b t = row.good && (eqb (length b) row.block && ((row.string || eqb (length t) 0) && not (has_return t)))

-- the length of a call's block, of which OSWORD's is free
abbrev pub block_length : Call → ℕ → ℕ
block_length osrdch n = 0
block_length oscli n = 0
block_length (osbyte_low x a) n = 0
block_length (osbyte_high x y a) n = 0
block_length (osword a out) n = n
block_length osword0 n = 5
block_length (osargs y a) n = 4
block_length (osbget y) n = 0
block_length (osbput y a) n = 0
block_length (osfind_close y) n = 0
block_length (osfind_open a) n = 0
block_length (osfile a) n = file_block
block_length (osgbpb a) n = 13

-- the numbers of a body before the block and the string, where the block's length is n
abbrev pub head_of : Call → ℕ → List ℕ
head_of osrdch n = []
head_of oscli n = []
head_of (osbyte_low x a) n = x ∷ a ∷ []
head_of (osbyte_high x y a) n = x ∷ y ∷ a ∷ []
head_of (osword a out) n = a ∷ n ∷ []
head_of osword0 n = []
head_of (osargs y a) n = y ∷ []
head_of (osbget y) n = y ∷ []
head_of (osbput y a) n = y ∷ a ∷ []
head_of (osfind_close y) n = 0 ∷ y ∷ []
head_of (osfind_open a) n = a ∷ []
head_of (osfile a) n = []
head_of (osgbpb a) n = []

-- and behind them, the byte that ends a string first
abbrev pub tail_of : Call → List ℕ
tail_of osrdch = []
tail_of oscli = return ∷ []
tail_of (osbyte_low x a) = []
tail_of (osbyte_high x y a) = []
tail_of (osword a out) = out ∷ []
tail_of osword0 = []
tail_of (osargs y a) = a ∷ []
tail_of (osbget y) = []
tail_of (osbput y a) = []
tail_of (osfind_close y) = []
tail_of (osfind_open a) = return ∷ []
tail_of (osfile a) = return ∷ a ∷ []
tail_of (osgbpb a) = a ∷ []

-- the row of a call whose block has the length n: its numbers stand in arrays of three and two places
unfoldable pub row_of : Call → ℕ → Row
row_of call n = record {
  code = code_of call;
  good = numbers_ok call;
  block = block_length call n;
  string = has_string call;
  head = few 3 (head_of call n);
  tail = few 2 (tail_of call);
}

-- the raw bytes of the request of a row, in a style, with the block b and the string t
abbrev pub row_raw : Carrier → ℕ → Row → List ℕ → List ℕ → List ℕ
row_raw carrier style row b t = heading (carrier_of carrier) style row.code ++ coded carrier (head_in row ++ (b ++ (t ++ tail_in row)))

-- What a row needs to be written in a style.
pub record Writable (carrier : Carrier) (style : ℕ) (row : Row) : Type 0 where
  pub style_kept : style_ok (carrier_of carrier) style ≡ true
  pub code_small : row.code ≤ 22
