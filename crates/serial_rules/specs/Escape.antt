-- The escape layer (document 01: 'The escape layer').
use Rattle.std.specs.Prelude.{ℕ, ◌+◌, Bool, true, false, cond, List, [], ◌∷◌, ◌++◌, eqb}

-- "The escape is &9B."
abbrev pub escape : ℕ
escape = 0x9B

-- "Data &9B is sent as &9B &9B": the raw bytes of one data byte, and of a list of them
abbrev pub escaped_byte : ℕ → List ℕ
escaped_byte b = cond (eqb b escape) (escape ∷ escape ∷ []) (b ∷ [])

unfoldable pub escaped : List ℕ → List ℕ
escaped [] = []
escaped (b ∷ l) = escaped_byte b ++ escaped l

-- how many of the bytes are &9B
unfoldable pub escapes : List ℕ → ℕ
escapes [] = 0
escapes (b ∷ l) = cond (eqb b escape) 1 0 + escapes l

-- What a raw byte is, after an escape or not: "any other byte after the escape is a mark". The escape itself needs the next byte.
pub data Piece : Type 0 where
  pending : Piece
  data_byte : ℕ → Piece
  mark : ℕ → Piece

abbrev pub piece_of : Bool → ℕ → Piece
piece_of true raw = cond (eqb raw escape) (data_byte escape) (mark raw)
piece_of false raw = cond (eqb raw escape) pending (data_byte raw)
