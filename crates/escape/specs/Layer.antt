-- The escape layer's pieces, as the rules speak of them, and the escape bytes that are counted.
use Rattle.std.specs.Prelude.{ℕ, cond, eqb}
use Rattle.serial_rules.specs.Escape as rules
use Rattle.escape.specs.declared.Piece.{Piece}
use Rattle.escape.specs.declared.Piece.TheVariants.{Pending, Data, Mark}

abbrev pub piece_for : Piece → rules.Piece
piece_for Pending = rules.pending
piece_for (Data b) = rules.data_byte b
piece_for (Mark m) = rules.mark m

-- one for an escape byte, else none
abbrev pub is_escape : ℕ → ℕ
is_escape b = cond (eqb b rules.escape) 1 0
