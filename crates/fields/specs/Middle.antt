-- What stands in the middle of an encoding.
use Rattle.std.specs.Prelude.{ℕ, Bool, true, false, List, []}
use Rattle.fields.specs.declared.middle.Middle.{Middle}
use Rattle.fields.specs.declared.middle.Middle.TheVariants.{Nothing, Block, Text}

-- the block b, the string t or neither
abbrev pub middle_in : Middle → List ℕ → List ℕ → List ℕ
middle_in Nothing b t = []
middle_in Block b t = b
middle_in Text b t = t

abbrev pub is_block : Middle → Bool
is_block Nothing = false
is_block Block = true
is_block Text = false

abbrev pub is_text : Middle → Bool
is_text Nothing = false
is_text Block = false
is_text Text = true
