-- A string in a whole body: "the name is read from the part of the body that starts after the block".
use Rattle.std.specs.Prelude.{ℕ, ◌+◌, Bool, false, cond, ◌||◌, List, [], ◌∷◌, eqb, leb, drop, Result, Ok, Err}
use Rattle.serial_rules.specs.Call.{return, string_limit, file_block}
use Rattle.refusal.specs.declared.Refusal.{Refusal}
use Rattle.refusal.specs.declared.Refusal.TheVariants.{TooLong, BadField}

-- the string at the start of l, n bytes of it before l: "0 to 255 bytes without &0D, then &0D"; its 256th byte is 6, and one that is not ended
-- breaks its rule
unfoldable pub string_from : ℕ → List ℕ → Result ℕ Refusal
string_from n [] = Err BadField
string_from n (x ∷ l) = cond (eqb x return) (Ok n) (cond (leb string_limit n) (Err TooLong) (string_from (n + 1) l))

-- the name of OSFILE, behind its block
abbrev pub name_of : List ℕ → Result ℕ Refusal
name_of body = string_from 0 (drop file_block body)

-- whether the byte e stands in l
unfoldable pub has_byte : ℕ → List ℕ → Bool
has_byte e [] = false
has_byte e (x ∷ l) = eqb x e || has_byte e l
