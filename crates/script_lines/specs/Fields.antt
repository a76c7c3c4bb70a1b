-- The fields of a line, and the number of a field's digits.
use Rattle.std.specs.Prelude.{ℕ, ◌≤◌, ◌≡◌, List, [], ◌∷◌, ◌++◌, length}
use Rattle.script_lines.specs.Text.{decimal}

-- a number in decimal, and the byte that ends it
unfoldable pub field_of : ℕ → ℕ → List ℕ
field_of n end = decimal n ++ (end ∷ [])

-- "end "
abbrev pub end_word : List ℕ
end_word = 101 ∷ 110 ∷ 100 ∷ 32 ∷ []

-- r counts the digits of a number in decimal
pub record Counted (n r : ℕ) : Type 0 where
  pub digits : r ≡ length (decimal n)
  pub most : r ≤ 20
