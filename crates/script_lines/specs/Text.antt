-- The text of a played script (document 01: 'The script program'), in ASCII.
use Rattle.std.specs.Prelude.{ℕ, zero, suc, ◌+◌, ◌/◌, ◌%◌, cond, List, [], ◌∷◌, ◌++◌, ltb}

abbrev pub space : List ℕ
space = 32 ∷ []

abbrev pub newline : List ℕ
newline = 10 ∷ []

-- the decimal digits of n, the last k of them where it has more
unfoldable pub digits_of : ℕ → ℕ → List ℕ
digits_of zero n = []
digits_of (suc k) n = cond (ltb n 10) ((48 + n % 10) ∷ []) (digits_of k (n / 10) ++ ((48 + n % 10) ∷ []))

-- "in decimal": a number of 64 bits has at most 20 digits
abbrev pub decimal : ℕ → List ℕ
decimal n = digits_of 20 n

-- "One line a record: answer, byte, line value, in decimal with single spaces"
unfoldable pub line_of : ℕ → ℕ → ℕ → List ℕ
line_of a b l = ((((decimal a ++ space) ++ decimal b) ++ space) ++ decimal l) ++ newline

-- the lines of the first n records, by three result bytes each
unfoldable pub lines_of : ℕ → List ℕ → List ℕ
lines_of zero r = []
lines_of (suc n) [] = []
lines_of (suc n) (a ∷ []) = []
lines_of (suc n) (a ∷ b ∷ []) = []
lines_of (suc n) (a ∷ b ∷ l ∷ r) = line_of a b l ++ lines_of n r

-- "last `end`, records played, final answer"
unfoldable pub end_of : ℕ → ℕ → List ℕ
end_of played answer = ((((101 ∷ 110 ∷ 100 ∷ 32 ∷ []) ++ decimal played) ++ space) ++ decimal answer) ++ newline

unfoldable pub text_of : List ℕ → ℕ → ℕ → List ℕ
text_of results played answer = lines_of played results ++ end_of played answer
