-- What a writer that is lent bytes promises.
use Rattle.std.specs.Prelude.{ℕ, ◌≤◌, ◌≡◌, List, ◌++◌, length, drop}

-- the bytes `out` with w in the place of the first of them
abbrev pub over : List ℕ → List ℕ → List ℕ
over w out = w ++ drop (length w) out

-- w was written at the start of the lent bytes `out`, which have room for it; that left `left`, and the answer is n
pub record Put (w out left : List ℕ) (n : ℕ) : Type 0 where
  pub count : n ≡ length w
  pub bytes : left ≡ over w out
  pub room : n ≤ length out
