-- What the functions below `write_text` promise one another.
use Rattle.std.specs.Prelude.{ℕ, ◌+◌, ◌≤◌, ◌≡◌, List, ◌++◌, length, take, drop}

-- `out` with its bytes from `at` on replaced by t
unfoldable pub put : ℕ → List ℕ → List ℕ → List ℕ
put at t out = take at out ++ t ++ drop (at + length t) out

-- What every writer promises: it put t into `out` at the place `at`, which left `left`, and its result is the place behind t.
pub record Wrote (at : ℕ) (t out left : List ℕ) (r : ℕ) : Type 0 where
  pub next : r ≡ at + length t
  pub long : length left ≡ length out
  pub room : r ≤ length out
  pub text : left ≡ put at t out
