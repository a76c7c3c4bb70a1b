-- What writing the text of a played script promises.
use Rattle.std.specs.Prelude.{ℕ, ◌*◌, ◌≤◌, ◌≡◌, Bool, cond, ◌&&◌, List, ◌++◌, leb, length, take, drop}
use Rattle.script_lines.specs.Text.{text_of}

-- there are results for every record played, and room for the whole text
unfoldable pub fits : List ℕ → ℕ → ℕ → List ℕ → Bool
fits results played answer out = leb (3 * played) (length results) && leb (length (text_of results played answer)) (length out)

-- What `write_text` promises of the lent bytes `out` and its result: the text and bytes beyond it untouched, or nothing written and 0.
pub record TextDone (results : List ℕ) (played answer : ℕ) (out : List ℕ) (r : ℕ) (left : List ℕ) : Type 0 where
  pub length_is : r ≡ cond (fits results played answer out) (length (text_of results played answer)) 0
  pub text : left ≡ cond (fits results played answer out) (text_of results played answer ++ drop (length (text_of results played answer)) out) out
  -- the text of 4,096 records always fits into 49,165 bytes
  pub enough : played ≤ 4096 → 3 * played ≤ length results → 49165 ≤ length out → r ≡ length (text_of results played answer)
  -- these two follow, and let a caller take the first r bytes
  pub within : r ≤ length left
  pub taken : r ≡ length (take r left)
