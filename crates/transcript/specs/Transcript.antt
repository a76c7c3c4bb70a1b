-- The whole text of a script (document 01: "the program uses 4,096").
use Rattle.std.specs.Prelude.{ℕ, ◌≤◌, ◌≡◌, cond, List, ◌++◌, leb, length, take, drop}
use Rattle.chip.specs.declared.Chip.{Chip}
use Rattle.chip.specs.Record.{view}
use Rattle.script.specs.Script.{records, final_answer, results_of}
use Rattle.script_lines.specs.Text.{text_of}

-- the text that a script gives from a chip record on: the lines of the records played, by the rules' own results, and the last line
unfoldable pub text_for : Chip → List ℕ → List ℕ
text_for chip script =
    text_of (results_of (view chip) (records 4096 script)) (length (records 4096 script)) (final_answer 4096 script)

-- What `transcript` promises of the chip, the script, the lent bytes before and after, and its result.
pub record TranscriptDone (chip : Chip) (script out : List ℕ) (r : ℕ) (left : List ℕ) : Type 0 where
  pub length_is : r ≡ cond (leb (length (text_for chip script)) (length out)) (length (text_for chip script)) 0
  pub text : left ≡ cond (leb (length (text_for chip script)) (length out)) (text_for chip script ++ drop (length (text_for chip script)) out) out
  -- the text of any script fits into 49,165 bytes
  pub enough : 49165 ≤ length out → r ≡ length (text_for chip script)
  -- these two follow, and let a caller take the first r bytes
  pub within : r ≤ length left
  pub taken : r ≡ length (take r left)
