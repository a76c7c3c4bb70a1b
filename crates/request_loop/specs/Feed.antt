-- A slice of raw bytes fed to the program: a chain of steps, each as `Reader::step` promises, up to the first answer that is not need-more.
use Rattle.std.specs.Prelude.{ℕ, ◌≤◌, ◌≡◌, List, [], ◌∷◌, ◌++◌, length, take, replicate}
use Rattle.serial_rules.specs.Reader as rules
use Rattle.request_reader.specs.declared.Reader.{Reader}
use Rattle.request_reader.specs.declared.Answer.{Answer}
use Rattle.request_reader.specs.declared.Answer.TheVariants.{More, Character, Request, Refused}
use Rattle.request_loop.specs.declared.Fed.{Fed}
use Rattle.request_reader.specs.View.{answer_of, answer_for}
use Rattle.request_reader.specs.Read.{Read}

-- the answer that ended the reading, where one did
abbrev pub last_of : Answer → List ℕ → List rules.Answer
last_of More left = []
last_of (Character b) left = answer_of (Character b) left ∷ []
last_of (Request style code n) left = answer_of (Request style code n) left ∷ []
last_of (Refused n) left = answer_of (Refused n) left ∷ []

-- the answers to the bytes used: so many needed more, and the last one gave an answer, unless the slice had ended
abbrev pub told : ℕ → Answer → List ℕ → List rules.Answer
told waits a left = replicate waits rules.need_more ++ last_of a left

-- What `feed` promises of the reader, the lent body before and after, the raw bytes and the result.
pub record FeedDone (reader : Reader) (lent raw : List ℕ) (r : Fed) (left : List ℕ) : Type 0 where
  pub waits : ℕ
  pub used : r.used ≡ length (told waits r.answer left)
  -- the length of a finished request is that of its body
  pub sized : r.answer ≡ answer_for (answer_of r.answer left)
  pub within : r.used ≤ length raw
  pub steps : Read reader lent (take r.used raw) (told waits r.answer left) r.reader left
  -- need-more is the answer where the slice ends first, and only there
  pub ended : r.answer ≡ More → r.used ≡ length raw
