-- What a writer promises.
use Rattle.std.specs.Prelude.{ℕ, ◌≡◌, Result, Ok, Err, cond, List, ◌++◌, eqb, ltb, length, drop}
use Rattle.refusal.specs.declared.Refusal.{Refusal}
use Rattle.refusal.specs.Refusals as refusals

-- The answer of a writer: the length of the encoding written, or the refusal.
abbrev pub Written : Type 0
Written = Result ℕ Refusal

-- Document 01's number of each answer, and the bytes written.
abbrev pub number : Written → ℕ
number (Ok n) = 0
number (Err e) = refusals.number e

abbrev pub count : Written → ℕ
count (Ok n) = n
count (Err e) = 0

-- What a writer promises where its answer has the number n: the whole encoding, then the lent bytes beyond it as they were; or nothing
-- touched.
pub record WriterDone (n : ℕ) (encoding out : List ℕ) (r : Written) (left : List ℕ) : Type 0 where
  pub answer : number r ≡ n
  pub written : count r ≡ cond (eqb n 0) (length encoding) 0
  pub bytes : left ≡ cond (eqb n 0) (encoding ++ drop (length encoding) out) out

-- Of an encoding whose checks are passed only the room is left to test: 8 exactly where the whole does not fit.
abbrev pub Encoded : List ℕ → List ℕ → Written → List ℕ → Type 0
Encoded encoding out r left = WriterDone (cond (ltb (length out) (length encoding)) 8 0) encoding out r left
