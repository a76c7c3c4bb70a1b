-- A stream read by the program: each step is what `Reader::step` promises, on the record and the lent body that the last one left.
use Rattle.std.specs.Prelude.{ℕ, List, [], ◌∷◌}
use Rattle.serial_rules.specs.Reader as rules
use Rattle.request_reader.specs.declared.Reader.{Reader}
use Rattle.request_reader.specs.declared.Stepped.{Stepped}
use Rattle.request_reader.specs.View.{answer_of, StepDone}

-- from a reader and its lent body, over raw bytes, with the answers, to the reader and the lent body left
pub data Read : Reader → List ℕ → List ℕ → List rules.Answer → Reader → List ℕ → Type 0 where
  stop : {r : Reader} {lent : List ℕ} → Read r lent [] [] r lent
  took : {r q : Reader} {lent left end : List ℕ} {x : ℕ} {raw : List ℕ} {o : Stepped} {answers : List rules.Answer}
      → StepDone r lent x o left → Read o.reader left raw answers q end → Read r lent (x ∷ raw) (answer_of o.answer left ∷ answers) q end
