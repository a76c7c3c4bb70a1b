-- A stream read through flat records: each byte as `read` promises, on the record and the lent body that the last one left.
use Rattle.std.specs.Prelude.{ℕ, ◌≡◌, true, List, [], ◌∷◌}
use Rattle.serial_rules.specs.Reader as rules
use Rattle.request_reader.specs.View.{answer_of}
use Rattle.flat_reader.specs.declared.FlatReader.{FlatReader}
use Rattle.flat_reader.specs.declared.FlatRead.{FlatRead}
use Rattle.flat_reader.specs.Readers.{tags_ok, FlatDone}

-- from a record in range and its lent body, over raw bytes, with the results and what they answer, to the record and the lent body left
pub data FlatReads : FlatReader → List ℕ → List ℕ → List FlatRead → List rules.Answer → FlatReader → List ℕ → Type 0 where
  stop : {f : FlatReader} {lent : List ℕ} → FlatReads f lent [] [] [] f lent
  took : {f q : FlatReader} {lent left end : List ℕ} {x : ℕ} {raw : List ℕ} {o : FlatRead} {gave : List FlatRead} {answers : List rules.Answer}
      (ok : tags_ok f ≡ true) (d : FlatDone f lent x o left) → FlatReads o.reader left raw gave answers q end
      → FlatReads f lent (x ∷ raw) (o ∷ gave) (answer_of (d.known ok).stepped.answer left ∷ answers) q end
