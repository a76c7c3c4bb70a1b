-- A stream read through flat records: each byte as `step` promises, on the record and the lent bytes that the last one left.
use Rattle.std.specs.Prelude.{ℕ, ◌≡◌, true, List, [], ◌∷◌}
use Rattle.serial_rules.specs.Link as rules
use Rattle.answers.specs.Reports.{report_of}
use Rattle.link_record.specs.declared.FlatLink.{FlatLink}
use Rattle.flat_link.specs.declared.FlatTold.{FlatTold}
use Rattle.link_record.specs.Records.{tags_ok}
use Rattle.flat_link.specs.Links.{FlatStepDone}

-- from a record in range and its lent bytes, over raw bytes, with the results and what they report, to the record and the lent bytes left
pub data FlatRuns : FlatLink → List ℕ → List ℕ → List ℕ → List FlatTold → List rules.Report → FlatLink → List ℕ → List ℕ → Type 0 where
  stop : {f : FlatLink} {reply own : List ℕ} → FlatRuns f reply own [] [] [] f reply own
  took : {f q : FlatLink} {reply own reply-left own-left reply-end own-end : List ℕ} {x : ℕ} {raw : List ℕ} {o : FlatTold} {gave : List FlatTold} {reports : List rules.Report}
      (ok : tags_ok f ≡ true) (d : FlatStepDone f reply own x o reply-left own-left) → FlatRuns o.link reply-left own-left raw gave reports q reply-end own-end
      → FlatRuns f reply own (x ∷ raw) (o ∷ gave) (report_of (d.known ok).stepped.answer reply-left own-left ∷ reports) q reply-end own-end
