-- Sessions of the program: raw bytes and begun calls in any order, each as `link_step::step` and `Link::begin` promise, on what the last one left.
use Rattle.std.specs.Prelude.{ℕ, List, [], ◌∷◌}
use Rattle.serial_rules.specs.Session.{Input, raw, call, Told, report, answer}
use Rattle.kind.specs.Kinds.{kind_for}
use Rattle.kind.specs.declared.CallKind.{CallKind}
use Rattle.link.specs.declared.Link.{Link}
use Rattle.link.specs.declared.Stepped.{Stepped}
use Rattle.link.specs.declared.Started.{Started}
use Rattle.link.specs.View.{begun_of, StepDone, BeginDone}
use Rattle.answers.specs.Reports.{report_of}

-- from a link and its lent bytes, over inputs, with what is told, to the link and the lent bytes left
pub data Sessions : Link → List ℕ → List ℕ → List Input → List Told → Link → List ℕ → List ℕ → Type 0 where
  stop : {l : Link} {reply own : List ℕ} → Sessions l reply own [] [] l reply own
  took : {l q : Link} {reply own reply-left own-left reply-end own-end : List ℕ} {x : ℕ} {s : List Input} {o : Stepped} {told : List Told}
      → StepDone l reply own x o reply-left own-left → Sessions o.link reply-left own-left s told q reply-end own-end
      → Sessions l reply own (raw x ∷ s) (report (report_of o.answer reply-left own-left) ∷ told) q reply-end own-end
  began : {l q : Link} {reply own reply-end own-end : List ℕ} {kind : CallKind} {s : List Input} {o : Started} {told : List Told}
      → BeginDone l kind o → Sessions o.link reply own s told q reply-end own-end
      → Sessions l reply own (call (kind_for kind) ∷ s) (answer (begun_of o.answer) ∷ told) q reply-end own-end
