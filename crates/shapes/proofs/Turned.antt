-- The program's turn of a shape is the rules'.
use Prim.Native.Nat.{ℕ}
use mathlib.Core.Path.{◌≡◌, sym, ap, ◌∙◌}
use Rattle.serial_rules.specs.Reply.{Shape, shape_turn}
use Rattle.turns.specs.Turns.{turn_of}
use Rattle.turns.specs.declared.Turn.{Turn}
use Rattle.refusal.specs.declared.Refusal.{Refusal}
use Rattle.std.specs.Prelude.{Result}
use Rattle.shapes.specs.Shapes.{shape_for}
use Rattle.shapes.specs.declared.Shape as shape

pub turned : {sh : Shape} (s : shape.Shape) {t x : Result Turn Refusal} (n b : ℕ) → shape_for s ≡ sh → turn_of t ≡ shape_turn (shape_for s) n b → t ≡ x → shape_turn sh n b ≡ turn_of x
turned s n b e f g = ap (λ (r : Shape). shape_turn r n b) (sym e) ∙ sym f ∙ ap turn_of g
