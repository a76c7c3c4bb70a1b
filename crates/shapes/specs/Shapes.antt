-- The program's shapes, as the rules speak of them.
use Rattle.std.specs.Prelude.{ℕ}
use Rattle.serial_rules.specs.Reply as rules
use Rattle.shapes.specs.declared.Shape.{Shape}
use Rattle.shapes.specs.declared.Shape.TheVariants.{Fixed, Line, Text}

abbrev pub shape_for : Shape → rules.Shape
shape_for (Fixed n) = rules.fixed n
shape_for Line = rules.line
shape_for Text = rules.text

-- no shape has more bytes
abbrev pub longest_shape : ℕ
longest_shape = 257
