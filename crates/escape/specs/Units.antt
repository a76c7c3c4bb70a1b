-- Raw bytes as the escape layer reads them: one data byte or mark at a place, and the place behind it; or they end before it is whole.
use Rattle.std.specs.Prelude.{ℕ, ◌+◌, cond, List, eqb, ltb, length, get_or}
use Rattle.serial_rules.specs.Escape.{escape}
use Rattle.escape.specs.declared.Unit as code
use Rattle.escape.specs.declared.Unit.TheVariants as variant

pub data Unit : Type 0 where
  gone : Unit
  datum : ℕ → ℕ → Unit
  mark : ℕ → ℕ → Unit

unfoldable pub unit_at : List ℕ → ℕ → Unit
unit_at s i =
    cond (ltb i (length s))
    (cond (eqb (get_or s i 0) escape)
    (cond (ltb (i + 1) (length s))
    (cond (eqb (get_or s (i + 1) 0) escape) (datum escape (i + 1 + 1)) (mark (get_or s (i + 1) 0) (i + 1 + 1)))
    gone)
    (datum (get_or s i 0) (i + 1)))
    gone

abbrev pub unit_for : code.Unit → Unit
unit_for variant.Gone = gone
unit_for (variant.Data b n) = datum b n
unit_for (variant.Mark m n) = mark m n
