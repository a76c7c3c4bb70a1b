-- The entry's numbers, as the rules read them.
use Rattle.std.specs.Prelude.{ℕ, Bool, not, eqb}
use Rattle.board.specs.declared.Reply as declared
use Rattle.chip_rules.specs.State.{Reply}

-- operation 0 reads, any other number writes
abbrev pub writes : ℕ → Bool
writes operation = not (eqb operation 0)

abbrev pub replied : declared.Reply → Reply
replied r = record { answer = r.answer; byte = r.byte }
