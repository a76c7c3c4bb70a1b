-- The bytes in the middle of what belongs together.
use Rattle.std.specs.Prelude.{ℕ, ◌-◌, cond, eqb}
use Rattle.serial_rules.specs.Reply.{Shape, fixed, line, text, longest}

-- How many bytes behind the first n need more, so long as they are plain (crate turns): those before the last of a fixed number; and those of a
-- line behind its first byte, before the place where only its return may stand. A text is short, and is read byte by byte.
abbrev pub ahead_of : Shape → ℕ → ℕ
ahead_of (fixed k) n = k - 1 - n
ahead_of line n = cond (eqb n 0) 0 (longest line - 1 - n)
ahead_of text n = 0
