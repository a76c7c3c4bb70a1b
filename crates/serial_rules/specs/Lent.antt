-- Lent bytes that hold what came so far, after one more byte.
use Rattle.std.specs.Prelude.{ℕ, List, set}
use Rattle.serial_rules.specs.Body.{Turn, more, done, refused}

-- a byte that is taken stands behind the n before it, and no other byte changes; a refused byte changes none
abbrev pub turn_lent : List ℕ → ℕ → ℕ → Turn → List ℕ
turn_lent lent n b more = set lent n b
turn_lent lent n b done = set lent n b
turn_lent lent n b (refused k) = lent
