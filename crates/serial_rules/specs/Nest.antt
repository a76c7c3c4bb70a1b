-- The open transfers as one number: 0 where none is open, 2n + 1 for a load inside those of n, 2n + 2 for a save. So one of at most 30 is of at most
-- four transfers, and one of at most 14 of at most three.
use Rattle.std.specs.Prelude.{ℕ, zero, suc, ◌-◌, ◌/◌, ◌%◌, cond, List, [], ◌∷◌, eqb}
use Rattle.serial_rules.specs.Link.{Transfer, load, save, deepest}

-- the innermost k of them
abbrev pub levels : ℕ → ℕ → List Transfer
levels zero n = []
levels (suc k) n = cond (eqb n 0) [] (cond (eqb (n % 2) 1) load save ∷ levels k ((n - 1) / 2))

unfoldable pub nest_of : ℕ → List Transfer
nest_of n = levels deepest n
