-- A few bytes in an array.
use Rattle.std.specs.Prelude.{ℕ, List, length}
use Rattle.fields.specs.declared.few.Few.{Few}
use Rattle.fields.specs.Padded.{padded}

-- the bytes l in an array of n places, 0 behind them
abbrev pub few : (n : ℕ) → List ℕ → Few n
few n l = record { bytes = padded n l; count = length l }
