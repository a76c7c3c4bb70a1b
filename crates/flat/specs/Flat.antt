-- What the flat records for callers in C share.
use Rattle.std.specs.Prelude.{ℕ, Bool, cond, eqb}
use Rattle.fields.specs.Promise.{Written, number, count}
use Rattle.flat.specs.declared.FlatWritten.{FlatWritten}

-- A flag is set where its number is not 0. The number given stays where it stands for the same, so that a record unchanged is the record given.
abbrev pub flag_number : ℕ → Bool → ℕ
flag_number given set = cond set (cond (eqb given 0) 1 given) 0

-- the number of a writer's answer, and the length of the encoding
abbrev pub flat_written : Written → FlatWritten
flat_written r = record { length = count r; answer = number r }

-- that number where nothing was written
abbrev pub unwritten_with : ℕ → FlatWritten
unwritten_with n = record { length = 0; answer = n }

-- the length of a name, or the number of its refusal
abbrev pub flat_name : Written → FlatWritten
flat_name = flat_written
