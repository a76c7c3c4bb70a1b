-- Where the player of a script stops, and its final answer there.
use Rattle.std.specs.Prelude.{ℕ, ◌/◌, cond, eqb, min}
use Rattle.script_end.specs.declared.Ending.{Ending}
use Rattle.script_end.specs.declared.Ending.TheVariants.{Done, NoRoom, Limit, Cut}

-- "the smaller of the limit and the whole records present", records of three bytes
abbrev pub playable : ℕ → ℕ → ℕ
playable bytes limit = min limit (bytes / 3)

-- the end of a script that is played, by the bytes that are left of it and the records that are left of the limit
abbrev pub ending : ℕ → ℕ → Ending
ending bytes left = cond (eqb bytes 0) Done (cond (eqb left 0) Limit Cut)

-- Document 01's number of each end
abbrev pub number : Ending → ℕ
number Done = 0
number NoRoom = 8
number Limit = 10
number Cut = 11
