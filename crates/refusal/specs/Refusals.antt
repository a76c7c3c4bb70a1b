-- Document 01's number of each refusal, and the refusal of a number.
use Rattle.std.specs.Prelude.{ℕ, cond, eqb}
use Rattle.refusal.specs.declared.Refusal.{Refusal}
use Rattle.refusal.specs.declared.Refusal.TheVariants.{NotCarried, Misplaced, TooLong, Stopped, NoRoom, BadField, Waiting, TooDeep}

abbrev pub number : Refusal → ℕ
number NotCarried = 4
number Misplaced = 5
number TooLong = 6
number Stopped = 7
number NoRoom = 8
number BadField = 9
number Waiting = 12
number TooDeep = 13

-- the refusal of a number; one that is none falls to the last
abbrev pub refusal_at : ℕ → Refusal
refusal_at n =
    cond (eqb n 4) NotCarried (cond (eqb n 5) Misplaced (cond (eqb n 6) TooLong (cond (eqb n 7) Stopped
    (cond (eqb n 8) NoRoom (cond (eqb n 9) BadField (cond (eqb n 12) Waiting TooDeep))))))
