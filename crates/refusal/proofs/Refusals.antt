-- A refusal is that of its number.
use mathlib.Core.Path.{◌≡◌, refl}
use Rattle.refusal.specs.declared.Refusal.{Refusal}
use Rattle.refusal.specs.declared.Refusal.TheVariants.{NotCarried, Misplaced, TooLong, Stopped, NoRoom, BadField, Waiting, TooDeep}
use Rattle.refusal.specs.Refusals.{number, refusal_at}

pub refusal_back : (r : Refusal) → refusal_at (number r) ≡ r
refusal_back NotCarried = refl
refusal_back Misplaced = refl
refusal_back TooLong = refl
refusal_back Stopped = refl
refusal_back NoRoom = refl
refusal_back BadField = refl
refusal_back Waiting = refl
refusal_back TooDeep = refl
