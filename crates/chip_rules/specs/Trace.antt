-- A history done by the program: a chain of steps, each of which is the promise that the program's own access or reset makes.
use Rattle.std.specs.Prelude.{◌≡◌, List, [], ◌∷◌}
use Rattle.chip_rules.specs.State.{host, parasite, Access, Reply}
use Rattle.chip_rules.specs.History.{View, Event, accessed, was_reset, line_value, of_side}

-- K: the chip record. Access-promise, of a record, an access, the reply and the record left, and Reset-promise, of a record and the
-- one left, are the very predicates of the two functions' contracts.
module _ {K : Type 0} (Access-promise : K → Access → Reply → K → Type 0) (Reset-promise : K → K → Type 0) where
  -- "Each access or reset gets the chip that the last one left, and nobody else writes it meanwhile."
  pub data Trace : K → List Event → List Reply → K → Type 0 where
    stop : {k : K} → Trace k [] [] k
    access : {k j l : K} {a : Access} {r : Reply} {es : List Event} {rs : List Reply}
        → Access-promise k a r j → Trace j es rs l → Trace k (accessed a ∷ es) (r ∷ rs) l
    reset : {k j l : K} {es : List Event} {rs : List Reply}
        → Reset-promise k j → Trace j es rs l → Trace k (was_reset ∷ es) rs l

-- Demand 3, of two histories es and fs with the replies rs and qs that end with the views v and w: equal channels, flags and lines
-- (or the record itself while it holds more than its places), and each side sees the same answers and bytes in order.
pub record Alike {K : Type 0} (v w : View K) (es fs : List Event) (rs qs : List Reply) : Type 0 where
  pub end : v ≡ w
  pub lines : line_value v ≡ line_value w
  pub host : of_side host es rs ≡ of_side host fs qs
  pub parasite : of_side parasite es rs ≡ of_side parasite fs qs
