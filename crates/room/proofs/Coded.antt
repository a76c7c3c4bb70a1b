-- Data bytes on a carrier: as they are on the parallel side, and how many they are; the fields from a place on.
use Prim.Native.Nat.{ℕ, suc, ◌+◌, ◌*◌, ◌≤◌, ◌<◌}
use native.Mathlib.Omega.{arith}
use native.Mathlib.Numerals.{add-one}
use mathlib.Core.Path.{◌≡◌, refl, ap}
use mathlib.Core.List.{List, [], ◌++◌}
use lib.ListN.{length, drop, get_or, length-append, drop_of_length-le}
use lib.Seq.{drop-cons}
use Rattle.std.specs.Borrow.{Bor}
use Rattle.serial_rules.specs.Escape.{escaped}
use Rattle.serial_rules.proofs.Escape.{escaped_length, escaped_most}
use Rattle.serial_rules.proofs.Stream.{carried_append}
use Rattle.carrier.specs.declared.Carrier.{Carrier}
use Rattle.carrier.specs.declared.Carrier.TheVariants.{Serial, Parallel}
use Rattle.carrier.specs.Carriers.{carrier_of}
use Rattle.room.specs.Carriers.{coded, added_on, joined, parts_raw}

pub plain_parallel : (l : List ℕ) → coded Parallel l ≡ l
unfolding coded
plain_parallel l = refl

pub coded_length : (carrier : Carrier) (l : List ℕ) → length (coded carrier l) ≡ length l + added_on carrier l
unfolding coded added_on
coded_length Serial l = escaped_length l
coded_length Parallel l = omega arith

pub coded_most : (carrier : Carrier) (l : List ℕ) → length (coded carrier l) ≤ 2 * length l
unfolding coded
coded_most Serial l = escaped_most l
coded_most Parallel l = omega arith

-- no more than twice as many as on the parallel side
pub coded_doubled : (carrier : Carrier) (l : List ℕ) → length (coded carrier l) ≤ 2 * length (coded Parallel l)
coded_doubled carrier l = rw plain_parallel (coded_most carrier l)

pub coded_nothing : (carrier : Carrier) → coded carrier [] ≡ []
unfolding coded escaped
coded_nothing Serial = refl
coded_nothing Parallel = refl

pub coded_append : (carrier : Carrier) (x y : List ℕ) → coded carrier (x ++ y) ≡ coded carrier x ++ coded carrier y
unfolding coded
coded_append carrier x y = carried_append (carrier_of carrier) x y

pub pair_length : (carrier : Carrier) (x y : List ℕ) → length (coded carrier (x ++ y)) ≡ length (coded carrier x) + length (coded carrier y)
pair_length carrier x y = rw (coded_append, length-append)

-- The raw bytes of the fields from i on.
module _ (carrier : Carrier) (fs : List (Bor (List ℕ))) (i : ℕ) where
  pub fields_more : (d : Bor (List ℕ)) → i < length fs
      → length (coded carrier (joined (drop i fs))) ≡ length (coded carrier (get_or fs i d).now) + length (coded carrier (joined (drop (i + 1) fs)))
  fields_more d h = rw (add-one, drop-cons fs i d h) (pair_length carrier (get_or fs i d).now (joined (drop (suc i) fs)))

  pub fields_none : length fs ≤ i → length (coded carrier (joined (drop i fs))) ≡ 0
  fields_none h = rw (drop_of_length-le fs h) (ap length (coded_nothing carrier))

-- the whole: the heading, and the fields behind it
pub parts_length : (carrier : Carrier) (h : List ℕ) (fs : List (Bor (List ℕ))) → length (parts_raw carrier h fs) ≡ length h + length (coded carrier (joined fs))
parts_length carrier h fs = length-append h (coded carrier (joined fs))

-- what the fields need to be measured, and the whole
pub ruleset measured = (fields_more, fields_none)

pub ruleset whole = (parts_length, coded_doubled)
