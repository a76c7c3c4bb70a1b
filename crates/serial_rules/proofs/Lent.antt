-- Lent bytes that hold what came so far.
use Prim.Native.Nat.{ℕ, ◌+◌, ◌-◌, ◌<◌}
use mathlib.Core.Path.{◌≡◌, refl}
use mathlib.Core.List.{List, [], ◌∷◌, ◌++◌}
use native.Mathlib.Numerals.{add-one}
use native.Mathlib.Omega.{arith}
use lib.ListN.{length, take, drop, set, length-drop, length-set}
use lib.Seq.{take-suc-set, take_all}
use Rattle.serial_rules.specs.Body.{Turn, more, done, refused}
use Rattle.serial_rules.specs.Lent.{turn_lent}

-- the lent bytes with one more behind the first n
pub take_next : (l : List ℕ) (n b : ℕ) → n < length l → take (n + 1) (set l n b) ≡ take n l ++ (b ∷ [])
take_next l n b h = rw (add-one, take-suc-set)

-- no byte is lent or taken back
pub turn_length : (lent : List ℕ) (n b : ℕ) (t : Turn) → length (turn_lent lent n b t) ≡ length lent
turn_length lent n b more = length-set lent n b
turn_length lent n b done = length-set lent n b
turn_length lent n b (refused k) = refl

-- all the bytes behind the first k
pub take_behind : (k : ℕ) (s : List ℕ) → take (length s - k) (drop k s) ≡ drop k s
take_behind k s = take_all (length s - k) (drop k s) (simp length-drop (omega arith))
