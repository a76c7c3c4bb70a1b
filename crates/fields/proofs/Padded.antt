-- The bytes in a padded array are its first, and the array has a place for each of them.
use Prim.Native.Nat.{ℕ, ◌-◌, ◌≤◌}
use native.Mathlib.Omega.{arith}
use mathlib.Core.Path.{◌≡◌, refl}
use mathlib.Core.List.{List}
use lib.ListN.{length, take, replicate, length-append}
use lib.Seq.{take_at}
use Rattle.fields.specs.Padded.{padded}

module _ (n : ℕ) (l : List ℕ) where
  pub padded_take : take (length l) (padded n l) ≡ l
  padded_take = take_at l (replicate (n - length l) 0) (length l) refl

  pub padded_fits : length l ≤ length (padded n l)
  padded_fits = simp length-append (omega arith)
