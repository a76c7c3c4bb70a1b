-- Whether a string has ended, by the length of its bytes and the last of them.
use Prim.Native.Nat.{ℕ, suc, ◌-◌, ◌≤◌}
use mathlib.Core.Path.{◌≡◌, refl}
use mathlib.Core.Bool.{false}
use mathlib.Core.List.{List, [], ◌∷◌}
use native.Mathlib.Omega.{arith}
use lib.Dec.{eqb}
use lib.ListN.{length, get_or}
use Rattle.serial_rules.specs.Call.{return}
use Rattle.serial_rules.specs.Body.{ended}

pub ended_none : (s : List ℕ) → length s ≡ 0 → ended s ≡ false
unfolding ended
ended_none [] e = refl
ended_none (x ∷ s) e = absurd (omega arith)

pub ended_last : (s : List ℕ) → 1 ≤ length s → ended s ≡ eqb (get_or s (length s - 1) 0) return
unfolding ended
ended_last [] h = absurd (omega arith)
ended_last (x ∷ []) h = refl
ended_last (x ∷ y ∷ s) h =
    let n : suc (suc (length s)) - 1 ≡ suc (suc (length s) - 1) = omega arith in
    rw (ended_last (y ∷ s) (omega arith), n)
