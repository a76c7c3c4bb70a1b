-- A plain byte in the middle needs more, and there is room for one behind it.
use Prim.Native.Nat.{ℕ, ◌+◌, ◌-◌, ◌<◌}
use native.Mathlib.Omega.{arith}
use mathlib.Core.Path.{◌≡◌, refl}
use mathlib.Core.Bool.{Bool, true, false, cond}
use borrow.Author.Tests.{lt-ltb, ne_eqb, eqb-false}
use lib.Dec.{eqb}
use Rattle.serial_rules.specs.Body.{more}
use Rattle.serial_rules.specs.Reply.{Shape, fixed, line, text, shape_turn, longest}
use Rattle.turns.specs.Plain.{plain}
use Rattle.turns.proofs.Plain.{no_return}
use Rattle.shapes.specs.Ahead.{ahead_of}

-- in the middle of a line its first byte has come
line_begun : (n i : ℕ) → i < ahead_of line n → (n ≡ 0 → ⊥) × (n + i < 256)
line_begun n i = go (eqb n 0) refl
  where
    go : (t : Bool) → eqb n 0 ≡ t → i < cond t 0 (257 - 1 - n) → (n ≡ 0 → ⊥) × (n + i < 256)
    go true e h = absurd (omega arith)
    go false e h = (eqb-false n 0 e, omega arith)

pub ahead_more : (s : Shape) (n i b : ℕ) → i < ahead_of s n → plain b ≡ true → shape_turn s (n + i) b ≡ more
unfolding shape_turn
ahead_more (fixed k) n i b h p = rw (lt-ltb (n + i) (k - 1) (omega arith))
ahead_more line n i b h p =
    let q = line_begun n i h in
    let n0 = q.0 in
    rw (ne_eqb (n + i) 0 (λ e. n0 (omega arith)), no_return b p, lt-ltb (n + i - 1) 255 (omega arith))
ahead_more text n i b h p = absurd (omega arith)

pub ahead_fits : (s : Shape) (n : ℕ) → n < longest s → n + ahead_of s n < longest s
ahead_fits (fixed k) n h = omega arith
ahead_fits line n h = go (eqb n 0)
  where
    go : (t : Bool) → n + cond t 0 (257 - 1 - n) < 257
    go true = omega arith
    go false = omega arith
ahead_fits text n h = omega arith
