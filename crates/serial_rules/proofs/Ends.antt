-- Bytes that belong together and are complete at their last byte, neither earlier nor later: so many of any bytes, a line, a text.
use Prim.Native.Nat.{ℕ, suc, ◌+◌, ◌-◌, ◌≤◌, ◌<◌}
use mathlib.Core.Path.{◌≡◌}
use mathlib.Core.Bool.{false}
use mathlib.Core.List.{List, [], ◌∷◌, ◌++◌}
use native.Mathlib.Omega.{arith}
use lib.Dec.{eqb}
use lib.ListN.{length}
use borrow.Author.Tests.{ne_eqb, lt-ltb, le-ltb}
use Rattle.serial_rules.specs.Call.{return, has_return}
use Rattle.serial_rules.specs.Body.{more, done}
use Rattle.serial_rules.specs.Reply.{Shape, fixed, line, text, shape_turn}
use Rattle.serial_rules.specs.Session.{has_zero}
use Rattle.serial_rules.proofs.Trip.{or_false}

-- the bytes after n of them: each but the last needs more
pub data Ends (shape : Shape) : ℕ → List ℕ → Type 0 where
  last : (n b : ℕ) → shape_turn shape n b ≡ done → Ends shape n (b ∷ [])
  next : (n b : ℕ) (s : List ℕ) → shape_turn shape n b ≡ more → Ends shape (suc n) s → Ends shape n (b ∷ s)

pub fixed_ends : (k n b : ℕ) (s : List ℕ) → suc n + length s ≡ k → Ends (fixed k) n (b ∷ s)
unfolding shape_turn
fixed_ends k n b [] h = last n b (rw (le-ltb n (k - 1) (omega arith)))
fixed_ends k n b (c ∷ s) h = next n b (c ∷ s) (rw (lt-ltb n (k - 1) (omega arith))) (fixed_ends k (suc n) c s (omega arith))

pub positive : (n : ℕ) → eqb (suc n) 0 ≡ false
positive n = ne_eqb (suc n) 0 (λ h. omega arith)

-- a byte of a line behind its first byte, and of a text behind its number
line_more : (n x : ℕ) → eqb x return ≡ false → n < 255 → shape_turn line (suc n) x ≡ more
unfolding shape_turn
line_more n x e h = let p : suc n - 1 ≡ n = omega arith in simp (positive n, e, p, lt-ltb n 255 h)

line_done : (n : ℕ) → shape_turn line (suc n) return ≡ done
unfolding shape_turn
line_done n = simp (positive n)

text_more : (n x : ℕ) → eqb x 0 ≡ false → n < 255 → shape_turn text (suc n) x ≡ more
unfolding shape_turn
text_more n x e h = let p : suc n - 1 ≡ n = omega arith in simp (positive n, e, p, lt-ltb n 255 h)

text_done : (n : ℕ) → shape_turn text (suc n) 0 ≡ done
unfolding shape_turn
text_done n = simp (positive n)

pub line_ends : (n : ℕ) (t : List ℕ) → has_return t ≡ false → n + length t ≤ 255 → Ends line (suc n) (t ++ (return ∷ []))
unfolding has_return
line_ends n [] h r = last (suc n) return (line_done n)
line_ends n (x ∷ t) h r =
    let e = or_false (eqb x return) (has_return t) h in
    next (suc n) x (t ++ (return ∷ [])) (line_more n x e.0 (omega arith)) (line_ends (suc n) t e.1 (omega arith))

pub text_ends : (n : ℕ) (t : List ℕ) → has_zero t ≡ false → n + length t ≤ 255 → Ends text (suc n) (t ++ (0 ∷ []))
unfolding has_zero
text_ends n [] h r = last (suc n) 0 (text_done n)
text_ends n (x ∷ t) h r =
    let e = or_false (eqb x 0) (has_zero t) h in
    next (suc n) x (t ++ (0 ∷ [])) (text_more n x e.0 (omega arith)) (text_ends (suc n) t e.1 (omega arith))
