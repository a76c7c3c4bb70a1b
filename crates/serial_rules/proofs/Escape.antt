-- Laws of the escape layer: joining, exact length, and reading back.
use Prim.Native.Nat.{ℕ, ◌+◌, ◌*◌, ◌≤◌}
use mathlib.Core.Path.{◌≡◌, refl, sym, ap, ◌∙◌}
use mathlib.Core.Bool.{Bool, true, false, cond}
use mathlib.Core.List.{List, [], ◌∷◌, ◌++◌, append_assoc, append-nil}
use native.Mathlib.Omega.{arith}
use lib.Dec.{eqb}
use lib.ListN.{length, length-append}
use Rattle.serial_rules.specs.Escape.{escape, escaped_byte, escaped, escapes}

pub escaped_append : (a b : List ℕ) → escaped (a ++ b) ≡ escaped a ++ escaped b
unfolding escaped
escaped_append [] b = refl
escaped_append (x ∷ a) b = ap (λ (l : List ℕ). escaped_byte x ++ l) (escaped_append a b) ∙ sym (append_assoc (escaped_byte x) (escaped a) (escaped b))

pub escaped_one : (b : ℕ) → escaped (b ∷ []) ≡ escaped_byte b
unfolding escaped
escaped_one b = append-nil (escaped_byte b)

-- "exactly N plus the number of &9B among them", "at least N and at most 2N"
byte_length : (x : ℕ) → length (escaped_byte x) ≡ 1 + cond (eqb x escape) 1 0
byte_length x = go (eqb x escape)
  where
    go : (t : Bool) → length (cond t (escape ∷ escape ∷ []) (x ∷ [])) ≡ 1 + cond t 1 0
    go true = refl
    go false = refl

pub escaped_length : (l : List ℕ) → length (escaped l) ≡ length l + escapes l
unfolding escaped escapes
escaped_length [] = refl
escaped_length (x ∷ l) = rw (length-append (escaped_byte x) (escaped l), byte_length x, escaped_length l) (omega arith)

escapes_most : (l : List ℕ) → escapes l ≤ length l
unfolding escapes
escapes_most [] = omega arith
escapes_most (x ∷ l) = let h = escapes_most l in go (eqb x escape) h
  where
    go : (t : Bool) → escapes l ≤ length l → cond t 1 0 + escapes l ≤ length (x ∷ l)
    go true h = omega arith
    go false h = omega arith

pub escaped_least : (l : List ℕ) → length l ≤ length (escaped l)
escaped_least l = omega (arith, escaped_length l)

pub escaped_most : (l : List ℕ) → length (escaped l) ≤ 2 * length l
escaped_most l = omega (arith, escaped_length l, escapes_most l)
