-- Where a data byte or mark ends, and the raw bytes that a data byte is.
use Prim.Native.Nat.{ℕ, ◌+◌, ◌≤◌, ◌<◌}
use native.Mathlib.Omega.{arith}
use mathlib.Core.Path.{◌≡◌, subst}
use mathlib.Core.Bool.{false}
use mathlib.Core.List.{List}
use lib.Dec.{eqb, ltb}
use lib.ListN.{length, get_or}
use borrow.Author.Tests.{ltb-true, eqb-true, lt-ltb}
use Rattle.serial_rules.specs.Escape.{escape}
use Rattle.serial_rules.proofs.Shapes.{choice}
use Rattle.escape.specs.Units as units
use Rattle.escape.specs.Units.{unit_at}

-- the place behind it
abbrev Near : ℕ → ℕ → units.Unit → Type 0
Near i len units.gone = Unit
Near i len (units.datum b n) = (i < n) × (n ≤ len)
Near i len (units.mark m n) = (i + 1 < n) × (n ≤ len)

unit_near : (s : List ℕ) (i : ℕ) → Near i (length s) (unit_at s i)
unfolding unit_at
unit_near s i =
    choice (Near i (length s)) (ltb i (length s)) (λ e. let l = ltb-true i (length s) e in
    choice (Near i (length s)) (eqb (get_or s i 0) escape) (λ _.
    choice (Near i (length s)) (ltb (i + 1) (length s)) (λ f. let k = ltb-true (i + 1) (length s) f in
    choice (Near i (length s)) (eqb (get_or s (i + 1) 0) escape) (λ _. (omega arith, omega arith)) (λ _. (omega arith, omega arith)))
    (λ _. tt))
    (λ _. (omega arith, omega arith)))
    (λ _. tt)

pub data_near : (s : List ℕ) (i : ℕ) {b n : ℕ} → unit_at s i ≡ units.datum b n → (i < n) × (n ≤ length s)
data_near s i e = subst (Near i (length s)) e (unit_near s i)

pub mark_near : (s : List ℕ) (i : ℕ) {m n : ℕ} → unit_at s i ≡ units.mark m n → (i + 1 < n) × (n ≤ length s)
mark_near s i e = subst (Near i (length s)) e (unit_near s i)

-- a byte that is no escape
pub unit_data : (s : List ℕ) (i b : ℕ) → i < length s → get_or s i 0 ≡ b → eqb b escape ≡ false → unit_at s i ≡ units.datum b (i + 1)
unfolding unit_at
unit_data s i b h e p = simp (lt-ltb i (length s) h, e, p)

-- A data byte is one raw byte, or two escapes.
pub data DataAt (s : List ℕ) (i : ℕ) : ℕ → ℕ → Type 0 where
  plain : i < length s → eqb (get_or s i 0) escape ≡ false → DataAt s i (get_or s i 0) (i + 1)
  doubled : i + 1 < length s → get_or s i 0 ≡ escape → get_or s (i + 1) 0 ≡ escape → DataAt s i escape (i + 1 + 1)

abbrev ReadAt : List ℕ → ℕ → units.Unit → Type 0
ReadAt s i units.gone = Unit
ReadAt s i (units.datum b n) = DataAt s i b n
ReadAt s i (units.mark m n) = Unit

unit_read : (s : List ℕ) (i : ℕ) → ReadAt s i (unit_at s i)
unfolding unit_at
unit_read s i =
    choice (ReadAt s i) (ltb i (length s)) (λ e.
    choice (ReadAt s i) (eqb (get_or s i 0) escape) (λ a.
    choice (ReadAt s i) (ltb (i + 1) (length s)) (λ f.
    choice (ReadAt s i) (eqb (get_or s (i + 1) 0) escape)
    (λ b. doubled (ltb-true (i + 1) (length s) f) (eqb-true (get_or s i 0) escape a) (eqb-true (get_or s (i + 1) 0) escape b))
    (λ _. tt))
    (λ _. tt))
    (λ a. plain (ltb-true i (length s) e) a))
    (λ _. tt)

pub data_read : (s : List ℕ) (i : ℕ) {b n : ℕ} → unit_at s i ≡ units.datum b n → DataAt s i b n
data_read s i e = subst (ReadAt s i) e (unit_read s i)
