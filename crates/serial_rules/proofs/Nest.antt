-- The open transfers as one number: one more is opened, the innermost is closed, how many there are, and the number back.
use Prim.Native.Nat.{ℕ, suc, ◌+◌, ◌*◌, ◌-◌, ◌/◌, ◌%◌, ◌≤◌, ◌<◌}
use mathlib.Core.Path.{◌≡◌, refl, sym, ap, ◌∙◌}
use mathlib.Core.Bool.{Bool, true, false, cond}
use mathlib.Core.List.{List, [], ◌∷◌}
use native.Mathlib.Omega.{arith}
use lib.Dec.{eqb, ltb}
use lib.ListN.{length}
use borrow.Author.Tests.{eq-eqb, ne_eqb, eqb-true, eqb-false, lt-ltb, le-ltb}
use Rattle.serial_rules.specs.Link.{Transfer, load, save, deepest}
use Rattle.serial_rules.specs.Nest.{levels, nest_of}

-- one level more changes nothing where the number is small enough
same_none : (n : ℕ) → n ≤ 0 → levels 0 n ≡ levels 1 n
same_none n h = let e : n ≡ 0 = omega arith in rw e refl

same_next : (k b : ℕ) → ((n : ℕ) → n ≤ b → levels k n ≡ levels (suc k) n) → (n : ℕ) → n ≤ 2 * b + 2 → levels (suc k) n ≡ levels (suc (suc k)) n
same_next k b s n h = go (eqb n 0)
  where
    go : (t : Bool) → cond t [] (cond (eqb (n % 2) 1) load save ∷ levels k ((n - 1) / 2)) ≡ cond t [] (cond (eqb (n % 2) 1) load save ∷ levels (suc k) ((n - 1) / 2))
    go true = refl
    go false = ap (λ (l : List Transfer). cond (eqb (n % 2) 1) load save ∷ l) (s ((n - 1) / 2) (omega arith))

same_three : (n : ℕ) → n ≤ 14 → levels 3 n ≡ levels 4 n
same_three = same_next 2 6 (same_next 1 2 (same_next 0 0 same_none))

-- none is open; the innermost, and what stands around it
pub nest_none : nest_of 0 ≡ []
unfolding nest_of
nest_none = refl

pub nest_top : (n : ℕ) → 0 < n → n ≤ 30 → nest_of n ≡ cond (eqb (n % 2) 1) load save ∷ nest_of ((n - 1) / 2)
unfolding nest_of
nest_top n h m = rw (ne_eqb n 0 (λ e. omega arith)) (ap (λ (l : List Transfer). cond (eqb (n % 2) 1) load save ∷ l) (same_three ((n - 1) / 2) (omega arith)))

-- one more
pub nest_load : (n : ℕ) → n ≤ 14 → nest_of (2 * n + 1) ≡ load ∷ nest_of n
nest_load n h =
    let p : (2 * n + 1 - 1) / 2 ≡ n = omega arith in
    nest_top (2 * n + 1) (omega arith) (omega arith) ∙ rw (eq-eqb ((2 * n + 1) % 2) 1 (omega arith), p) refl

pub nest_save : (n : ℕ) → n ≤ 14 → nest_of (2 * n + 2) ≡ save ∷ nest_of n
nest_save n h =
    let p : (2 * n + 2 - 1) / 2 ≡ n = omega arith in
    nest_top (2 * n + 2) (omega arith) (omega arith) ∙ rw (ne_eqb ((2 * n + 2) % 2) 1 (λ e. omega arith), p) refl

-- how many there are: fewer than four exactly below 15
below_next : (k j b : ℕ) → ((n : ℕ) → n ≤ b → length (levels k n) ≤ j) → (n : ℕ) → n ≤ 2 * b + 2 → length (levels (suc k) n) ≤ suc j
below_next k j b s n h = go (eqb n 0)
  where
    go : (t : Bool) → length (cond t [] (cond (eqb (n % 2) 1) load save ∷ levels k ((n - 1) / 2))) ≤ suc j
    go true = omega arith
    go false = omega (arith, s ((n - 1) / 2) (omega arith))

none_below : (n : ℕ) → n ≤ 0 → length (levels 1 n) ≤ 0
none_below n h = rw (eq-eqb n 0 (omega arith)) (omega arith)

above_next : (k j b : ℕ) → ((n : ℕ) → b < n → j < length (levels k n)) → (n : ℕ) → 2 * b + 2 < n → suc j < length (levels (suc k) n)
above_next k j b s n h = rw (ne_eqb n 0 (λ e. omega arith)) (omega (arith, s ((n - 1) / 2) (omega arith)))

one_above : (n : ℕ) → 0 < n → 0 < length (levels 1 n)
one_above n h = rw (ne_eqb n 0 (λ e. omega arith)) (omega arith)

pub nest_few : (n : ℕ) → n < 15 → ltb (length (nest_of n)) deepest ≡ true
unfolding nest_of
nest_few n h = lt-ltb (length (levels 4 n)) 4 (omega (arith, below_next 3 2 6 (below_next 2 1 2 (below_next 1 0 0 none_below)) n (omega arith)))

pub nest_full : (n : ℕ) → 15 ≤ n → ltb (length (nest_of n)) deepest ≡ false
unfolding nest_of
nest_full n h = le-ltb (length (levels 4 n)) 4 (omega (arith, above_next 3 2 6 (above_next 2 1 2 (above_next 1 0 0 one_above)) n (omega arith)))

-- the number of open transfers, back from them
abbrev pub nest_number : List Transfer → ℕ
nest_number [] = 0
nest_number (load ∷ o) = 2 * nest_number o + 1
nest_number (save ∷ o) = 2 * nest_number o + 2

top_number : (k n : ℕ) (o : List Transfer) → 0 < n → nest_number o ≡ (n - 1) / 2 → nest_number (cond (eqb (n % 2) 1) load save ∷ o) ≡ n
top_number k n o h e = go (eqb (n % 2) 1) refl
  where
    go : (t : Bool) → eqb (n % 2) 1 ≡ t → nest_number (cond t load save ∷ o) ≡ n
    go true p = omega (arith, e, eqb-true (n % 2) 1 p)
    go false p = let q = eqb-false (n % 2) 1 p in omega (arith, e)

back_next : (k b : ℕ) → ((n : ℕ) → n ≤ b → nest_number (levels k n) ≡ n) → (n : ℕ) → n ≤ 2 * b + 2 → nest_number (levels (suc k) n) ≡ n
back_next k b s n h = go (eqb n 0) refl
  where
    go : (t : Bool) → eqb n 0 ≡ t → nest_number (cond t [] (cond (eqb (n % 2) 1) load save ∷ levels k ((n - 1) / 2))) ≡ n
    go true e = sym (eqb-true n 0 e)
    go false e = let z = eqb-false n 0 e in top_number k n (levels k ((n - 1) / 2)) (omega arith) (s ((n - 1) / 2) (omega arith))

none_back : (n : ℕ) → n ≤ 0 → nest_number (levels 0 n) ≡ n
none_back n h = omega arith

pub nest_back : (n : ℕ) → n ≤ 30 → nest_number (nest_of n) ≡ n
unfolding nest_of
nest_back = back_next 3 14 (back_next 2 6 (back_next 1 2 (back_next 0 0 none_back)))
