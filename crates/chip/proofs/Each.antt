-- Laws of a list and of a test over the numbers below n.
use Prim.Native.Nat.{ℕ, zero, suc, ◌<◌}
use mathlib.Core.Path.{◌≡◌, refl, ap}
use mathlib.Core.Bool.{Bool, true, false, and-false}
use mathlib.Core.List.{List, [], ◌∷◌, ◌++◌}
use lib.ListN.{length, get_or, set}
use native.Mathlib.Omega.{arith}
use Rattle.chip.specs.Each.{each, every}
use Rattle.chip_rules.proofs.Laws.{and_true_both}

pub each_at : {A : Type 0} (f : ℕ → A) (n k : ℕ) (d : A) → k < n → get_or (each f n) k d ≡ f k
each_at f zero k d h = absurd (omega arith)
each_at f (suc n) zero d h = refl
each_at f (suc n) (suc k) d h = each_at (λ i. f (suc i)) n k d (omega arith)

pub each_length : {A : Type 0} (f : ℕ → A) (n : ℕ) → length (each f n) ≡ n
each_length f zero = refl
each_length f (suc n) = ap suc (each_length (λ i. f (suc i)) n)

pub each_same : {A : Type 0} (f g : ℕ → A) (n : ℕ) → ((j : ℕ) → j < n → g j ≡ f j) → each g n ≡ each f n
each_same f g zero h = refl
each_same f g (suc n) h = rw (h 0 (omega arith), each_same (λ i. f (suc i)) (λ i. g (suc i)) n (λ j m. h (suc j) (omega arith)))

pub each_snoc : {A : Type 0} (f : ℕ → A) (n : ℕ) → each f (suc n) ≡ each f n ++ (f n ∷ [])
each_snoc f zero = refl
each_snoc f (suc n) = ap (λ (l : List _). f 0 ∷ l) (each_snoc (λ i. f (suc i)) n)

-- one entry changed
pub each_set : {A : Type 0} (f g : ℕ → A) (n k : ℕ) → k < n → ((j : ℕ) → j < n → (j ≡ k → ⊥) → g j ≡ f j)
    → each g n ≡ set (each f n) k (g k)
each_set f g zero k h o = absurd (omega arith)
each_set f g (suc n) zero h o = rw (each_same (λ i. f (suc i)) (λ i. g (suc i)) n (λ j m. o (suc j) (omega arith) (λ e. omega arith)))
each_set f g (suc n) (suc k) h o =
    rw (
      o 0 (omega arith) (λ e. omega arith),
      each_set (λ i. f (suc i)) (λ i. g (suc i)) n k (omega arith) (λ j m d. o (suc j) (omega arith) (λ e. d (omega arith))),
    )

pub every_at : (f : ℕ → Bool) (n k : ℕ) → every f n ≡ true → k < n → f k ≡ true
every_at f zero k e h = absurd (omega arith)
every_at f (suc n) zero e h = (and_true_both (f 0) (every (λ i. f (suc i)) n) e).0
every_at f (suc n) (suc k) e h = every_at (λ i. f (suc i)) n k (and_true_both (f 0) (every (λ i. f (suc i)) n) e).1 (omega arith)

pub every_true : (f : ℕ → Bool) (n : ℕ) → ((k : ℕ) → k < n → f k ≡ true) → every f n ≡ true
every_true f zero h = refl
every_true f (suc n) h = rw (h 0 (omega arith)) (every_true (λ i. f (suc i)) n (λ k m. h (suc k) (omega arith)))

pub every_false : (f : ℕ → Bool) (n k : ℕ) → k < n → f k ≡ false → every f n ≡ false
every_false f zero k h b = absurd (omega arith)
every_false f (suc n) zero h b = rw b
every_false f (suc n) (suc k) h b = rw (every_false (λ i. f (suc i)) n k (omega arith) b) (and-false (f 0))
