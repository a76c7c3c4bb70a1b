-- A list, and a test, over the numbers below n.
use Rattle.std.specs.Prelude.{ℕ, zero, suc, Bool, true, ◌&&◌, List, [], ◌∷◌}

-- f 0, f 1, .., n of them
abbrev pub each : {A : Type 0} → (ℕ → A) → ℕ → List A
each f zero = []
each f (suc n) = f 0 ∷ each (λ (i : ℕ). f (suc i)) n

-- f i holds for each i below n
abbrev pub every : (ℕ → Bool) → ℕ → Bool
every f zero = true
every f (suc n) = f 0 && every (λ (i : ℕ). f (suc i)) n
