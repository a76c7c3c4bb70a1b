-- A word as digits of base 256, the lowest first. A word of 64 bits has eight; those behind are 0.
use Rattle.std.specs.Prelude.{ℕ, zero, suc, ◌*◌, ◌/◌, ◌%◌, ◌<◌, ◌≤◌, ◌≡◌}

-- the weight of digit i
unfoldable pub power : ℕ → ℕ
power zero = 1
power (suc i) = 256 * power i

unfoldable pub digit : ℕ → ℕ → ℕ
digit w i = w / power i % 256

-- digit i is b, if there is one, and no other is changed
pub record Replaced (w i b r : ℕ) : Type 0 where
  pub at : i < 8 → digit r i ≡ b
  pub others : (j : ℕ) → (j ≡ i → ⊥) → digit r j ≡ digit w j

-- each of the n lowest digits is the one above it, and no other is changed
pub record Slid (w n r : ℕ) : Type 0 where
  pub moved : (j : ℕ) → j < n → digit r j ≡ digit w (suc j)
  pub others : (j : ℕ) → n ≤ j → digit r j ≡ digit w j
