-- Where bytes of a shape stand, by the turn of the byte after the first n.
use Prim.Native.Nat.{ℕ, ◌+◌, ◌-◌, ◌≤◌, ◌<◌}
use mathlib.Core.Path.{◌≡◌, refl}
use mathlib.Core.Bool.{Bool, true, false, cond}
use native.Mathlib.Omega.{arith}
use lib.Dec.{eqb, ltb}
use borrow.Author.Tests.{eqb-true, eqb-false, ltb-true, ltb-false}
use Rattle.serial_rules.specs.Call.{return, string_limit}
use Rattle.serial_rules.specs.Marks.{bit}
use Rattle.serial_rules.specs.Body.{Turn, more, done, refused}
use Rattle.serial_rules.specs.Reply.{Shape, fixed, line, text, shape_turn, longest}

-- what holds on both sides holds of the choice
pub choice : {A : Type 0} (P : A → Type 0) (t : Bool) {a b : A} → (t ≡ true → P a) → (t ≡ false → P b) → P (cond t a b)
choice P true f g = f refl
choice P false f g = g refl

-- after n bytes a byte that needs more leaves the count below the limit
abbrev Short : ℕ → ℕ → Turn → Type 0
Short n limit x = x ≡ more → n + 1 < limit

done_short : (n limit : ℕ) → Short n limit done
done_short n limit e = let z : ◌≡◌ {A = ℕ} 0 1 = cc in absurd (omega arith)

refused_short : (n limit k : ℕ) → Short n limit (refused k)
refused_short n limit k e = let z : ◌≡◌ {A = ℕ} 0 1 = cc in absurd (omega arith)

-- a byte of a string or text behind one byte, where t says that it is the last
behind_one : (n : ℕ) (t : Bool) → (n ≡ 0 → ⊥) → Short n 257 (cond t done (cond (ltb (n - 1) string_limit) more (refused 6)))
behind_one n t n0 =
    choice (Short n 257) t (λ _. done_short n 257)
    (λ _. choice (Short n 257) (ltb (n - 1) string_limit) (λ lt _. omega (arith, ltb-true (n - 1) 255 lt)) (λ _. refused_short n 257 6))

-- a byte after which more is needed leaves the count below the longest
pub more_fits : (s : Shape) (n b : ℕ) → shape_turn s n b ≡ more → n + 1 < longest s
unfolding shape_turn
more_fits (fixed k) n b = choice (Short n k) (ltb n (k - 1)) (λ lt _. omega (arith, ltb-true n (k - 1) lt)) (λ _. done_short n k)
more_fits line n b =
    choice (Short n 257) (eqb n 0)
    (λ z. choice (Short n 257) (bit b 0x80) (λ _. done_short n 257) (λ _ _. omega (arith, eqb-true n 0 z)))
    (λ z. behind_one n (eqb b return) (eqb-false n 0 z))
more_fits text n b =
    choice (Short n 257) (eqb n 0) (λ z _. omega (arith, eqb-true n 0 z)) (λ z. behind_one n (eqb b 0) (eqb-false n 0 z))

-- the last byte of a fixed number, and of a text
pub fixed_done : (k n b : ℕ) → n < k → shape_turn (fixed k) n b ≡ done → n + 1 ≡ k
unfolding shape_turn
fixed_done k n b h =
    choice (λ x. x ≡ done → n + 1 ≡ k) (ltb n (k - 1)) (λ _ e. let z : ◌≡◌ {A = ℕ} 0 1 = cc in absurd (omega arith))
    (λ le _. omega (arith, ltb-false n (k - 1) le))

pub text_done : (n b : ℕ) → shape_turn text n b ≡ done → 1 ≤ n
unfolding shape_turn
text_done n b =
    choice (λ x. x ≡ done → 1 ≤ n) (eqb n 0) (λ _ e. let z : ◌≡◌ {A = ℕ} 0 1 = cc in absurd (omega arith))
    (λ z _. let n0 = eqb-false n 0 z in omega arith)
