-- Whether the text fits. A buffer that always holds it: a line takes at most three numbers of three digits and three bytes more, the last line
-- at most 13 bytes.
use Prim.Native.Nat.{ℕ, zero, suc, ◌+◌, ◌*◌, ◌≤◌, ◌<◌}
use native.Mathlib.Omega.{arith}
use borrow.Author.Tests.{le-leb}
use mathlib.Core.Bool.{Bool, ◌&&◌}
use mathlib.Core.Path.{◌≡◌, ap, ◌∙◌}
use mathlib.Core.List.{List, [], ◌∷◌}
use lib.Dec.{leb}
use lib.ListN.{length, get_or, length-append}
use Rattle.script_lines.specs.Text.{line_of, lines_of, end_of, text_of}
use Rattle.script_lines.proofs.Decimal.{digits_most}
use Rattle.script_lines.proofs.Lines.{line_length, end_length}

line_most : (a b l : ℕ) → a < 256 → b < 256 → l < 256 → length (line_of a b l) ≤ 12
line_most a b l h₁ h₂ h₃ =
    omega (arith, line_length a b l, digits_most 2 20 a (omega arith), digits_most 2 20 b (omega arith), digits_most 2 20 l (omega arith))

lines_most : (n : ℕ) (r : List ℕ) → ((i : ℕ) → get_or r i 0 < 256) → length (lines_of n r) ≤ 12 * n
unfolding lines_of
lines_most zero r h = omega arith
lines_most (suc n) [] h = omega arith
lines_most (suc n) (a ∷ []) h = omega arith
lines_most (suc n) (a ∷ b ∷ []) h = omega arith
lines_most (suc n) (a ∷ b ∷ l ∷ r) h =
    let first = line_most a b l (h 0) (h 1) (h 2) in
    let others = lines_most n r (λ i. h (suc (suc (suc i)))) in
    simp length-append (omega arith)

pub always_enough : (results : List ℕ) (played answer : ℕ) → played ≤ 4096 → ((i : ℕ) → get_or results i 0 < 256) → answer < 256
    → length (text_of results played answer) ≤ 49165
unfolding text_of
always_enough results played answer h₁ h₂ h₃ =
    let lines = lines_most played results h₂ in
    let last = end_length played answer in
    simp length-append (omega (arith, digits_most 3 20 played (omega arith), digits_most 2 20 answer (omega arith)))

-- Whether it fits is told by the results that are there, and by the lines and the last line.
module _ (results : List ℕ) (played answer room : ℕ) where
  pub text_length : length (text_of results played answer) ≡ length (lines_of played results) + length (end_of played answer)
  unfolding text_of
  text_length = simp length-append

  pub as_told : {last : ℕ} {b : Bool} → 3 * played ≤ length results → last ≡ length (end_of played answer) → b ≡ leb (length (lines_of played results) + last) room
      → b ≡ (leb (3 * played) (length results) && leb (length (text_of results played answer)) room)
  as_told h e f = rw (le-leb (3 * played) (length results) h, text_length) (f ∙ ap (λ (n : ℕ). leb (length (lines_of played results) + n) room) e)
