-- The lines, field by field and record by record.
use Prim.Native.Nat.{ℕ, zero, suc, ◌+◌, ◌*◌, ◌≤◌, ◌<◌}
use native.Mathlib.Omega.{arith}
use native.Mathlib.Numerals.{add-one}
use mathlib.Core.Path.{◌≡◌, refl, ap, ◌∙◌}
use mathlib.Core.List.{List, [], ◌∷◌, ◌++◌, append_assoc, append-nil}
use lib.ListN.{length, get_or, length-append}
use Rattle.script_lines.specs.Text.{decimal, line_of, lines_of, end_of, text_of}
use Rattle.script_lines.specs.Fields.{end_word, field_of}

pub line_fields : (a b l : ℕ) → line_of a b l ≡ (field_of a 32 ++ field_of b 32) ++ field_of l 10
unfolding line_of field_of
line_fields a b l = simp append_assoc

pub end_fields : (n a : ℕ) → end_of n a ≡ (end_word ++ field_of n 32) ++ field_of a 10
unfolding end_of field_of
end_fields n a = simp append_assoc

pub field_length : (n e : ℕ) → length (field_of n e) ≡ length (decimal n) + 1
unfolding field_of
field_length n e = simp length-append

pub line_length : (a b l : ℕ) → length (line_of a b l) ≡ length (decimal a) + length (decimal b) + length (decimal l) + 3
line_length a b l = rw line_fields (simp (length-append, field_length) (omega arith))

pub end_length : (n a : ℕ) → length (end_of n a) ≡ length (decimal n) + length (decimal a) + 6
end_length n a = rw end_fields (simp (length-append, field_length) (omega arith))

-- the line of record i
unfoldable pub nth : ℕ → List ℕ → List ℕ
nth i r = line_of (get_or r (3 * i) 0) (get_or r (3 * i + 1) 0) (get_or r (3 * i + 2) 0)

-- one line more at the end
pub lines_snoc : (i : ℕ) (r : List ℕ) → 3 * i + 3 ≤ length r → lines_of (i + 1) r ≡ lines_of i r ++ nth i r
unfolding lines_of nth
lines_snoc i r h = rw (add-one i) (go i r h)
  where
    past : (a b l : ℕ) (r : List ℕ) (n m : ℕ) → n ≡ suc (suc (suc m)) → get_or (a ∷ b ∷ l ∷ r) n 0 ≡ get_or r m 0
    past a b l r n m e = ap (λ (i : ℕ). get_or (a ∷ b ∷ l ∷ r) i 0) e

    next : (i a b l : ℕ) (r : List ℕ) → nth (suc i) (a ∷ b ∷ l ∷ r) ≡ nth i r
    next i a b l r =
        rw (past a b l r (3 * suc i) (3 * i) (omega arith), past a b l r (3 * suc i + 1) (3 * i + 1) (omega arith), past a b l r (3 * suc i + 2) (3 * i + 2) (omega arith))

    go : (i : ℕ) (r : List ℕ) → 3 * i + 3 ≤ length r → lines_of (suc i) r ≡ lines_of i r ++ nth i r
    go i [] h = absurd (omega arith)
    go i (a ∷ []) h = absurd (omega arith)
    go i (a ∷ b ∷ []) h = absurd (omega arith)
    go zero (a ∷ b ∷ l ∷ r) h = append-nil _
    go (suc i) (a ∷ b ∷ l ∷ r) h = ap (λ (t : List ℕ). line_of a b l ++ t) (go i r (omega arith)) ∙ rw (append_assoc, next)

pub lines_length : (i : ℕ) (r : List ℕ) → 3 * i + 3 ≤ length r → length (lines_of (i + 1) r) ≡ length (lines_of i r) + length (nth i r)
lines_length i r h = rw (lines_snoc i r h) (simp length-append)

lines_more : (i n : ℕ) (r : List ℕ) → i ≤ n → length (lines_of i r) ≤ length (lines_of n r)
unfolding lines_of
lines_more zero n r h = omega arith
lines_more (suc i) zero r h = absurd (omega arith)
lines_more (suc i) (suc n) [] h = omega arith
lines_more (suc i) (suc n) (a ∷ []) h = omega arith
lines_more (suc i) (suc n) (a ∷ b ∷ []) h = omega arith
lines_more (suc i) (suc n) (a ∷ b ∷ l ∷ r) h = simp length-append (omega (arith, lines_more i n r (omega arith)))

-- while lines are left, the next one fits where all fit
pub lines_room : (i n : ℕ) (r : List ℕ) → i < n → 3 * n ≤ length r → length (lines_of i r) + length (nth i r) ≤ length (lines_of n r)
lines_room i n r h₁ h₂ = omega (arith, lines_length i r (omega arith), lines_more (i + 1) n r (omega arith))

-- the text of n records looks at the first 3 n result bytes alone
lines_front : (n : ℕ) (l rest : List ℕ) → length l ≡ 3 * n → lines_of n (l ++ rest) ≡ lines_of n l
unfolding lines_of
lines_front zero l rest h = refl
lines_front (suc n) [] rest h = absurd (omega arith)
lines_front (suc n) (a ∷ []) rest h = absurd (omega arith)
lines_front (suc n) (a ∷ b ∷ []) rest h = absurd (omega arith)
lines_front (suc n) (a ∷ b ∷ c ∷ l) rest h = ap (λ (t : List ℕ). line_of a b c ++ t) (lines_front n l rest (omega arith))

pub text_front : (n a : ℕ) (l rest : List ℕ) → length l ≡ 3 * n → text_of (l ++ rest) n a ≡ text_of l n a
unfolding text_of
text_front n a l rest h = ap (λ (t : List ℕ). t ++ end_of n a) (lines_front n l rest h)
