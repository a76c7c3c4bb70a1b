-- A record that a step leaves inside a request keeps its limits.
use Prim.Native.Nat.{ℕ, ◌+◌, ◌-◌, ◌*◌, ◌<◌, ◌≤◌, ◌/◌, ◌%◌}
use mathlib.Core.Path.{◌≡◌, refl, ap, ◌∙◌}
use mathlib.Core.Bool.{Bool, true, false, cond, not}
use mathlib.Core.List.{List, [], ◌∷◌}
use native.Mathlib.Omega.{arith}
use native.Mathlib.Nat.{div-one}
use lib.Dec.{eqb, ltb, leb}
use lib.ListN.{length, get_or, take, drop}
use lib.Seq.{length-take-le, get_or-take}
use borrow.Author.Tests.{ltb-true, leb-true, eqb-false, not-true}
use Rattle.serial_rules.specs.Call.{return, string_limit, Carrier, serial, parallel}
use Rattle.serial_rules.proofs.Trip.{and_both}
use Rattle.serial_rules.proofs.Shapes.{choice}
use Rattle.serial_rules.specs.Marks.{bit, is_code, code_in, starts_request}
use Rattle.serial_rules.specs.Reader.{starts}
use Rattle.request_reader.specs.View.{body_room}
use Rattle.serial_rules.specs.Body.{Turn, more, done, refused, string_turn, fixed_turn, checked_turn, word_turn, find_turn, name_turn, ended, file_turn, body_turn, longest_body}

-- what holds on both sides holds of two choices by one test
choices : {A B : Type 0} (P : A → B → Type 0) (t : Bool) {a b : A} {x y : B} → (t ≡ true → P a x) → (t ≡ false → P b y) → P (cond t a b) (cond t x y)
choices P true f g = f refl
choices P false f g = g refl

-- after n bytes a byte that needs more leaves the count below the limit
abbrev Short : ℕ → Turn → ℕ → Type 0
Short n x limit = x ≡ more → n + 1 < limit

done_short : (n limit : ℕ) → Short n done limit
done_short n limit e = let z : ◌≡◌ {A = ℕ} 0 1 = cc in absurd (omega arith)

refused_short : (n k limit : ℕ) → Short n (refused k) limit
refused_short n k limit e = let z : ◌≡◌ {A = ℕ} 0 1 = cc in absurd (omega arith)

-- a string that starts at index p
string_short : (k b p : ℕ) → Short (k + p) (string_turn k b) (256 + p)
string_short k b p =
    choice (λ x. Short (k + p) x (256 + p)) (eqb b return) (λ _. done_short (k + p) (256 + p))
    (λ _. choice (λ x. Short (k + p) x (256 + p)) (ltb k string_limit) (λ t e. omega (arith, ltb-true k 255 t)) (λ _. refused_short (k + p) 6 (256 + p)))

fixed_short : (k n last limit : ℕ) → (k < last → n + 1 < limit) → Short n (fixed_turn k last) limit
fixed_short k n last limit h = choice (λ x. Short n x limit) (ltb k last) (λ t e. h (ltb-true k last t)) (λ _. done_short n limit)

checked_short : (n last : ℕ) (ok : Bool) → Short n (checked_turn n last ok) (last + 1)
checked_short n last ok =
    choice (λ x. Short n x (last + 1)) (ltb n last) (λ t e. omega (arith, ltb-true n last t))
    (λ _. choice (λ x. Short n x (last + 1)) ok (λ _. done_short n (last + 1)) (λ _. refused_short n 9 (last + 1)))

word_short : (s : List ℕ) (b : ℕ) → (2 ≤ length s → get_or s 1 0 < 256) → Short (length s) (word_turn s b) 258
word_short [] b h = λ e. omega arith
word_short (a ∷ []) b h = λ e. omega arith
word_short (a ∷ k ∷ s) b h = let byte : k < 256 = h (omega arith) in fixed_short (length s) (length (a ∷ k ∷ s)) k 258 (λ lt. omega arith)

find_short : (s : List ℕ) (b : ℕ) → Short (length s) (find_turn s b) 257
find_short [] b = λ e. omega arith
find_short (a ∷ s) b =
    choice (λ x. Short (length (a ∷ s)) x 257) (eqb a 0) (λ _. done_short (length (a ∷ s)) 257)
    (λ _ e. omega (arith, string_short (length s) b 1 e))

name_short : (k n b : ℕ) → n ≤ k + 16 → Short n (name_turn k b) 273
name_short k n b h =
    choice (λ x. Short n x 273) (eqb b return)
    (λ _. choice (λ x. Short n x 273) (leb k string_limit) (λ t e. omega (arith, leb-true k 255 t)) (λ _. refused_short n 6 273))
    (λ _. choice (λ x. Short n x 273) (ltb k string_limit) (λ t e. omega (arith, ltb-true k 255 t)) (λ _. refused_short n 6 273))

file_short : (s : List ℕ) (b : ℕ) → Short (length s) (file_turn s b) 273
file_short s b =
    choice (λ x. Short (length s) x 273) (ltb (length s) 16) (λ t e. omega (arith, ltb-true (length s) 16 t))
    (λ _. choice (λ x. Short (length s) x 273) (ended (drop 16 s)) (λ _. done_short (length s) 273)
    (λ _. name_short (length s - 16) (length s) b (omega arith)))

more_short : (code : ℕ) (s : List ℕ) (b : ℕ) → (2 ≤ length s → get_or s 1 0 < 256) → body_turn code s b ≡ more → length s + 1 < longest_body code
unfolding body_turn longest_body
more_short code s b h =
    let n = length s in
    choices (Short n) (eqb code 0x02) (λ _ e. omega (arith, string_short n b 0 e))
    (λ _. choices (Short n) (eqb code 0x04) (λ _. checked_short n 1 (ltb b 0x80))
    (λ _. choices (Short n) (eqb code 0x06) (λ _. checked_short n 2 (leb 0x80 b))
    (λ _. choices (Short n) (eqb code 0x08) (λ _. word_short s b h)
    (λ _. choices (Short n) (eqb code 0x0A) (λ _. fixed_short n n 4 5 (λ lt. omega arith))
    (λ _. choices (Short n) (eqb code 0x0C) (λ _. fixed_short n n 5 6 (λ lt. omega arith))
    (λ _. choices (Short n) (eqb code 0x0E) (λ _. fixed_short n n 0 1 (λ lt. omega arith))
    (λ _. choices (Short n) (eqb code 0x10) (λ _. fixed_short n n 1 2 (λ lt. omega arith))
    (λ _. choices (Short n) (eqb code 0x12) (λ _. find_short s b)
    (λ _. choices (Short n) (eqb code 0x14) (λ _. file_short s b)
    (λ _. choices (Short n) (eqb code 0x16) (λ _. fixed_short n n 13 14 (λ lt. omega arith))
    (λ _. refused_short n 4 0)))))))))))

-- a byte after which more is needed leaves the count below the code's longest body
pub more_fits : (code count b : ℕ) (l : List ℕ) → count ≤ length l → get_or l 1 0 < 256 → body_turn code (take count l) b ≡ more → count + 1 < longest_body code
more_fits code count b l le byte t =
    let n : length (take count l) ≡ count = length-take-le count l le in
    let h : 2 ≤ length (take count l) → get_or (take count l) 1 0 < 256 = λ two. omega (arith, get_or-take count l 1 0 (omega arith)) in
    omega (arith, more_short code (take count l) b h t)

at_most : (t : Bool) {a b m : ℕ} → a ≤ m → b ≤ m → cond t a b ≤ m
at_most true h k = h
at_most false h k = k

-- no body is longer than OSFILE's
pub longest_fits : (code : ℕ) → longest_body code ≤ body_room
unfolding longest_body
longest_fits code =
    at_most (eqb code 0x02) (omega arith) (at_most (eqb code 0x04) (omega arith)
    (at_most (eqb code 0x06) (omega arith) (at_most (eqb code 0x08) (omega arith)
    (at_most (eqb code 0x0A) (omega arith) (at_most (eqb code 0x0C) (omega arith)
    (at_most (eqb code 0x0E) (omega arith) (at_most (eqb code 0x10) (omega arith)
    (at_most (eqb code 0x12) (omega arith) (at_most (eqb code 0x14) (omega arith)
    (at_most (eqb code 0x16) (omega arith) (omega arith)))))))))))

-- The codes in order: an even number from 2 j on is 2 j, or from 2 (j + 1) on.
from_code : (code j : ℕ) {a b : ℕ} → (code % 2 ≡ 1 → ⊥) → 2 * j ≤ code → 0 < a → (2 * (j + 1) ≤ code → 0 < b) → 0 < cond (eqb code (2 * j)) a b
from_code code j even low h f = choice (λ x. 0 < x) (eqb code (2 * j)) (λ _. h) (λ e. let other = eqb-false code (2 * j) e in f (omega arith))

-- every code but &00 has a body
code_body : (code : ℕ) → is_code code ≡ true → (code ≡ 0 → ⊥) → 0 < longest_body code
unfolding longest_body
code_body code is n0 =
    let both = and_both (not (bit code 1)) (leb code 0x16) is in
    let top = leb-true code 0x16 both.1 in
    let even : code % 2 ≡ 1 → ⊥ = λ e. eqb-false (code / 1 % 2) 1 (not-true (bit code 1) both.0) (ap (λ (n : ℕ). n % 2) (div-one code) ∙ e) in
    from_code code 1 even (omega arith) (omega arith) (λ h2. from_code code 2 even h2 (omega arith) (λ h3.
    from_code code 3 even h3 (omega arith) (λ h4. from_code code 4 even h4 (omega arith) (λ h5.
    from_code code 5 even h5 (omega arith) (λ h6. from_code code 6 even h6 (omega arith) (λ h7.
    from_code code 7 even h7 (omega arith) (λ h8. from_code code 8 even h8 (omega arith) (λ h9.
    from_code code 9 even h9 (omega arith) (λ h10. from_code code 10 even h10 (omega arith) (λ h11.
    from_code code 11 even h11 (omega arith) (λ h12. absurd (omega arith))))))))))))

-- a mark that starts a request has a code
starts_code : (carrier : Carrier) (m : ℕ) → starts carrier m ≡ true → is_code (code_in m) ≡ true
unfolding starts_request
starts_code serial m e = (and_both (not (bit m 128)) (is_code (code_in m)) e).1
starts_code parallel m e =
    let top = leb-true m 0x16 (and_both (not (bit m 1)) (leb m 0x16) e).1 in
    let same : m % 32 ≡ m = omega arith in
    rw same e

pub starts_body : (carrier : Carrier) (m : ℕ) → starts carrier m ≡ true → (code_in m ≡ 0 → ⊥) → 0 < longest_body (code_in m)
starts_body carrier m e n0 = code_body (code_in m) (starts_code carrier m e) n0
