-- The digits are the number: read as decimal they give it back, each is between 48 and 57, and no number but 0 starts with a 0.
use Prim.Native.Nat.{ℕ, zero, suc, ◌+◌, ◌*◌, ◌/◌, ◌%◌, ◌-◌, ◌^◌, ◌≤◌, ◌<◌}
use native.Mathlib.Omega.{arith}
use native.Mathlib.Nat.{pow-suc}
use borrow.Author.Tests.{ltb-true, ltb-false, lt-ltb, le-ltb}
use mathlib.Core.Bool.{Bool, true, false, cond}
use mathlib.Core.Logic.{◌⊎◌, inl, inr}
use mathlib.Core.Path.{◌≡◌, refl, ap, sym, ◌∙◌}
use mathlib.Core.List.Memᴰ
use mathlib.Core.List.{List, [], ◌∷◌, ◌++◌, Memᴰ}
use lib.Dec.{ltb}
use lib.ListN.{length, get_or, length-append}
use Rattle.script_lines.specs.Text.{digits_of, decimal}

-- one digit, or one behind the others
pub digits_few : (k n : ℕ) → 0 < k → n < 10 → digits_of k n ≡ (48 + n % 10) ∷ []
unfolding digits_of
digits_few zero n h₁ h₂ = absurd (omega arith)
digits_few (suc k) n h₁ h₂ = rw (lt-ltb n 10 h₂)

pub digits_more : (k n : ℕ) → 0 < k → 10 ≤ n → digits_of k n ≡ digits_of (k - 1) (n / 10) ++ ((48 + n % 10) ∷ [])
unfolding digits_of
digits_more zero n h₁ h₂ = absurd (omega arith)
digits_more (suc k) n h₁ h₂ = let e : suc k - 1 ≡ k = omega arith in rw (le-ltb n 10 h₂, e)

-- where k digits are enough, one more changes nothing
digits_enough : (k n : ℕ) → n < 10 ^ suc k → digits_of (suc (suc k)) n ≡ digits_of (suc k) n
unfolding digits_of
digits_enough zero n h = let l : n < 10 = omega arith in rw (lt-ltb n 10 l)
digits_enough (suc k) n h =
    ap (λ (l : List ℕ). cond (ltb n 10) ((48 + n % 10) ∷ []) (l ++ ((48 + n % 10) ∷ []))) (digits_enough k (n / 10) (omega (arith, pow-suc 10 (suc k))))

-- the digits of a number of 64 bits, by its last digit
pub decimal_few : (n : ℕ) → n < 10 → decimal n ≡ (48 + n % 10) ∷ []
decimal_few n h = digits_few 20 n (omega arith) h

pub decimal_more : (n : ℕ) → 10 ≤ n → n < 2 ^ 64 → decimal n ≡ decimal (n / 10) ++ ((48 + n % 10) ∷ [])
decimal_more n h m = digits_more 20 n (omega arith) h ∙ ap (λ (l : List ℕ). l ++ ((48 + n % 10) ∷ [])) (sym (digits_enough 18 (n / 10) (omega arith)))

-- What holds of no digit, of one digit and of one digit more holds of the digits of every number.
digits_induct : (P : ℕ → ℕ → List ℕ → Type 0)
    → ((n : ℕ) → P 0 n [])
    → ((k n : ℕ) → n < 10 → P (suc k) n ((48 + n % 10) ∷ []))
    → ((k n : ℕ) (l : List ℕ) → 10 ≤ n → P k (n / 10) l → P (suc k) n (l ++ ((48 + n % 10) ∷ [])))
    → (k n : ℕ) → P k n (digits_of k n)
unfolding digits_of
digits_induct P none one more zero n = none n
digits_induct P none one more (suc k) n = go (ltb n 10) refl (digits_induct P none one more k (n / 10))
  where
    go : (b : Bool) → ltb n 10 ≡ b → P k (n / 10) (digits_of k (n / 10)) → P (suc k) n (digits_of (suc k) n)
    go true e p = rw e (one k n (ltb-true n 10 e))
    go false e p = rw e (more k n (digits_of k (n / 10)) (ltb-false n 10 e) p)

-- the value of ASCII digits behind others of the value v
unfoldable pub value_from : ℕ → List ℕ → ℕ
value_from v [] = v
value_from v (d ∷ l) = value_from (v * 10 + (d - 48)) l

value_snoc : (v : ℕ) (l : List ℕ) (d : ℕ) → value_from v (l ++ (d ∷ [])) ≡ value_from v l * 10 + (d - 48)
unfolding value_from
value_snoc v [] d = refl
value_snoc v (x ∷ l) d = value_snoc (v * 10 + (x - 48)) l d

pub digits_value : (k n : ℕ) → n < 10 ^ k → value_from 0 (digits_of k n) ≡ n
unfolding value_from
digits_value =
    digits_induct (λ k n l. n < 10 ^ k → value_from 0 l ≡ n)
    (λ n h. omega arith)
    (λ k n h₁ h₂. omega arith)
    (λ k n l h₁ p h₂.
    let e = p (omega (arith, pow-suc 10 k)) in
    rw (value_snoc 0 l (48 + n % 10), e) (omega arith))

pub decimal_value : (n : ℕ) → n < 2 ^ 64 → value_from 0 (decimal n) ≡ n
decimal_value n h = digits_value 20 n (omega arith)

pub digits_between : (k n d : ℕ) → Memᴰ d (digits_of k n) → (48 ≤ d) × (d ≤ 57)
digits_between k n d =
    digits_induct (λ k n l. Memᴰ d l → (48 ≤ d) × (d ≤ 57))
    (λ n m. absurd (Memᴰ.not-nil m))
    (λ k n h m. last n (Memᴰ.eq_of_singleton m))
    (λ k n l h p m. either n l p (Memᴰ.append_cases l m))
    k
    n
  where
    last : (n : ℕ) → d ≡ 48 + n % 10 → (48 ≤ d) × (d ≤ 57)
    last n e = omega arith

    either : (n : ℕ) (l : List ℕ) → (Memᴰ d l → (48 ≤ d) × (d ≤ 57)) → Memᴰ d l ⊎ Memᴰ d ((48 + n % 10) ∷ []) → (48 ≤ d) × (d ≤ 57)
    either n l p (inl m) = p m
    either n l p (inr m) = last n (Memᴰ.eq_of_singleton m)

pub no_leading_zero : (k n : ℕ) → 0 < n → n < 10 ^ k → 48 < get_or (digits_of k n) 0 0
no_leading_zero =
    digits_induct (λ k n l. 0 < n → n < 10 ^ k → 48 < get_or l 0 0)
    (λ n h₁ h₂. omega arith)
    (λ k n h h₁ h₂. omega arith)
    (λ k n l h p h₁ h₂. front l (48 + n % 10) (p (omega arith) (omega (arith, pow-suc 10 k))))
  where
    front : (l : List ℕ) (d : ℕ) → 48 < get_or l 0 0 → 48 < get_or (l ++ (d ∷ [])) 0 0
    front [] d h = absurd (omega arith)
    front (x ∷ l) d h = h

-- a number below 10 ^ j has at most j digits, where j is not 0
pub digits_most : (j k n : ℕ) → n < 10 ^ suc j → length (digits_of k n) ≤ suc j
digits_most j k n =
    digits_induct (λ k n l. (j : ℕ) → n < 10 ^ suc j → length l ≤ suc j)
    (λ n j h. omega arith)
    (λ k n h₁ j h₂. omega arith)
    (λ k n l h₁ p j h₂. more n l h₁ p j h₂)
    k
    n
    j
  where
    more : (n : ℕ) (l : List ℕ) → 10 ≤ n → ((j : ℕ) → n / 10 < 10 ^ suc j → length l ≤ suc j)
        → (j : ℕ) → n < 10 ^ suc j → length (l ++ ((48 + n % 10) ∷ [])) ≤ suc j
    more n l h p zero b = absurd (omega arith)
    more n l h p (suc j) b = simp length-append (omega (arith, p j (omega (arith, pow-suc 10 (suc j)))))
