-- Laws of digits: each by the lowest digit, and the others as digits of the word one digit down.
use Prim.Native.Nat.{ℕ, zero, suc, ◌+◌, ◌-◌, ◌*◌, ◌/◌, ◌%◌, ◌^◌, ◌<◌, ◌≤◌}
use mathlib.Core.Path.{◌≡◌, refl, sym, ◌∙◌, ap}
use native.Mathlib.Omega.{arith}
use native.Mathlib.Nat.{div-one, mul_assoc, div-div-eq-div-mul, div-eq_of_lt, div-add-mod, mod-le}
use Rattle.word.specs.Word.{power, digit, Replaced, Slid}

pub power_some : (i : ℕ) → 0 < power i
unfolding power
power_some zero = omega arith
power_some (suc i) = let h = power_some i in omega arith

power_most : (m n : ℕ) → m ≤ n → power m ≤ power n
unfolding power
power_most zero n h = power_some n
power_most (suc m) zero h = absurd (omega arith)
power_most (suc m) (suc n) h = let q = power_most m n (omega arith) in omega arith

digit_zero : (w : ℕ) → digit w 0 ≡ w % 256
unfolding digit power
digit_zero w = rw (div-one w)

digit_suc : (w i : ℕ) → digit w (suc i) ≡ digit (w / 256) i
unfolding digit power
digit_suc w i = rw (div-div-eq-div-mul w 256 (power i))

-- a word of 64 bits has eight digits
pub digit_behind : (w i : ℕ) → w < 18446744073709551616 → 8 ≤ i → digit w i ≡ 0
unfolding digit power
digit_behind w i s h =
    let m : w < power i = let q = power_most 8 i h in omega arith in
    rw (div-eq_of_lt m)

pub shifted : (i : ℕ) → i < 8 → 1 * 2 ^ (8 * i) % 18446744073709551616 ≡ power i
unfolding power
shifted zero h = refl
shifted (suc zero) h = refl
shifted (suc (suc zero)) h = refl
shifted (suc (suc (suc zero))) h = refl
shifted (suc (suc (suc (suc zero)))) h = refl
shifted (suc (suc (suc (suc (suc zero))))) h = refl
shifted (suc (suc (suc (suc (suc (suc zero)))))) h = refl
shifted (suc (suc (suc (suc (suc (suc (suc zero))))))) h = refl
shifted (suc (suc (suc (suc (suc (suc (suc (suc i)))))))) h = absurd (omega arith)

-- what digit i + 1 weighs
weighed : (i d : ℕ) → power (suc i) * d ≡ 256 * (power i * d)
unfolding power
weighed i d = mul_assoc 256 (power i) d

-- v is w with digit i exchanged for b
Exchanged : ℕ → ℕ → ℕ → ℕ → Type 0
Exchanged w i b v = v + power i * digit w i ≡ w + power i * b

lowest : (w b v : ℕ) → Exchanged w 0 b v → v + w % 256 ≡ w + b
unfolding Exchanged power
lowest w b v e = let z = digit_zero w in omega arith

above : (w i b v : ℕ) → Exchanged w (suc i) b v → v + 256 * (power i * digit (w / 256) i) ≡ w + 256 * (power i * b)
unfolding Exchanged
above w i b v e = rw (← weighed i (digit (w / 256) i), ← weighed i b, ← digit_suc w i) e

exchanged_down : (w i b v : ℕ) → Exchanged w (suc i) b v → Exchanged (w / 256) i b (v / 256)
unfolding Exchanged
exchanged_down w i b v e = let l = above w i b v e in omega arith

exchanged_at : (i w b v : ℕ) → b < 256 → Exchanged w i b v → digit v i ≡ b
exchanged_at zero w b v h e = let f = lowest w b v e in rw (digit_zero v) (omega arith)
exchanged_at (suc i) w b v h e = digit_suc v i ∙ exchanged_at i (w / 256) b (v / 256) h (exchanged_down w i b v e)

exchanged_others : (i w b v : ℕ) → b < 256 → Exchanged w i b v → (j : ℕ) → (j ≡ i → ⊥) → digit v j ≡ digit w j
exchanged_others zero w b v h e zero n = absurd (n refl)
exchanged_others zero w b v h e (suc j) n =
    let f = lowest w b v e in
    let q : v / 256 ≡ w / 256 = omega arith in
    rw (digit_suc v j, digit_suc w j, q)
exchanged_others (suc i) w b v h e zero n =
    let l = above w i b v e in
    rw (digit_zero v, digit_zero w) (omega arith)
exchanged_others (suc i) w b v h e (suc j) n =
    rw (digit_suc v j, digit_suc w j) (exchanged_others i (w / 256) b (v / 256) h (exchanged_down w i b v e) j (λ q. n (ap suc q)))

exchanged_fits : (n i w b v : ℕ) → i < n → w < power n → b < 256 → Exchanged w i b v → v < power n
unfolding power
exchanged_fits zero i w b v m s h e = absurd (omega arith)
exchanged_fits (suc n) zero w b v m s h e = let f = lowest w b v e in omega arith
exchanged_fits (suc n) (suc i) w b v m s h e =
    let f = exchanged_fits n i (w / 256) b (v / 256) (omega arith) (omega arith) h (exchanged_down w i b v e) in
    omega arith

-- a digit weighs no more than its word
pub weight_most : (i w : ℕ) → power i * digit w i ≤ w
unfolding power
weight_most zero w = let z = digit_zero w in omega arith
weight_most (suc i) w = let h = weight_most i (w / 256) in rw (weighed i (digit w (suc i)), digit_suc w i) (omega arith)

-- nor than any word
weight_in : (n i b : ℕ) → i < n → b < 256 → power i * b < power n
unfolding power
weight_in zero i b m h = absurd (omega arith)
weight_in (suc n) zero b m h = let s = power_some n in omega arith
weight_in (suc n) (suc i) b m h = let q = weight_in n i b (omega arith) h in rw (mul_assoc 256 (power i) b) (omega arith)

pub weight_fits : (i b : ℕ) → i < 8 → b < 256 → power i * b < 18446744073709551616
unfolding power
weight_fits i b m h = weight_in 8 i b m h

-- what the digit weighs exchanged for what b weighs
module _ (w i b : ℕ) (h : b < 256) where
  exchange : ℕ
  exchange = w - power i * digit w i + power i * b

  exchanged : Exchanged w i b exchange
  unfolding Exchanged exchange
  exchanged = let m = weight_most i w in omega arith

  pub replaced : Replaced w i b (w - power i * digit w i + power i * b)
  unfolding exchange
  replaced = record { at = λ m. exchanged_at i w b exchange h exchanged; others = exchanged_others i w b exchange h exchanged }

  pub replaced_fits : i < 8 → w < 18446744073709551616 → w - power i * digit w i + power i * b < 18446744073709551616
  unfolding exchange power
  replaced_fits m s = exchanged_fits 8 i w b exchange m s h exchanged

-- the remainder by the weight of a digit, one digit down
rest_down : (x i : ℕ) → x % power (suc i) ≡ x % 256 + 256 * (x / 256 % power i)
unfolding power
rest_down x i =
    let p = power i in
    let a = div-add-mod x (256 * p) in
    let b = div-add-mod (x / 256) p in
    let c : x / 256 / p ≡ x / (256 * p) = div-div-eq-div-mul x 256 p in
    let d : 256 * p * (x / (256 * p)) ≡ 256 * (p * (x / (256 * p))) = mul_assoc 256 p (x / (256 * p)) in
    let e : p * (x / (256 * p)) + x / 256 % p ≡ x / 256 = rw c at b in
    omega arith

-- the digits of x below i, and of y from i on
mix : ℕ → ℕ → ℕ → ℕ
mix i x y = x % power i + (y - y % power i)

mix_none : (x y : ℕ) → mix 0 x y ≡ y
unfolding mix power
mix_none x y = omega arith

module _ (i x y : ℕ) where
  mix_low : mix (suc i) x y % 256 ≡ x % 256
  unfolding mix
  mix_low = let m = mod-le (y / 256) (power i) in rw (rest_down x i, rest_down y i) (omega arith)

  mix_down : mix (suc i) x y / 256 ≡ mix i (x / 256) (y / 256)
  unfolding mix
  mix_down = let m = mod-le (y / 256) (power i) in rw (rest_down x i, rest_down y i) (omega arith)

mix_below : (i x y j : ℕ) → j < i → digit (mix i x y) j ≡ digit x j
mix_below zero x y j h = absurd (omega arith)
mix_below (suc i) x y zero h = digit_zero (mix (suc i) x y) ∙ mix_low i x y ∙ sym (digit_zero x)
mix_below (suc i) x y (suc j) h =
    rw (digit_suc (mix (suc i) x y) j, mix_down i x y, digit_suc x j) (mix_below i (x / 256) (y / 256) j (omega arith))

mix_above : (i x y j : ℕ) → i ≤ j → digit (mix i x y) j ≡ digit y j
mix_above zero x y j h = rw (mix_none x y)
mix_above (suc i) x y zero h = absurd (omega arith)
mix_above (suc i) x y (suc j) h =
    rw (digit_suc (mix (suc i) x y) j, mix_down i x y, digit_suc y j) (mix_above i (x / 256) (y / 256) j (omega arith))

mix_in : (n i x y : ℕ) → i ≤ n → x < power n → y < power n → mix i x y < power n
unfolding power
mix_in n zero x y h a b = rw (mix_none x y) b
mix_in zero (suc i) x y h a b = absurd (omega arith)
mix_in (suc n) (suc i) x y h a b =
    let q = mix_in n i (x / 256) (y / 256) (omega arith) (omega arith) (omega arith) in
    let d = mix_down i x y in
    omega arith

-- the word one digit down below digit n, and the word itself from there on
module _ (w n : ℕ) where
  pub slid : Slid w n (w / 256 % power n + (w - w % power n))
  unfolding mix
  slid = record { moved = λ j h. mix_below n (w / 256) w j h ∙ sym (digit_suc w j); others = mix_above n (w / 256) w }

  pub slid_fits : n < 8 → w < 18446744073709551616 → w / 256 % power n + (w - w % power n) < 18446744073709551616
  unfolding mix power
  slid_fits h s = mix_in 8 n (w / 256) w (omega arith) (omega arith) s

  pub all_slid : 8 ≤ n → w < 18446744073709551616 → Slid w n (w / 256)
  all_slid h s =
      record {
        moved = λ j l. sym (digit_suc w j);
        others = λ j l. digit_behind (w / 256) j (omega arith) (omega arith) ∙ sym (digit_behind w j s (omega arith));
      }
