-- The bits of a number by their weights, and the weights summed.
use Prim.Native.Nat.div
use Prim.Native.Nat.{ℕ, ◌+◌, ◌*◌, ◌/◌, ◌%◌, ◌<◌, ◌≤◌}
use mathlib.Core.Path.{◌≡◌, refl}
use mathlib.Core.Bool.{Bool, true, false}
use lib.Dec.{eqb}
use native.Mathlib.Nat.{mul-add-div, div-eq_of_lt}
use native.Mathlib.Omega.{arith}
use borrow.Author.Tests.{eq-eqb, ne_eqb, eqb-true, eqb-false}
use Rattle.flags.specs.Flags.{flags_of, FlagsAfter}
use Rattle.chip_rules.specs.Rules.{bit, weigh, switched, control, flag_bits}

-- a bit as a number
digit : Bool → ℕ
digit t = weigh t 1

weight : (t : Bool) (w : ℕ) → weigh t w ≡ w * digit t
unfolding digit
weight true w = omega arith
weight false w = omega arith

few : (t : Bool) → digit t ≤ 1
unfolding digit
few true = omega arith
few false = omega arith

tested : (t : Bool) (x : ℕ) → x ≡ digit t → eqb x 1 ≡ t
unfolding digit
tested true x e = eq-eqb x 1 e
tested false x e = ne_eqb x 1 (λ q. omega arith)

-- the bit of weight w of a number: its digit there, and what lies above and below
digit_at : (w k r n : ℕ) (t : Bool) → r < w → n ≡ w * (2 * k + digit t) + r → bit n w ≡ t
digit_at w k r n t h e =
    let q : n / w ≡ 2 * k + digit t = rw (e, mul-add-div {m = w} (omega arith) (2 * k + digit t) r, div-eq_of_lt h) (omega arith) in
    tested t (n / w % 2) (let f = few t in rw q (omega arith))

-- bits 5 to 0 make the remainder by 64
remainder : (x w : ℕ) → weigh (eqb (x % 2) 1) w ≡ w * (x % 2)
remainder x w = go (eqb (x % 2) 1) refl
  where
    go : (t : Bool) → eqb (x % 2) 1 ≡ t → weigh t w ≡ w * (x % 2)
    go true e = rw (eqb-true (x % 2) 1 e) (omega arith)
    go false e = let z : x % 2 ≡ 0 = omega (arith, eqb-false (x % 2) 1 e) in rw z (omega arith)

summed : (a b c d e f p q r s t n : ℕ) → n ≡ 32 * a + p → p ≡ 16 * b + q → q ≡ 8 * c + r → r ≡ 4 * d + s → s ≡ 2 * e + t → t ≡ 1 * f
    → 32 * a + 16 * b + 8 * c + 4 * d + 2 * e + 1 * f ≡ n
summed a b c d e f p q r s t n h₁ h₂ h₃ h₄ h₅ h₆ = omega arith

pub low_six : (n : ℕ) → flag_bits (flags_of n) ≡ n % 64
low_six n =
    rw (remainder (n / 32) 32, remainder (n / 16) 16, remainder (n / 8) 8, remainder (n / 4) 4, remainder (n / 2) 2, remainder (n / 1) 1)
    (summed (n / 32 % 2) (n / 16 % 2) (n / 8 % 2) (n / 4 % 2) (n / 2 % 2) (n / 1 % 2) (n % 32) (n % 16) (n % 8) (n % 4) (n % 2) (n % 64)
    (omega arith) (omega arith) (omega arith) (omega arith) (omega arith) (omega arith))

-- six flags packed below what is left of the number
module _ (u : ℕ) (p v m j i q : Bool) where
  packed : ℕ
  packed = u * 64 + (weigh p 32 + weigh v 16 + weigh m 8 + weigh j 4 + weigh i 2 + weigh q 1)

  digits : packed ≡ 64 * u + 32 * digit p + 16 * digit v + 8 * digit m + 4 * digit j + 2 * digit i + digit q
  unfolding packed
  digits = rw (weight p 32, weight v 16, weight m 8, weight j 4, weight i 2, weight q 1) (omega arith)

  unpacked : flags_of packed ≡ record { p = p; v = v; m = m; j = j; i = i; q = q }
  unpacked =
      let n = packed in
      let e = digits in
      let v₁ = few v in
      let m₁ = few m in
      let j₁ = few j in
      let i₁ = few i in
      let q₁ = few q in
      rw (
        digit_at 32 u (16 * digit v + 8 * digit m + 4 * digit j + 2 * digit i + digit q) n p (omega arith) (omega arith),
        digit_at 16 (2 * u + digit p) (8 * digit m + 4 * digit j + 2 * digit i + digit q) n v (omega arith) (omega arith),
        digit_at 8 (4 * u + 2 * digit p + digit v) (4 * digit j + 2 * digit i + digit q) n m (omega arith) (omega arith),
        digit_at 4 (8 * u + 4 * digit p + 2 * digit v + digit m) (2 * digit i + digit q) n j (omega arith) (omega arith),
        digit_at 2 (16 * u + 8 * digit p + 4 * digit v + 2 * digit m + digit j) (digit q) n i (omega arith) (omega arith),
        digit_at 1 (32 * u + 16 * digit p + 8 * digit v + 4 * digit m + 2 * digit j + digit i) 0 n q (omega arith) (omega arith),
      )

  unpacked_rest : packed / 64 ≡ u
  unpacked_rest =
      let e = digits in
      let p₁ = few p in
      let v₁ = few v in
      let m₁ = few m in
      let j₁ = few j in
      let i₁ = few i in
      let q₁ = few q in
      omega arith

-- no bit has weight 0
pub no_weight : (x : ℕ) → bit x 0 ≡ false
no_weight x = rw (div.zero x)

pub flags_after : (x f : ℕ)
    → FlagsAfter x f (f / 64 * 64 + (weigh (switched x 32 (bit f 32)) 32 + weigh (switched x 16 (bit f 16)) 16 + weigh (switched x 8 (bit f 8)) 8
    + weigh (switched x 4 (bit f 4)) 4 + weigh (switched x 2 (bit f 2)) 2 + weigh (switched x 1 (bit f 1)) 1))
unfolding control packed
flags_after x f =
    record {
      flags = unpacked (f / 64) (switched x 32 (bit f 32)) (switched x 16 (bit f 16)) (switched x 8 (bit f 8)) (switched x 4 (bit f 4)) (switched x 2 (bit f 2)) (switched x 1 (bit f 1));
      bits = unpacked_rest (f / 64) (switched x 32 (bit f 32)) (switched x 16 (bit f 16)) (switched x 8 (bit f 8)) (switched x 4 (bit f 4)) (switched x 2 (bit f 2)) (switched x 1 (bit f 1));
    }
