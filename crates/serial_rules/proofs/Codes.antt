-- A number that is none of the twelve codes is no code.
use Prim.Native.Nat.{ℕ, ◌+◌, ◌*◌, ◌/◌, ◌%◌, ◌≤◌}
use native.Mathlib.Omega.{arith}
use native.Mathlib.Nat.{div-one}
use mathlib.Core.Path.{◌≡◌, refl}
use mathlib.Core.Bool.{Bool, true, false, not}
use lib.Dec.{leb}
use borrow.Author.Tests.{leb-true, eqb-false, not-true}
use Rattle.serial_rules.specs.Marks.{bit, is_code}
use Rattle.serial_rules.proofs.Trip.{and_both}

pub record Unlisted (code : ℕ) : Type 0 where
  pub not_00 : code ≡ 0x00 → ⊥
  pub not_02 : code ≡ 0x02 → ⊥
  pub not_04 : code ≡ 0x04 → ⊥
  pub not_06 : code ≡ 0x06 → ⊥
  pub not_08 : code ≡ 0x08 → ⊥
  pub not_0A : code ≡ 0x0A → ⊥
  pub not_0C : code ≡ 0x0C → ⊥
  pub not_0E : code ≡ 0x0E → ⊥
  pub not_10 : code ≡ 0x10 → ⊥
  pub not_12 : code ≡ 0x12 → ⊥
  pub not_14 : code ≡ 0x14 → ⊥
  pub not_16 : code ≡ 0x16 → ⊥

-- an even number from 2 j on that is not 2 j
past : (code j : ℕ) → (code % 2 ≡ 1 → ⊥) → (code ≡ 2 * j → ⊥) → 2 * j ≤ code → 2 * (j + 1) ≤ code
past code j even other low = omega arith

pub unlisted_code : (code : ℕ) → Unlisted code → is_code code ≡ false
unlisted_code code u = go (is_code code) refl
  where
    go : (t : Bool) → is_code code ≡ t → is_code code ≡ false
    go false e = e
    go true e =
        let both = and_both (not (bit code 1)) (leb code 0x16) e in
        let top = leb-true code 0x16 both.1 in
        let even : code % 2 ≡ 1 → ⊥ = rw (div-one code) at (eqb-false (code / 1 % 2) 1 (not-true (bit code 1) both.0)) in
        let p = past code 0 even u.not_00 (omega arith) in
        let p = past code 1 even u.not_02 p in
        let p = past code 2 even u.not_04 p in
        let p = past code 3 even u.not_06 p in
        let p = past code 4 even u.not_08 p in
        let p = past code 5 even u.not_0A p in
        let p = past code 6 even u.not_0C p in
        let p = past code 7 even u.not_0E p in
        let p = past code 8 even u.not_10 p in
        let p = past code 9 even u.not_12 p in
        let p = past code 10 even u.not_14 p in
        let p = past code 11 even u.not_16 p in
        absurd (omega (arith, top, p))
