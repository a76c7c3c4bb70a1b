-- Where a writer's answer is 0, its checks were passed and the bytes that it counts are the encoding; the check of a string that is not there.
use Prim.Native.Nat.{ℕ}
use mathlib.Core.Path.{◌≡◌, refl, sym, ap, ◌∙◌}
use mathlib.Core.Bool.{Bool, true, false, cond, not, ◌&&◌}
use native.Mathlib.Omega.{arith}
use mathlib.Core.List.{List, [], ◌∷◌, ◌++◌}
use borrow.Author.Tests.{ne_eqb}
use lib.Dec.{eqb}
use lib.ListN.{length, take, drop}
use lib.Seq.{take_at}
use Rattle.serial_rules.specs.Call.{has_return}
use Rattle.serial_rules.specs.Session.{has_zero}
use Rattle.fields.specs.Promise.{Written, number, count, WriterDone}

abbrev pub wrote : Written → List ℕ → List ℕ
wrote r left = take (count r) left

pub wrote_is : {n : ℕ} {encoding out left : List ℕ} {r : Written} → WriterDone n encoding out r left → number r ≡ 0 → wrote r left ≡ encoding
wrote_is {n = n} {encoding = e} {out = out} d h =
    let z : n ≡ 0 = sym d.answer ∙ h in
    let k = d.written ∙ ap (λ (m : ℕ). cond (eqb m 0) (length e) 0) z in
    let l = d.bytes ∙ ap (λ (m : ℕ). cond (eqb m 0) (e ++ drop (length e) out) out) z in
    rw (k, l) (take_at e (drop (length e) out) (length e) refl)

-- "Writer: 6, 9, 8": the answer 0 says that the first two did not come
pub checks : (long ok room : Bool) → ◌≡◌ {A = ℕ} (cond long 6 (cond (not ok) 9 (cond room 8 0))) 0 → (long ≡ false) × (ok ≡ true)
checks true ok room e = absurd (omega (arith, e))
checks false true room e = (refl, refl)
checks false false room e = absurd (omega (arith, e))

-- no string has no byte that ends one: no &0D, and in an error's text no &00
no_bytes : (ends : List ℕ → Bool) → ends [] ≡ false → (t : List ℕ) → eqb (length t) 0 ≡ (eqb (length t) 0 && not (ends t))
no_bytes ends e [] = rw e refl
no_bytes ends e (x ∷ t) = rw (ne_eqb (length (x ∷ t)) 0 (λ h. omega (arith, h))) refl

pub no_string : (t : List ℕ) → eqb (length t) 0 ≡ (eqb (length t) 0 && not (has_return t))
unfolding has_return
no_string = no_bytes has_return refl

pub no_text : (t : List ℕ) → eqb (length t) 0 ≡ (eqb (length t) 0 && not (has_zero t))
unfolding has_zero
no_text = no_bytes has_zero refl
