-- What the two scans of a string meet at their next byte, and that the name is found.
use Prim.Native.Nat.{ℕ, suc, ◌+◌, ◌≤◌, ◌<◌}
use native.Mathlib.Numerals.{add-one}
use native.Mathlib.Nat.{add-zero, zero-add}
use native.Mathlib.Omega.{arith}
use mathlib.Core.Path.{◌≡◌, refl, sym, ap, subst, ◌∙◌}
use mathlib.Core.Bool.{Bool, true, false, not, ◌||◌, or_assoc, or-false}
use Rattle.std.specs.Prelude.{Ok, Err}
use mathlib.Core.List.{List, [], ◌∷◌, ◌++◌}
use borrow.Author.Tests.{eqb-true, eq-eqb, ne_eqb, le-leb, lt-leb, not-true}
use lib.Dec.{eqb}
use lib.ListN.{length, drop, get_or, drop_of_length-le}
use lib.Seq.{drop-cons, drop_at}
use Rattle.serial_rules.specs.Call.{osfile, return, string_limit, body_of, block_ok, has_return, call_ok}
use Rattle.serial_rules.specs.Session.{has_zero}
use Rattle.serial_rules.specs.Fields.{fields_of, last}
use Rattle.serial_rules.proofs.Finished.{RequestRewritten}
use Rattle.serial_rules.proofs.Trip.{and_both, or_false as both_false}
use Rattle.refusal.specs.declared.Refusal.TheVariants.{TooLong, BadField}
use Rattle.strings.specs.Text.{string_from, name_of, has_byte}

module _ (t : List ℕ) (i : ℕ) where
  pub ends_here : i < length t → get_or t i 0 ≡ return → string_from i (drop i t) ≡ Ok i
  unfolding string_from
  ends_here h e = rw (drop-cons t i 0 h, eq-eqb _ _ e)

  pub too_long : i < length t → (get_or t i 0 ≡ return → ⊥) → string_limit ≤ i → string_from i (drop i t) ≡ Err TooLong
  unfolding string_from
  too_long h n l = rw (drop-cons t i 0 h, ne_eqb _ _ n, le-leb _ _ l)

  pub goes_on : i < length t → (get_or t i 0 ≡ return → ⊥) → i < string_limit → string_from i (drop i t) ≡ string_from (i + 1) (drop (i + 1) t)
  unfolding string_from
  goes_on h n l = rw (drop-cons t i 0 h, ne_eqb _ _ n, lt-leb _ _ l, add-one)

  pub not_ended : length t ≤ i → string_from i (drop i t) ≡ Err BadField
  unfolding string_from
  not_ended h = rw (drop_of_length-le t h)

-- Whether a byte stands in a string: among its first i bytes, which is found, or from i on.
module _ (k : ℕ) (t : List ℕ) (i : ℕ) (found : Bool) where
  pub byte_more : {more : Bool} → i < length t → more ≡ (found || eqb (get_or t i 0) k) → (found || has_byte k (drop i t)) ≡ has_byte k t
      → (more || has_byte k (drop (i + 1) t)) ≡ has_byte k t
  unfolding has_byte
  byte_more h e inv = rw (e, add-one) (or_assoc found (eqb (get_or t i 0) k) (has_byte k (drop (suc i) t)) ∙ (rw (drop-cons t i 0 h) at inv))

  pub byte_all : length t ≤ i → (found || has_byte k (drop i t)) ≡ has_byte k t → found ≡ has_byte k t
  unfolding has_byte
  byte_all h inv = sym (or-false found) ∙ (rw (drop_of_length-le t h) at inv)

pub has_return_is : (t : List ℕ) → has_byte return t ≡ has_return t
unfolding has_byte has_return
has_return_is [] = refl
has_return_is (x ∷ t) = ap (λ (h : Bool). eqb x return || h) (has_return_is t)

pub has_zero_is : (t : List ℕ) → has_byte 0 t ≡ has_zero t
unfolding has_byte has_zero
has_zero_is [] = refl
has_zero_is (x ∷ t) = ap (λ (h : Bool). eqb x 0 || h) (has_zero_is t)

-- a body that ends inside the block
pub no_name : (body : List ℕ) → length body < 16 → name_of body ≡ Err BadField
unfolding string_from
no_name body h =
    let short : length body ≤ 16 = omega (arith, h) in
    rw (drop_of_length-le body short)

-- In a whole body of OSFILE the scan finds the name: after a string without &0D and of at most 255 bytes, its &0D.
string_found : (n : ℕ) (t rest : List ℕ) → n + length t ≤ string_limit → has_return t ≡ false → string_from n (t ++ (return ∷ rest)) ≡ Ok (n + length t)
unfolding string_from has_return
string_found n [] rest h clean = rw add-zero
string_found n (x ∷ t) rest h clean =
    let c = both_false (eqb x return) (has_return t) clean in
    let less : n < string_limit = omega (arith, h) in
    let next : (n + 1) + length t ≤ string_limit = omega (arith, h) in
    let sum : (n + 1) + length t ≡ n + length (x ∷ t) = omega arith in
    rw (c.0, lt-leb _ _ less, ← sum) (string_found (n + 1) t rest next c.1)

pub name_found : (a : ℕ) (b t : List ℕ) → call_ok (osfile a) b t ≡ true → length t ≤ string_limit → name_of (body_of (osfile a) b t) ≡ Ok (length t)
unfolding body_of call_ok
name_found a b t ok h =
    let p = and_both (block_ok (osfile a) (length b)) (not (has_return t)) ok in
    rw (drop_at b (t ++ (return ∷ a ∷ [])) 16 (eqb-true _ _ p.0), ← zero-add (length t)) (string_found 0 t (a ∷ []) (omega (arith, h)) (not-true (has_return t) p.1))

-- and so in every OSFILE that a reader finishes: the name found is the string of its fields
pub finished_name : (body : List ℕ) → RequestRewritten 0x14 body → name_of body ≡ Ok (length (fields_of 0x14 body).text)
unfolding fields_of
finished_name body w =
    let f = fields_of 0x14 body in
    subst (λ (s : List ℕ). name_of s ≡ Ok (length f.text)) w.body_is (name_found (last body) f.block f.text w.ok w.short)
