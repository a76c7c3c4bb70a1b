-- Parts of bytes: behind the first ones, and none.
use Prim.Native.Nat.{ℕ, ◌-◌, min}
use native.Mathlib.Omega.{arith}
use mathlib.Core.Path.{◌≡◌, refl, sym, ap, subst, ◌∙◌}
use mathlib.Core.Bool.{Bool, true, false}
use mathlib.Core.List.{List, []}
use lib.Dec.{ltb}
use lib.ListN.{length, take, drop, length-take, length-drop, drop_of_length-le}
use lib.Seq.{take_all}
use borrow.Author.Tests.{ltb-true, ltb-false}
use Rattle.serial_rules.specs.Places.{PartAt}
use Rattle.places.specs.declared.Part.{Part}
use Rattle.places.specs.Part.{none, PartDone}

-- what is behind the first k of the bytes, or behind all of them where they are fewer
same_behind : (s : List ℕ) (k start : ℕ) → start ≡ min k (length s) → drop start s ≡ drop k s
same_behind s k start e = go (ltb k (length s)) refl
  where
    go : (t : Bool) → ltb k (length s) ≡ t → drop start s ≡ drop k s
    go true h = let q : start ≡ k = omega (arith, ltb-true k (length s) h) in ap (λ (i : ℕ). drop i s) q
    go false h = drop_of_length-le s {i = start} (omega (arith, ltb-false k (length s) h)) ∙ sym (drop_of_length-le s {i = k} (ltb-false k (length s) h))

-- the first m of the bytes, or all where they are fewer
same_first : (l : List ℕ) (m n : ℕ) → n ≡ min m (length l) → take n l ≡ take m l
same_first l m n e = go (ltb m (length l)) refl
  where
    go : (t : Bool) → ltb m (length l) ≡ t → take n l ≡ take m l
    go true h = let q : n ≡ m = omega (arith, ltb-true m (length l) h) in ap (λ (i : ℕ). take i l) q
    go false h = take_all n l (omega (arith, ltb-false m (length l) h)) ∙ sym (take_all m l (ltb-false m (length l) h))

pub part_is : (s : List ℕ) (k m start n : ℕ) → start ≡ min k (length s) → n ≡ min m (length s - start) → PartAt s k (take m (drop k s)) start n
part_is s k m start n e f =
    let long = length-drop k s in
    record {
      start_is = e;
      length_is = omega (arith, long, length-take m (drop k s));
      bytes_are = ap (take n) (same_behind s k start e) ∙ same_first (drop k s) m n (omega (arith, long));
      inside = omega arith;
    }

-- no part, where nothing stands before it
pub part_none : (s : List ℕ) → PartDone s 0 [] none
part_none s = record { start_is = omega arith; length_is = refl; bytes_are = refl; inside = omega arith }

-- all the bytes behind the first k
pub whole_part : {s : List ℕ} {k : ℕ} {p : Part} → PartDone s k (take (length s) (drop k s)) p → PartDone s k (drop k s) p
whole_part {s} {k} {p} d = subst (λ (b : List ℕ). PartDone s k b p) (take_all (length s) (drop k s) (omega (arith, length-drop k s))) d

-- what the fields of a request and of a reply need
pub ruleset fields = (part_none, whole_part)
