-- The rule of a row at every entry, by one computed test of the whole row.
use Prim.Native.Nat.{ℕ, zero, suc, ◌+◌, ◌<◌}
use native.Mathlib.Nat.{add-zero, zero-add, add-suc, suc-add, le_of_suc-le-suc, not-suc-le-zero}
use mathlib.Core.Path.{◌≡◌, refl, sym, ap, ◌∙◌}
use mathlib.Core.List.{List, [], ◌∷◌}
use lib.ListN.{get_or}
use Rattle.serial_rules.specs.Marks.{Way, class_of}
use Rattle.marks.specs.declared.Class.{Class}
use Rattle.marks.specs.Classes.{class_as}

-- the values of f at i, suc i, .., n of them
abbrev pub values : {A : Type 0} → (ℕ → A) → ℕ → ℕ → List A
values f i zero = []
values f i (suc n) = f i ∷ values f (suc i) n

value_from_lem : {A : Type 0} (f : ℕ → A) (d : A) (n i k : ℕ) → k < n → get_or (values f i n) k d ≡ f (i + k)
value_from_lem f d zero i k h = absurd (not-suc-le-zero h)
value_from_lem f d (suc n) i zero h = ap f (sym (add-zero i))
value_from_lem f d (suc n) i (suc k) h = value_from_lem f d n (suc i) k (le_of_suc-le-suc h) ∙ ap f (suc-add i k ∙ sym (add-suc i k))

-- the values of g after f are those of f, each by g
value_by : {A B : Type 0} (g : A → B) (f : ℕ → A) (d : B) (e : A) (n i k : ℕ) → k < n → get_or (values (λ (m : ℕ). g (f m)) i n) k d ≡ g (get_or (values f i n) k e)
value_by g f d e zero i k h = absurd (not-suc-le-zero h)
value_by g f d e (suc n) i zero h = refl
value_by g f d e (suc n) i (suc k) h = value_by g f d e n (suc i) k (le_of_suc-le-suc h)

-- The one test, over the way: of a row in the place of `values (class_of w) 0 256`, that it computes to the rule's values.
pub row_at : (w : Way) (k : ℕ) → k < 256 → get_or (values (class_of w) 0 256) k 0 ≡ class_of w k
row_at w k h = value_from_lem (class_of w) 0 256 0 k h ∙ ap (class_of w) (zero-add k)

-- The same of the program's classes: cited of a row of the code.
pub class_row_at : (w : Way) (d : Class) (k : ℕ) → k < 256 → get_or (values (λ (m : ℕ). class_as w (class_of w m)) 0 256) k d ≡ class_as w (class_of w k)
class_row_at w d k h = value_by (class_as w) (class_of w) d 0 256 0 k h ∙ ap (class_as w) (row_at w k h)
