-- Demand 3 of the program: a chain of its own access and reset goes where the rules go, so the theorem on histories is one about it.
use mathlib.Core.Path.{◌≡◌, refl, ap, ap₂, ◌∙◌}
use mathlib.Core.List.{List, ◌∷◌, ◌++◌}
use Rattle.chip_rules.specs.State.{Access, Reply}
use Rattle.chip_rules.specs.History.{View, Event, says, after, cleared, run, replies, Swaps}
use Rattle.chip_rules.specs.Trace.{Trace, stop, access, reset, Alike}
use Rattle.chip_rules.proofs.History.{histories}

-- a chain after another
pub trace_append : {K : Type 0} {Access-promise : K → Access → Reply → K → Type 0} {Reset-promise : K → K → Type 0} {k j l : K}
    {es fs : List Event} {rs qs : List Reply} → Trace Access-promise Reset-promise k es rs j → Trace Access-promise Reset-promise j fs qs l
    → Trace Access-promise Reset-promise k (es ++ fs) (rs ++ qs) l
trace_append stop u = u
trace_append (access p t) u = access p (trace_append t u)
trace_append (reset p t) u = reset p (trace_append t u)

-- The last three: what the two promises say of the reply and of the view of the record.
module _ {K : Type 0} (Access-promise : K → Access → Reply → K → Type 0) (Reset-promise : K → K → Type 0)
    (repaired : K → View K) (view : K → View K)
    (replies-as-ruled : (k : K) (a : Access) (r : Reply) (j : K) → Access-promise k a r j → r ≡ says (view k) a)
    (leaves-as-ruled : (k : K) (a : Access) (r : Reply) (j : K) → Access-promise k a r j → view j ≡ after (view k) a)
    (resets-as-ruled : (k j : K) → Reset-promise k j → view j ≡ cleared repaired (view k)) where
  -- where a chain ends, and its replies
  pub ends_as_ruled : {k l : K} {es : List Event} {rs : List Reply} → Trace Access-promise Reset-promise k es rs l
      → view l ≡ run repaired (view k) es
  ends_as_ruled stop = refl
  ends_as_ruled (access {k = k} {j = j} {a = a} {r = r} {es = es} p t) =
      ends_as_ruled t ∙ ap (λ (v : View K). run repaired v es) (leaves-as-ruled k a r j p)
  ends_as_ruled (reset {k = k} {j = j} {es = es} p t) = ends_as_ruled t ∙ ap (λ (v : View K). run repaired v es) (resets-as-ruled k j p)

  pub said_as_ruled : {k l : K} {es : List Event} {rs : List Reply} → Trace Access-promise Reset-promise k es rs l
      → rs ≡ replies repaired (view k) es
  said_as_ruled stop = refl
  said_as_ruled (access {k = k} {j = j} {a = a} {r = r} {es = es} p t) =
      ap₂ (λ (x : Reply) (xs : List Reply). x ∷ xs) (replies-as-ruled k a r j p)
      (said_as_ruled t ∙ ap (λ (v : View K). replies repaired v es) (leaves-as-ruled k a r j p))
  said_as_ruled (reset {k = k} {j = j} {es = es} p t) = said_as_ruled t ∙ ap (λ (v : View K). replies repaired v es) (resets-as-ruled k j p)

  pub traces : {k l m : K} {es fs : List Event} {rs qs : List Reply} → Swaps repaired (view k) es fs
      → Trace Access-promise Reset-promise k es rs l → Trace Access-promise Reset-promise k fs qs m
      → Alike (view l) (view m) es fs rs qs
  traces w t u = rw (ends_as_ruled t, ends_as_ruled u, said_as_ruled t, said_as_ruled u) (histories repaired w)
