-- Demand 3 of the player: two calls from one record, with scripts that differ by swaps, give each side the same answers and bytes in
-- order, read off the result bytes, and equal ends. Line values of single records are not compared.
use Prim.Native.Nat.{ℕ}
use mathlib.Core.Path.{◌≡◌, refl, ap}
use mathlib.Core.List.{List, [], ◌∷◌, ◌++◌}
use Rattle.chip.specs.declared.Chip.{Chip}
use Rattle.chip.specs.Record.{view, repaired}
use Rattle.chip.proofs.Histories.{order_of_accesses}
use Rattle.chip_rules.specs.State.{Reply}
use Rattle.chip_rules.specs.History.{View, Event, accessed, was_reset, says, next, replies, Swaps}
use Rattle.chip_rules.specs.Trace.{Alike}
use Rattle.script.specs.declared.Played.{Played}
use Rattle.script.specs.Script.{played_of, results_of, replies_in, PlayDone}

-- the result bytes tell the replies
told : (v : View Chip) (es : List Event) (rest : List ℕ) → replies_in es (results_of v es ++ rest) ≡ replies repaired v es
unfolding results_of replies_in
told v [] rest = refl
told v (was_reset ∷ es) rest = told (next repaired v was_reset) es rest
told v (accessed a ∷ es) rest = ap (λ (rs : List Reply). says v a ∷ rs) (told (next repaired v (accessed a)) es rest)

pub order_of_scripts : (chip : Chip) (s t : List ℕ) (limit most : ℕ) (room space left kept : List ℕ) (r q : Played)
    → PlayDone chip s limit room r left → PlayDone chip t most space q kept
    → Swaps repaired (view chip) (played_of limit s room) (played_of most t space)
    → Alike (view r.chip) (view q.chip) (played_of limit s room) (played_of most t space)
    (replies_in (played_of limit s room) left) (replies_in (played_of most t space) kept)
order_of_scripts chip s t limit most room space left kept r q d f w =
    rw (d.results, f.results, told (view chip) (played_of limit s room) _, told (view chip) (played_of most t space) _)
    (order_of_accesses w d.steps f.steps)
