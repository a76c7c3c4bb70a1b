-- Demand 3 of the rules: swaps of neighbours that do not conflict change no reply of either side, and not the end.
-- One pair is `exchanged`; what comes after the pair starts from an equal view, and what came before is the same.
use mathlib.Core.Path.{◌≡◌, refl, sym, ap, ◌∙◌}
use mathlib.Core.Bool.{Bool, true, false, cond}
use mathlib.Core.List.{List, [], ◌∷◌, ◌++◌}
use Prim.Native.Nat.{ℕ}
use native.Mathlib.Omega.{arith}
use lib.Dec.{eqb}
use borrow.Author.Tests.{eqb-true}
use Rattle.chip_rules.specs.State.{host, parasite, Access, Reply}
use Rattle.chip_rules.specs.History.{View, sound, broken, Event, accessed, was_reset, says, after, line_value, conflict_at, of_side, next, run, replies, Swap, host_first, parasite_first, later, Swaps, none, more}
use Rattle.chip_rules.specs.Trace.{Alike}
use Rattle.chip_rules.proofs.Pair.{exchanged}

module _ {K : Type 0} (repaired : K → View K) where
  -- the pair done in either order, from any view
  record Either (v : View K) (h p : Access) : Type 0 where
    host_reply : says v h ≡ says (after v p) h
    parasite_reply : says (after v h) p ≡ says v p
    left : after (after v h) p ≡ after (after v p) h

  either : (v : View K) (h p : Access) → h.side ≡ host → p.side ≡ parasite → conflict_at v h p ≡ false → Either v h p
  either (sound s) h p eh ep m =
      let d = exchanged s h p eh ep m in
      record { host_reply = d.host_reply; parasite_reply = d.parasite_reply; left = ap sound d.state }
  either (broken k) h p eh ep m = record { host_reply = refl; parasite_reply = refl; left = refl }

  -- two histories from v end alike, and each side sees the same replies
  record Equal (v : View K) (es fs : List Event) : Type 0 where
    end : run repaired v es ≡ run repaired v fs
    side : (k : ℕ) → of_side k es (replies repaired v es) ≡ of_side k fs (replies repaired v fs)

  -- a side takes part in one access of the pair at most, and that one's reply is the same
  pair_side : (k : ℕ) (v : View K) (h p : Access) (xs : List Reply) → h.side ≡ host → p.side ≡ parasite → Either v h p
      → cond (eqb h.side k) (says v h ∷ cond (eqb p.side k) (says (after v h) p ∷ xs) xs) (cond (eqb p.side k) (says (after v h) p ∷ xs) xs)
      ≡ cond (eqb p.side k) (says v p ∷ cond (eqb h.side k) (says (after v p) h ∷ xs) xs) (cond (eqb h.side k) (says (after v p) h ∷ xs) xs)
  pair_side k v h p xs eh ep d = go (eqb h.side k) refl (eqb p.side k) refl
    where
      go : (t : Bool) → eqb h.side k ≡ t → (u : Bool) → eqb p.side k ≡ u
          → cond t (says v h ∷ cond u (says (after v h) p ∷ xs) xs) (cond u (says (after v h) p ∷ xs) xs)
          ≡ cond u (says v p ∷ cond t (says (after v p) h ∷ xs) xs) (cond t (says (after v p) h ∷ xs) xs)
      go true x true y = let i = eqb-true h.side k x in let j = eqb-true p.side k y in absurd (omega arith)
      go true x false y = ap (λ (z : Reply). z ∷ xs) d.host_reply
      go false x true y = ap (λ (z : Reply). z ∷ xs) d.parasite_reply
      go false x false y = refl

  pair_first : (v : View K) (h p : Access) (es : List Event) → h.side ≡ host → p.side ≡ parasite → conflict_at v h p ≡ false
      → Equal v (accessed h ∷ accessed p ∷ es) (accessed p ∷ accessed h ∷ es)
  pair_first v h p es eh ep m =
      let d = either v h p eh ep m in
      record {
        end = ap (λ (w : View K). run repaired w es) d.left;
        side = λ k.
            pair_side k v h p (of_side k es (replies repaired (after (after v h) p) es)) eh ep d
            ∙ ap (λ (w : View K). of_side k (accessed p ∷ accessed h ∷ es) (says v p ∷ says (after v p) h ∷ replies repaired w es)) d.left;
      }

  flip : (v : View K) (es fs : List Event) → Equal v es fs → Equal v fs es
  flip v es fs q = record { end = sym q.end; side = λ k. sym (q.side k) }

  swapped : {v : View K} {es fs : List Event} → Swap repaired v es fs → Equal v es fs
  swapped {v} (host_first {h = h} {p = p} {es = es} eh ep m) = pair_first v h p es eh ep m
  swapped {v} (parasite_first {h = h} {p = p} {es = es} eh ep m) =
      flip v (accessed h ∷ accessed p ∷ es) (accessed p ∷ accessed h ∷ es) (pair_first v h p es eh ep m)
  swapped {v} (later {e = accessed a} r) =
      let q = swapped r in
      record { end = q.end; side = λ k. ap (λ (xs : List Reply). cond (eqb a.side k) (says v a ∷ xs) xs) (q.side k) }
  swapped {v} (later {e = was_reset} r) = let q = swapped r in record { end = q.end; side = q.side }

  all_swapped : {v : View K} {es fs : List Event} → Swaps repaired v es fs → Equal v es fs
  all_swapped none = record { end = refl; side = λ k. refl }
  all_swapped (more s r) =
      let a = swapped s in
      let b = all_swapped r in
      record { end = a.end ∙ b.end; side = λ k. a.side k ∙ b.side k }

  pub histories : {v : View K} {es fs : List Event} → Swaps repaired v es fs
      → Alike (run repaired v es) (run repaired v fs) es fs (replies repaired v es) (replies repaired v fs)
  histories w =
      let q = all_swapped w in
      record { end = q.end; lines = ap line_value q.end; host = q.side host; parasite = q.side parasite }

  -- A swap at any place of a list: the pair is judged at the view that the part before it leaves.
  pub swap_at : (v : View K) (before : List Event) (h p : Access) (es : List Event) → h.side ≡ host → p.side ≡ parasite
      → conflict_at (run repaired v before) h p ≡ false
      → Swap repaired v (before ++ (accessed h ∷ accessed p ∷ es)) (before ++ (accessed p ∷ accessed h ∷ es))
  swap_at v [] h p es eh ep m = host_first eh ep m
  swap_at v (e ∷ before) h p es eh ep m = later (swap_at (next repaired v e) before h p es eh ep m)

  -- A history after another.
  pub run_append : (v : View K) (es fs : List Event) → run repaired v (es ++ fs) ≡ run repaired (run repaired v es) fs
  run_append v [] fs = refl
  run_append v (e ∷ es) fs = run_append (next repaired v e) es fs

  pub replies_append : (v : View K) (es fs : List Event) → replies repaired v (es ++ fs) ≡ replies repaired v es ++ replies repaired (run repaired v es) fs
  replies_append v [] fs = refl
  replies_append v (was_reset ∷ es) fs = replies_append (next repaired v was_reset) es fs
  replies_append v (accessed a ∷ es) fs = ap (λ (rs : List Reply). says v a ∷ rs) (replies_append (after v a) es fs)
