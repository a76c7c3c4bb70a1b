-- Demand 2: over any history the bytes of a channel come out in the order in which they were taken, and none is lost but by a reset or clear.
-- Each step keeps the ledger in order: a byte taken goes to the end of what is held, a byte removed was its front.
use mathlib.Core.Path.{◌≡◌, refl, sym, ap, ◌∙◌}
use mathlib.Core.Bool.{Bool, true, false, cond, ◌&&◌}
use mathlib.Core.List.{List, [], ◌∷◌, ◌++◌, append_assoc, append-nil}
use Prim.Native.Nat.{ℕ, zero, suc, ◌/◌, ◌%◌, ◌<◌, ◌≤◌}
use native.Mathlib.Omega.{arith}
use lib.Dec.{eqb, leb}
use lib.ListN.{length, get_or, replicate, length-set}
use lib.Seq.{set-get_or}
use borrow.Author.Tests.{eqb-true, eqb-false, leb-true}
use Rattle.chip_rules.specs.State.{Channel, empty, held, State, host, R1, fed, toward, chan, put, Access, Reply}
use Rattle.chip_rules.specs.Rules.{Request, decode, exists, room, clears, emptied, control, fresh, take_oldest, append, step, perform}
use Rattle.chip_rules.specs.History.{View, sound, broken, Event, accessed, was_reset, says, after, cleared, run, replies}
use Rattle.chip_rules.specs.Bytes.{Ledger, opened, feeds, drains, is_clear, entry, ledger, holds, Eight, empties, InOrder, Since}
use Rattle.chip_rules.proofs.Laws.{and_true_both, request, by_none, by_side, chan_same, chan_other}

none_of : (n c : ℕ) → get_or (replicate n empty) c empty ≡ empty
none_of zero c = refl
none_of (suc n) zero = refl
none_of (suc n) (suc c) = none_of n c

pub emptied_holds : (c : ℕ) → get_or emptied c empty ≡ []
unfolding emptied
emptied_holds c = none_of 8 c

-- a byte more at the end of what is held, and one less at its front
taken_in_order : (start taken removed h : List ℕ) (b : ℕ) → start ++ taken ≡ removed ++ h → start ++ (taken ++ (b ∷ [])) ≡ removed ++ (h ++ (b ∷ []))
taken_in_order start taken removed h b o = sym (append_assoc start taken (b ∷ [])) ∙ ap (λ (l : List ℕ). l ++ (b ∷ [])) o ∙ append_assoc removed h (b ∷ [])

removed_in_order : (start taken removed h : List ℕ) (x : ℕ) → start ++ taken ≡ removed ++ (x ∷ h) → start ++ taken ≡ (removed ++ (x ∷ [])) ++ h
removed_in_order start taken removed h x o = o ∙ sym (append_assoc removed (x ∷ []) h)

module _ (s : State) (c : ℕ) (l : Ledger) (o : InOrder l (chan s c)) where
  -- what is put back as it was changes no channel
  same_put : (d : ℕ) → InOrder l (chan (put s d (chan s d)) c)
  same_put d = rw (set-get_or s.channels d empty) o

  other_put : (d : ℕ) (k : Channel) → eqb d c ≡ false → InOrder l (chan (put s d k) c)
  other_put d k e = rw (chan_other s d c k (eqb-false d c e)) o

  -- a status write: the clear opens the ledger anew with empty channels, any other leaves the channels
  status_written : (side r b : ℕ)
      → InOrder (entry c l side (request false true r b) (step s side (request false true r b)).reply) (chan (step s side (request false true r b)).state c)
  unfolding entry
  status_written side r b = go (eqb side host && eqb r R1) (clears b)
    where
      go : (t u : Bool) → InOrder (cond (t && u) (opened empty) l) (chan (cond t (record { channels = cond u emptied s.channels; flags = control b s.flags }) s) c)
      go true true = sym (emptied_holds c)
      go true false = o
      go false u = o

  module _ (eight : length s.channels ≡ 8) (side r b : ℕ) (some-side : side ≤ 1) (some-register : r < 4) where
    at_own : (d : ℕ) → eqb d c ≡ true → InOrder l (chan s d)
    at_own d q = rw (eqb-true d c q) o

    at_put : (d : ℕ) (k : Channel) → eqb d c ≡ true → d < 8 → chan (put s d k) c ≡ k
    at_put d k q h = rw (← eqb-true d c q) (chan_same s d k (omega arith))

    data_written : InOrder (entry c l side (request true true r b) (step s side (request true true r b)).reply) (chan (step s side (request true true r b)).state c)
    unfolding entry append
    data_written = go (room s.flags (fed side r) (held (chan s (fed side r)))) refl (eqb (fed side r) c) refl
      where
        go : (t : Bool) → room s.flags (fed side r) (held (chan s (fed side r))) ≡ t → (u : Bool) → eqb (fed side r) c ≡ u
            → InOrder (entry c l side (request true true r b) (step s side (request true true r b)).reply) (chan (step s side (request true true r b)).state c)
        go true p true q =
            let d = fed side r in
            rw (p, q, at_put d (chan s d ++ (b ∷ [])) q (omega arith)) (taken_in_order l.start l.taken l.removed (chan s d) b (at_own d q))
        go true p false q = rw (p, q) (other_put (fed side r) (chan s (fed side r) ++ (b ∷ [])) q)
        go false p u q = rw p (same_put (fed side r))

    data_read : InOrder (entry c l side (request true false r b) (step s side (request true false r b)).reply) (chan (step s side (request true false r b)).state c)
    unfolding entry take_oldest
    data_read = go (chan s (toward side r)) refl (eqb (toward side r) c) refl
      where
        go : (k : Channel) → chan s (toward side r) ≡ k → (u : Bool) → eqb (toward side r) c ≡ u
            → InOrder (entry c l side (request true false r b) (step s side (request true false r b)).reply) (chan (step s side (request true false r b)).state c)
        go [] p u q = rw p (rw p at (same_put (toward side r)))
        go (x ∷ k) p true q =
            let d = toward side r in
            rw (p, q, at_put d k q (omega arith)) (removed_in_order l.start l.taken l.removed k x (rw p at (at_own d q)))
        go (x ∷ k) p false q = rw (p, q) (other_put (toward side r) k q)

    step_in_order : (d w : Bool)
        → InOrder (entry c l side (request d w r b) (step s side (request d w r b)).reply) (chan (step s side (request d w r b)).state c)
    unfolding entry
    step_in_order false false = o
    step_in_order false true = status_written side r b
    step_in_order true false = data_read
    step_in_order true true = data_written

  access_in_order : length s.channels ≡ 8 → (a : Access)
      → InOrder (entry c l a.side (decode a) (perform s a).reply) (chan (perform s a).state c)
  unfolding entry
  access_in_order eight a = go (exists a) refl
    where
      go : (t : Bool) → exists a ≡ t → InOrder (entry c l a.side (decode a) (perform s a).reply) (chan (perform s a).state c)
      go true x =
          let e = and_true_both (leb a.side 1) (leb a.offset 7) x in
          let low = leb-true a.side 1 e.0 in
          let near = leb-true a.offset 7 e.1 in
          rw (by_side s a x) (step_in_order eight a.side (a.offset / 2) a.byte low (omega arith) (eqb (a.offset % 2) 1) a.write)
      go false x = rw (by_none s a x) o

-- every access leaves eight channels
step_eight : (s : State) (side : ℕ) (d w : Bool) (r b : ℕ) → length s.channels ≡ 8 → length (step s side (request d w r b)).state.channels ≡ 8
unfolding emptied
step_eight s side true true r b eight = length-set s.channels (fed side r) _ ∙ eight
step_eight s side true false r b eight = length-set s.channels (toward side r) _ ∙ eight
step_eight s side false false r b eight = eight
step_eight s side false true r b eight = go (eqb side host && eqb r R1) (clears b)
  where
    go : (t u : Bool) → length (cond t (record { channels = cond u emptied s.channels; flags = control b s.flags }) s).channels ≡ 8
    go true true = refl
    go true false = eight
    go false u = eight

perform_eight : (s : State) (a : Access) → length s.channels ≡ 8 → length (perform s a).state.channels ≡ 8
perform_eight s a eight = go (exists a) refl
  where
    go : (t : Bool) → exists a ≡ t → length (perform s a).state.channels ≡ 8
    go true x = rw (by_side s a x) (step_eight s a.side (eqb (a.offset % 2) 1) a.write (a.offset / 2) a.byte eight)
    go false x = rw (by_none s a x) eight

-- A reset leaves eight empty channels, also of a record that holds more than its places.
module _ {K : Type 0} (repaired : K → View K) (repaired_empty : (k : K) (c : ℕ) → holds (repaired k) c ≡ []) (repaired_eight : (k : K) → Eight (repaired k)) where
  after_eight : (v : View K) (a : Access) → Eight v → Eight (after v a)
  after_eight (sound s) a eight = perform_eight s a eight
  after_eight (broken k) a eight = eight

  cleared_eight : (v : View K) → Eight (cleared repaired v)
  unfolding fresh emptied
  cleared_eight (sound s) = refl
  cleared_eight (broken k) = repaired_eight k

  cleared_empty : (v : View K) (c : ℕ) → holds (cleared repaired v) c ≡ []
  unfolding fresh
  cleared_empty (sound s) c = emptied_holds c
  cleared_empty (broken k) c = repaired_empty k c

  entry_in_order : (v : View K) (c : ℕ) (l : Ledger) (a : Access) → Eight v → InOrder l (holds v c)
      → InOrder (entry c l a.side (decode a) (says v a)) (holds (after v a) c)
  unfolding entry
  entry_in_order (sound s) c l a eight o = access_in_order s c l o eight a
  entry_in_order (broken k) c l a eight o = o

  ledger_in_order : (v : View K) (c : ℕ) (l : Ledger) (es : List Event) → Eight v → InOrder l (holds v c)
      → InOrder (ledger c l es (replies repaired v es)) (holds (run repaired v es) c)
  ledger_in_order v c l [] eight o = o
  ledger_in_order v c l (was_reset ∷ es) eight o =
      ledger_in_order (cleared repaired v) c (opened empty) es (cleared_eight v) (sym (cleared_empty v c))
  ledger_in_order v c l (accessed a ∷ es) eight o =
      ledger_in_order (after v a) c (entry c l a.side (decode a) (says v a)) es (after_eight v a eight) (entry_in_order v c l a eight o)

  -- Held at the start, then taken, equal removed, then held.
  pub bytes_in_order : (v : View K) → Eight v → (es : List Event) (c : ℕ)
      → InOrder (ledger c (opened (holds v c)) es (replies repaired v es)) (holds (run repaired v es) c)
  bytes_in_order v eight es c = ledger_in_order v c (opened (holds v c)) es eight (append-nil (holds v c))

  -- From a reset or clear on nothing is held at the start.
  entry_from_none : (c : ℕ) (l : Ledger) (side : ℕ) (q : Request) (r : Reply) → l.start ≡ [] → (entry c l side q r).start ≡ []
  unfolding entry
  entry_from_none c l side q r e = go (eqb r.answer 0) (is_clear side q) (feeds side q c) (drains side q c)
    where
      go : (t u x y : Bool)
          → (cond t (cond u (opened empty) (cond x (record { start = l.start; taken = l.taken ++ (q.byte ∷ []); removed = l.removed })
          (cond y (record { start = l.start; taken = l.taken; removed = l.removed ++ (r.byte ∷ []) }) l))) l).start ≡ []
      go false u x y = e
      go true true x y = refl
      go true false true y = e
      go true false false true = e
      go true false false false = e

  ledger_from_none : (v : View K) (c : ℕ) (l : Ledger) (es : List Event) → l.start ≡ [] → (ledger c l es (replies repaired v es)).start ≡ []
  ledger_from_none v c l [] e = e
  ledger_from_none v c l (was_reset ∷ es) e = ledger_from_none (cleared repaired v) c (opened empty) es refl
  ledger_from_none v c l (accessed a ∷ es) e =
      ledger_from_none (after v a) c (entry c l a.side (decode a) (says v a)) es (entry_from_none c l a.side (decode a) (says v a) e)

  emptying : (v : View K) (c : ℕ) (l : Ledger) (e : Event) (es : List Event) → empties v e ≡ true → (ledger c l (e ∷ es) (replies repaired v (e ∷ es))).start ≡ []
  unfolding entry
  emptying v c l was_reset es h = ledger_from_none (cleared repaired v) c (opened empty) es refl
  emptying v c l (accessed a) es h =
      let b = and_true_both (eqb (says v a).answer 0) (is_clear a.side (decode a)) h in
      ledger_from_none (after v a) c (entry c l a.side (decode a) (says v a)) es (rw (b.0, b.1))

  since_start : (v : View K) (c : ℕ) (l : Ledger) (before : List Event) (e : Event) (es : List Event) → empties (run repaired v before) e ≡ true
      → (ledger c l (before ++ (e ∷ es)) (replies repaired v (before ++ (e ∷ es)))).start ≡ []
  since_start v c l [] e es h = emptying v c l e es h
  since_start v c l (was_reset ∷ before) e es h = since_start (cleared repaired v) c (opened empty) before e es h
  since_start v c l (accessed a ∷ before) e es h = since_start (after v a) c (entry c l a.side (decode a) (says v a)) before e es h

  pub since_emptied : (v : View K) → Eight v → (before : List Event) (e : Event) (es : List Event) (c : ℕ) → empties (run repaired v before) e ≡ true
      → Since (ledger c (opened (holds v c)) (before ++ (e ∷ es)) (replies repaired v (before ++ (e ∷ es)))) (holds (run repaired v (before ++ (e ∷ es))) c)
  since_emptied v eight before e es c h =
      let n = since_start v c (opened (holds v c)) before e es h in
      record { start = n; order = rw n at (bytes_in_order v eight (before ++ (e ∷ es)) c) }
