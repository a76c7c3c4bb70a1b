-- Demands 2 and 3 of the program: the theorems of chip_rules on chains of steps each of which is, literally, what the contract of
-- `Chip::access` or `Chip::reset` promises.
use Prim.Native.Nat.{ℕ}
use mathlib.Core.Path.{◌≡◌, refl, sym, ap, ◌∙◌}
use mathlib.Core.Bool.{Bool, true, false, cond}
use mathlib.Core.List.{List, [], ◌∷◌, ◌++◌}
use Rattle.word.specs.Word.{power, digit}
use Rattle.chip.specs.declared.Chip.{Chip}
use Rattle.chip.specs.Record.{state_of, valid_of, view, blank, repaired}
use Rattle.chip.specs.Promise.{AccessDone, ResetDone, History}
use Rattle.chip_rules.specs.State.{Access, Reply}
use Rattle.chip_rules.specs.Rules.{decode, bit, capacity, fresh, emptied}
use Rattle.chip_rules.specs.History.{View, sound, broken, Event, says, cleared, run, replies, Swaps}
use Rattle.chip_rules.specs.Trace.{Alike}
use Rattle.chip_rules.specs.Bytes.{opened, ledger, holds, Eight, empties, InOrder, Since, status_read, room_for}
use Rattle.chip_rules.proofs.Trace.{traces, ends_as_ruled, said_as_ruled}
use Rattle.chip_rules.proofs.Taken.{taken_when_room, status_read_leaves}
use Rattle.chip_rules.proofs.Bytes.{bytes_in_order, since_emptied, emptied_holds}

blank_view : view blank ≡ sound fresh
unfolding valid_of capacity fresh emptied digit power
blank_view = refl

resets : (k j : Chip) → ResetDone k j → view j ≡ cleared repaired (view k)
resets k j e = ap view e ∙ blank_view ∙ sym (go (valid_of k))
  where
    go : (t : Bool) → cleared repaired (cond t (sound (state_of k)) (broken k)) ≡ sound fresh
    go true = refl
    go false = refl

-- Demand 3.
pub order_of_accesses : {k l m : Chip} {es fs : List Event} {rs qs : List Reply} → Swaps repaired (view k) es fs → History k es rs l → History k fs qs m
    → Alike (view l) (view m) es fs rs qs
order_of_accesses w t u =
    traces AccessDone ResetDone repaired view (λ k a r j d. d.reply) (λ k a r j d. d.left) resets w t u

-- Demand 2.
eight : (k : Chip) → Eight (view k)
eight k = go (valid_of k)
  where
    go : (t : Bool) → Eight (cond t (sound (state_of k)) (broken k))
    go true = refl
    go false = tt

repaired_empty : (k : Chip) (c : ℕ) → holds (repaired k) c ≡ []
unfolding fresh
repaired_empty k c = emptied_holds c

repaired_eight : (k : Chip) → Eight (repaired k)
unfolding fresh emptied
repaired_eight k = refl

module _ {k l : Chip} {es : List Event} {rs : List Reply} (t : History k es rs l) where
  pub end : view l ≡ run repaired (view k) es
  end = ends_as_ruled AccessDone ResetDone repaired view (λ k a r j d. d.reply) (λ k a r j d. d.left) resets t

  pub said : rs ≡ replies repaired (view k) es
  said = said_as_ruled AccessDone ResetDone repaired view (λ k a r j d. d.reply) (λ k a r j d. d.left) resets t

  -- held at the start, then taken, equal removed, then held
  pub order_of_bytes : (c : ℕ) → InOrder (ledger c (opened (holds (view k) c)) es rs) (holds (view l) c)
  order_of_bytes c = rw (end, said) (bytes_in_order repaired repaired_empty repaired_eight (view k) (eight k) es c)

-- since the last reset or clear, e, the bytes removed, then those held, are the bytes taken
pub order_since : {k l : Chip} {rs : List Reply} (before : List Event) (e : Event) (es : List Event) → History k (before ++ (e ∷ es)) rs l
    → empties (run repaired (view k) before) e ≡ true → (c : ℕ)
    → Since (ledger c (opened (holds (view k) c)) (before ++ (e ∷ es)) rs) (holds (view l) c)
order_since {k} before e es t h c =
    rw (end t, said t) (since_emptied repaired repaired_empty repaired_eight (view k) (eight k) before e es c h)

-- A data write not refused with 1 is taken exactly when bit 6 of the status, read just before, is set.
pub said_beforehand : {k l m : Chip} {a : Access} {q r : Reply} → (decode a).is_data ≡ true → a.write ≡ true
    → AccessDone k (status_read a) q l → AccessDone l a r m → (r.answer ≡ 1 → ⊥)
    → r.answer ≡ cond (bit q.byte 64) 0 2
said_beforehand {k} {l} {m} {a} {q} {r} d w f g n =
    let same : view l ≡ view k = f.left ∙ status_read_leaves (view k) a d in
    let answer : r.answer ≡ (says (view k) a).answer = ap (λ (x : Reply). x.answer) g.reply ∙ ap (λ (v : View Chip). (says v a).answer) same in
    let t = taken_when_room (view k) a d w (λ e. n (answer ∙ e)) in
    let b : bit q.byte 64 ≡ room_for (view k) a = ap (λ (x : Reply). bit x.byte 64) f.reply ∙ t.said in
    answer ∙ t.answer ∙ ap (λ (x : Bool). cond x 0 2) (sym b)
