-- A data write not refused with 1 is taken exactly when there is room, and bit 6 of the status says so: the bits below it sum to 63 at most.
use mathlib.Core.Path.{◌≡◌, refl, ap}
use mathlib.Core.Bool.{Bool, true, false, cond}
use Prim.Native.Nat.{ℕ, ◌+◌, ◌-◌, ◌/◌, ◌%◌, ◌≤◌}
use native.Mathlib.Omega.{arith}
use lib.Dec.{eqb, leb}
use borrow.Author.Tests.{eq-eqb, eqb-true, leb-true, le-leb, ne_eqb}
use Rattle.chip_rules.specs.State.{Flags, State, R1, fed, toward, chan, held, Access, Channel, Outcome}
use Rattle.chip_rules.specs.Rules.{decode, exists, room, ready, weigh, flag_bits, low, status, status_of, bit, append, perform}
use Rattle.chip_rules.specs.History.{View, sound, broken, says, after}
use Rattle.chip_rules.specs.Bytes.{status_read, room_for, TakenWhenRoom}
use Rattle.chip_rules.proofs.Laws.{and_true_both, by_side, by_none}

weigh_most : (t : Bool) (w : ℕ) → weigh t w ≤ w
weigh_most true w = omega arith
weigh_most false w = omega arith

low_most : (f : Flags) (r : ℕ) → low f r ≤ 63
unfolding low
low_most f r = go (eqb r R1)
  where
    go : (t : Bool) → cond t (flag_bits f) 63 ≤ 63
    go true =
        omega (arith, weigh_most f.p 32, weigh_most f.v 16, weigh_most f.m 8, weigh_most f.j 4, weigh_most f.i 2, weigh_most f.q 1)
    go false = omega arith

bit_six : (t u : Bool) (n : ℕ) → n ≤ 63 → bit (weigh t 128 + weigh u 64 + n) 64 ≡ u
bit_six true true n h = eq-eqb ((192 + n) / 64 % 2) 1 (omega arith)
bit_six true false n h = ne_eqb ((128 + n) / 64 % 2) 1 (λ e. omega arith)
bit_six false true n h = eq-eqb ((64 + n) / 64 % 2) 1 (omega arith)
bit_six false false n h = ne_eqb ((0 + n) / 64 % 2) 1 (λ e. omega arith)

status_bit : (s : State) (side r : ℕ) → bit (status_of s side r) 64 ≡ room s.flags (fed side r) (held (chan s (fed side r)))
unfolding status
status_bit s side r =
    bit_six (ready s.flags side r (held (chan s (toward side r)))) (room s.flags (fed side r) (held (chan s (fed side r)))) (low s.flags r) (low_most s.flags r)

append_answer : (fits : ℕ → Bool) (b : ℕ) (l : Channel) → (append fits b l).reply.answer ≡ cond (fits (held l)) 0 2
unfolding append
append_answer fits b l = go (fits (held l)) refl
  where
    go : (t : Bool) → fits (held l) ≡ t → (append fits b l).reply.answer ≡ cond (fits (held l)) 0 2
    go true h = rw h
    go false h = rw h

module _ (s : State) (a : Access) (x : exists a ≡ true) (d : (decode a).is_data ≡ true) where
  answer_room : a.write ≡ true → (perform s a).reply.answer ≡ cond (room_for {K = State} (sound s) a) 0 2
  answer_room w = rw (by_side s a x, d, w) (append_answer (room s.flags (fed a.side (a.offset / 2))) a.byte _)

  status_room : bit (perform s (status_read a)).reply.byte 64 ≡ room_for {K = State} (sound s) a
  status_room =
      let e = and_true_both (leb a.side 1) (leb a.offset 7) x in
      let odd : a.offset % 2 ≡ 1 = eqb-true (a.offset % 2) 1 d in
      let near : a.offset ≤ 7 = leb-true a.offset 7 e.1 in
      let y : exists (status_read a) ≡ true = rw e.0 (le-leb (a.offset - 1) 7 (omega arith)) in
      let even : eqb ((a.offset - 1) % 2) 1 ≡ false = ne_eqb ((a.offset - 1) % 2) 1 (λ q. omega arith) in
      let same : (a.offset - 1) / 2 ≡ a.offset / 2 = omega arith in
      rw (by_side s (status_read a) y, even, same) (status_bit s a.side (a.offset / 2))

pub taken_when_room : {K : Type 0} (v : View K) (a : Access) → (decode a).is_data ≡ true → a.write ≡ true → ((says v a).answer ≡ 1 → ⊥) → TakenWhenRoom v a
taken_when_room (broken k) a d w n = absurd (n refl)
taken_when_room {K} (sound s) a d w n = go (exists a) refl
  where
    go : (t : Bool) → exists a ≡ t → TakenWhenRoom {K = K} (sound s) a
    go true x = record { answer = answer_room s a x d w; said = status_room s a x d }
    go false x = absurd (n (ap (λ (o : Outcome). o.reply.answer) (by_none s a x)))

-- The status read changes nothing, so what it says holds at the write that comes next.
pub status_read_leaves : {K : Type 0} (v : View K) (a : Access) → (decode a).is_data ≡ true → after v (status_read a) ≡ v
status_read_leaves (broken k) a d = refl
status_read_leaves (sound s) a d = ap sound (go (exists (status_read a)) refl)
  where
    even : eqb ((a.offset - 1) % 2) 1 ≡ false
    even = ne_eqb ((a.offset - 1) % 2) 1 (λ q. omega (arith, eqb-true (a.offset % 2) 1 d))

    go : (t : Bool) → exists (status_read a) ≡ t → (perform s (status_read a)).state ≡ s
    go true x = rw (by_side s (status_read a) x, even)
    go false x = rw (by_none s (status_read a) x)
