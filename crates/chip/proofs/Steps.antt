-- What the parts of an access do is the rules' outcome, and through the view the rules' access.
use Prim.Native.Nat.{ℕ, ◌/◌, ◌%◌, ◌<◌, ◌≤◌}
use mathlib.Core.Path.{◌≡◌, refl, sym, ◌∙◌, ap}
use mathlib.Core.Bool.{Bool, true, false, cond, not, ◌&&◌}
use mathlib.Core.List.{[], ◌∷◌}
use lib.Seq.{set-get_or}
use lib.Dec.{leb, eqb}
use native.Mathlib.Omega.{arith}
use borrow.Author.Tests.{ltb-true, leb-true}
use Rattle.chip.specs.declared.Chip.{Chip}
use Rattle.chip.specs.declared.Refusal.{Refusal}
use Rattle.chip.specs.declared.Refusal.TheVariants.{NoRoom, Empty}
use Rattle.flags.specs.Flags.{flags_of, FlagsAfter}
use Rattle.word.specs.Word.{power, digit}
use Rattle.chip.specs.Record.{byte_of, count_of, state_of, valid_of}
use Rattle.chip.specs.Promise.{number, UnusedKept, AccessDone}
use Rattle.chip.specs.Steps.{StepDone, PutDone, ControlDone}
use Rattle.chip_rules.specs.State.{Channel, State, Outcome, R3, held, chan, put, Access, done, refused}
use Rattle.chip_rules.specs.Rules.{bit, capacity, room, limit, exists, clears, emptied, take_oldest, append, on, step, perform}
use Rattle.chip_rules.specs.History.{View, sound}
use Rattle.chip_rules.proofs.Laws.{by_side, by_none, request}
use Rattle.chip.specs.Each.{each}
use Rattle.chip.proofs.Each.{every_at}
use Rattle.chip.proofs.Parts.{Left, chan_at}

-- what is put back as it was changes nothing
put_same : (s : State) (c : ℕ) → s ≡ put s c (chan s c)
put_same s c = rw (set-get_or s.channels c [])

unused_same : (chip : Chip) → UnusedKept chip chip
unused_same chip = record { bytes = λ c i h l m. refl; bits = refl }

-- a channel with room has a place left: no limit is above the capacity
one_place : (k : ℕ) → k < 8 → 1 ≤ capacity k
unfolding capacity
one_place k h = leb-true 1 (capacity k) (every_at (λ j. leb 1 (capacity j)) 8 k refl h)

limit_most : (t : Bool) (k : ℕ) → k < 8 → cond t 1 (capacity k) ≤ capacity k
limit_most true k h = one_place k h
limit_most false k h = omega arith

module _ (chip : Chip) (k : ℕ) where
  pub has_place : k < 8 → room (flags_of chip.flags) k (held (chan (state_of chip) k)) ≡ true → held (chan (state_of chip) k) < capacity k
  unfolding room
  has_place small has =
      omega (
        arith,
        ltb-true (held (chan (state_of chip) k)) (limit (flags_of chip.flags) k) has,
        limit_most (eqb (k / 2) R3 && not (bit chip.flags 16)) k small,
      )

  -- a data write, with room and without
  pub wrote : (b : ℕ) (next : Chip) → room (flags_of chip.flags) k (held (chan (state_of chip) k)) ≡ true → PutDone chip k b next
      → StepDone chip (on (state_of chip) k (append (room (flags_of chip.flags) k) b)) 0 next
  unfolding append
  wrote b next has p = rw has (record { outcome = ap (done 0) (sym p.state); free = p.free })

  pub full : (b : ℕ) → room (flags_of chip.flags) k (held (chan (state_of chip) k)) ≡ false
      → on (state_of chip) k (append (room (flags_of chip.flags) k) b) ≡ refused (number NoRoom) (state_of chip)
  unfolding append
  full b has = rw has (ap (refused 2) (sym (put_same (state_of chip) k)))

  -- a data read, of a byte and of none
  pub took : (b : ℕ) (l : Channel) (next : Chip) → chan (state_of chip) k ≡ b ∷ l → Left chip next k l → StepDone chip (on (state_of chip) k take_oldest) b next
  unfolding take_oldest
  took b l next e t = rw e (record { outcome = ap (done b) (sym t.state); free = t.free })

  pub none : k < 8 → count_of chip k ≡ 0 → on (state_of chip) k take_oldest ≡ refused (number Empty) (state_of chip)
  unfolding take_oldest
  none small h =
      let e : chan (state_of chip) k ≡ [] = chan_at chip k small ∙ ap (each (byte_of chip k)) h in
      rw e (ap (refused 3) (rw e at (sym (put_same (state_of chip) k))))

-- a status write that changes nothing, and a status read
pub unchanged : (chip : Chip) (b : ℕ) → StepDone chip (done b (state_of chip)) b chip
unchanged chip b = record { outcome = refl; free = unused_same chip }

module _ (chip : Chip) (x f : ℕ) (d : FlagsAfter x chip.flags f) where
  pub clear_done : clears x ≡ true
      → ControlDone chip x (record { oldest = chip.oldest; next = chip.next; later = chip.later; held = 0; flags = f })
  unfolding emptied valid_of capacity digit power
  clear_done e = record { state = rw (e, ← d.flags); free = record { bytes = λ c i h l m. refl; bits = d.bits } }

  pub control_done : clears x ≡ false
      → ControlDone chip x (record { oldest = chip.oldest; next = chip.next; later = chip.later; held = chip.held; flags = f })
  control_done e = record { state = rw (e, ← d.flags); free = record { bytes = λ c i h l m. refl; bits = d.bits } }

-- an access to a side and an offset that exist, of a valid record
module _ (chip v : Chip) (a : Access) (s r : ℕ) (same : v ≡ chip) (ok : valid_of v ≡ true) (e : s ≡ a.side) (f : r ≡ a.offset / 2) (x : exists a ≡ true) where
  ruled : (o : Outcome) → step (state_of v) s (request (eqb (a.offset % 2) 1) a.write r a.byte) ≡ o → perform (state_of chip) a ≡ o
  ruled o h = by_side (state_of chip) a x ∙ (rw (same, e, f) at h)

  pub done_as_ruled : (b : ℕ) (next : Chip) → valid_of next ≡ true
      → StepDone v (step (state_of v) s (request (eqb (a.offset % 2) 1) a.write r a.byte)) b next → AccessDone chip a (record { answer = 0; byte = b }) next
  done_as_ruled b next ok' d =
      let p = ruled (done b (state_of next)) d.outcome in
      let k : valid_of chip ≡ true = rw same at ok in
      record {
        reply = rw k (ap (λ (o : Outcome). o.reply) (sym p));
        left = rw (k, ok') (ap {B = View Chip} (λ (o : Outcome). sound o.state) (sym p));
        kept = λ n. absurd (n refl);
        free = rw same at d.free;
      }

  pub refused_as_ruled : (n : Refusal) → step (state_of v) s (request (eqb (a.offset % 2) 1) a.write r a.byte) ≡ refused (number n) (state_of v) → AccessDone chip a (record { answer = number n; byte = 0 }) chip
  refused_as_ruled n d =
      let p = ruled (refused (number n) (state_of chip)) (d ∙ ap (λ (k : Chip). refused (number n) (state_of k)) same) in
      let k : valid_of chip ≡ true = rw same at ok in
      record {
        reply = rw k (ap (λ (o : Outcome). o.reply) (sym p));
        left = rw k (ap {B = View Chip} (λ (o : Outcome). sound o.state) (sym p));
        kept = λ n. refl;
        free = unused_same chip;
      }

-- any other
pub missing_as_ruled : (chip : Chip) (a : Access) → exists a ≡ false → AccessDone chip a (record { answer = 1; byte = 0 }) chip
missing_as_ruled chip a h = go (valid_of chip) refl
  where
    go : (t : Bool) → valid_of chip ≡ t → AccessDone chip a (record { answer = 1; byte = 0 }) chip
    go true p =
        let n = by_none (state_of chip) a h in
        record {
          reply = rw p (ap (λ (o : Outcome). o.reply) (sym n));
          left = rw p (ap {B = View Chip} (λ (o : Outcome). sound o.state) (sym n));
          kept = λ n. refl;
          free = unused_same chip;
        }
    go false p = record { reply = rw p; left = rw p; kept = λ n. refl; free = unused_same chip }
