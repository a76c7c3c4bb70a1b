-- Every access gets the answer that document 01 lists for it, and a refused one gives byte 0 and leaves everything as it was.
use Prim.Native.Nat.{ℕ, suc, ◌/◌, ◌%◌}
use mathlib.Core.Path.{◌≡◌, refl, ap}
use mathlib.Core.Bool.{Bool, true, false, cond, not, ◌&&◌}
use mathlib.Core.List.{[], ◌∷◌}
use native.Mathlib.Omega.{arith}
use lib.Dec.{eqb}
use lib.ListN.{length}
use lib.Seq.{set-get_or}
use borrow.Author.Tests.{ne_eqb}
use Rattle.chip_rules.specs.State.{Channel, empty, held, State, fed, toward, chan, put, Access, Outcome}
use Rattle.chip_rules.specs.Rules.{exists, room, take_oldest, append, on, step, perform}
use Rattle.chip_rules.specs.History.{View, sound, broken}
use Rattle.chip_rules.specs.Answers.{listed, Answered}
use Rattle.chip_rules.proofs.Laws.{request, by_side, by_none}

-- the same of an outcome at a state
record OutcomeAnswered (s : State) (o : Outcome) (n : ℕ) : Type 0 where
  number : o.reply.answer ≡ n
  byte : (o.reply.answer ≡ 0 → ⊥) → o.reply.byte ≡ 0
  left : (o.reply.answer ≡ 0 → ⊥) → o.state ≡ s

put_back : (s : State) (c : ℕ) → put s c (chan s c) ≡ s
put_back s c = rw (set-get_or s.channels c empty)

wrote : (s : State) (c b : ℕ) → OutcomeAnswered s (on s c (append (room s.flags c) b)) (cond (not (room s.flags c (held (chan s c)))) 2 0)
unfolding append
wrote s c b = go (room s.flags c (held (chan s c))) refl
  where
    go : (t : Bool) → room s.flags c (held (chan s c)) ≡ t → OutcomeAnswered s (on s c (append (room s.flags c) b)) (cond (not (room s.flags c (held (chan s c)))) 2 0)
    go true h = rw h (record { number = refl; byte = λ n. refl; left = λ n. absurd (n refl) })
    go false h = rw h (record { number = refl; byte = λ n. refl; left = λ n. put_back s c })

read : (s : State) (c : ℕ) → OutcomeAnswered s (on s c take_oldest) (cond (eqb (held (chan s c)) 0) 3 0)
unfolding take_oldest
read s c = go (chan s c) refl
  where
    go : (l : Channel) → chan s c ≡ l → OutcomeAnswered s (on s c take_oldest) (cond (eqb (held (chan s c)) 0) 3 0)
    go [] h = rw h (record { number = refl; byte = λ n. refl; left = λ n. rw h at (put_back s c) })
    go (x ∷ l) h = rw (h, ne_eqb (suc (length l)) 0 (λ e. omega arith)) (record { number = refl; byte = λ n. absurd (n refl); left = λ n. absurd (n refl) })

stepped : (s : State) (side r b : ℕ) (d w : Bool)
    → OutcomeAnswered s (step s side (request d w r b))
    (cond (d && (w && not (room s.flags (fed side r) (held (chan s (fed side r)))))) 2 (cond (d && (not w && eqb (held (chan s (toward side r))) 0)) 3 0))
stepped s side r b true true = wrote s (fed side r) b
stepped s side r b true false = read s (toward side r)
stepped s side r b false true = record { number = refl; byte = λ n. refl; left = λ n. absurd (n refl) }
stepped s side r b false false = record { number = refl; byte = λ n. absurd (n refl); left = λ n. absurd (n refl) }

performed : (s : State) (a : Access) → OutcomeAnswered s (perform s a) (listed {K = State} (sound s) a)
performed s a = go (exists a) refl
  where
    go : (t : Bool) → exists a ≡ t → OutcomeAnswered s (perform s a) (listed {K = State} (sound s) a)
    go true x = rw (by_side s a x, x) (stepped s a.side (a.offset / 2) a.byte (eqb (a.offset % 2) 1) a.write)
    go false x = rw (by_none s a x, x) (record { number = refl; byte = λ n. refl; left = λ n. refl })

pub answered_as_listed : {K : Type 0} (v : View K) (a : Access) → Answered v a
answered_as_listed (broken k) a = record { number = refl; byte = λ n. refl; left = λ n. refl }
answered_as_listed (sound s) a = let o = performed s a in record { number = o.number; byte = o.byte; left = λ n. ap sound (o.left n) }
