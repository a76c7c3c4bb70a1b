-- The turn of a byte of a reply is that of the reply's shape, as long as there are bytes to come.
use Rattle.std.specs.Prelude.{Result, Ok, Err}
use Rattle.refusal.specs.declared.Refusal.{Refusal}
use Rattle.refusal.specs.declared.Refusal.TheVariants.{Stopped}
use Prim.Native.Nat.{ℕ, ◌+◌, ◌≤◌, ◌<◌}
use native.Mathlib.Omega.{arith}
use mathlib.Core.Path.{◌≡◌, refl, sym, ap, subst}
use mathlib.Core.Bool.{Bool, true, false, cond}
use mathlib.Core.List.{List}
use lib.Dec.{ltb}
use lib.ListN.{length, take, set, length-take}
use borrow.Author.Tests.{lt-ltb, le-ltb, ltb-true, ltb-false}
use Rattle.serial_rules.specs.Body as body
use Rattle.serial_rules.specs.Reply.{Shape, shape_of, shape_turn, longest, reply_turn}
use Rattle.turns.specs.Turns.{turn_of}
use Rattle.turns.specs.declared.Turn.{Turn}
use Rattle.turns.specs.declared.Turn.TheVariants.{More, Done}
use Rattle.kind.specs.Kinds.{kind_for, reply_lent}
use Rattle.kind.specs.declared.CallKind.{CallKind}
use Rattle.reply_reader.specs.declared.Taken.{Taken}
use Rattle.reply_reader.specs.Promise.{TurnDone, TakeDone, shape_reply, ShapeDone}

-- a shape with its bytes so far, or with all of them
over_short : (sh : Shape) (n m b : ℕ) → (n < longest sh → m ≡ n) → (longest sh ≤ n → longest sh ≤ m)
    → cond (ltb m (longest sh)) (shape_turn sh m b) (body.refused 7) ≡ shape_reply sh n b
over_short sh n m b h k = go (ltb n (longest sh)) refl
  where
    go : (t : Bool) → ltb n (longest sh) ≡ t → cond (ltb m (longest sh)) (shape_turn sh m b) (body.refused 7) ≡ shape_reply sh n b
    go true e = ap (λ (i : ℕ). cond (ltb i (longest sh)) (shape_turn sh i b) (body.refused 7)) (h (ltb-true n (longest sh) e))
    go false e = rw (e, le-ltb m (longest sh) (k (ltb-false n (longest sh) e)))

pub byte_taken : {n b : ℕ} {lent left : List ℕ} {r : Taken} (k : CallKind) {sh : Shape} → sh ≡ shape_of (kind_for k) → longest sh ≤ reply_lent → length lent ≡ reply_lent
    → ShapeDone sh n b lent r left → TakeDone k n b lent r left
unfolding reply_turn
byte_taken {n} {b} {lent} {left} {r} k {sh} e most whole d =
    let m = length-take n lent in
    subst (λ (s : Shape). TurnDone (cond (ltb (length (take n lent)) (longest s)) (shape_turn s (length (take n lent)) b) (body.refused 7)) n b lent r left) e
    (subst (λ (t : body.Turn). TurnDone t n b lent r left) (sym (over_short sh n (length (take n lent)) b (λ h. omega arith) (λ h. omega arith))) d)

-- a byte behind the last, one that the shape refuses, and one that it takes
module _ (sh : Shape) (n b : ℕ) (lent : List ℕ) where
  pub over : longest sh ≤ n → ShapeDone sh n b lent (record { turn = Err Stopped; count = n }) lent
  over h = rw (le-ltb n (longest sh) h) (record { turn_is = refl; count_is = refl; bytes = refl })

  module _ {t : Result Turn Refusal} (h : n < longest sh) (q : turn_of t ≡ shape_turn sh n b) where
    pub refuses : {r : Refusal} → t ≡ Err r → ShapeDone sh n b lent (record { turn = t; count = n }) lent
    refuses e = rw (lt-ltb n (longest sh) h, ← q, e) (record { turn_is = refl; count_is = refl; bytes = refl })

    pub takes : (d : Turn) → t ≡ Ok d → ShapeDone sh n b lent (record { turn = t; count = n + 1 }) (set lent n b)
    takes More e = rw (lt-ltb n (longest sh) h, ← q, e) (record { turn_is = refl; count_is = refl; bytes = refl })
    takes Done e = rw (lt-ltb n (longest sh) h, ← q, e) (record { turn_is = refl; count_is = refl; bytes = refl })
