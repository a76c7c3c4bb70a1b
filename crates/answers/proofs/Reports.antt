-- Answers against the reports that they stand for.
use Prim.Native.Nat.{ℕ, zero, suc, ◌-◌, ◌≤◌, ◌<◌}
use mathlib.Core.Path.{◌≡◌, refl, sym, ap}
use mathlib.Core.Bool.{Bool, true, false, cond}
use mathlib.Core.List.{List, [], ◌∷◌}
use native.Mathlib.Omega.{arith}
use denote.Enum.Declared.{tag_of}
use lib.Dec.{eqb}
use lib.ListN.{length, take, drop}
use lib.Seq.{length-take-le}
use borrow.Author.Tests.{ne_eqb}
use Rattle.serial_rules.specs.Fields.{at}
use Rattle.serial_rules.specs.Link as rules
use Rattle.actions.specs.declared.Target.TheVariants.{Set, Execute, Load, Save}
use Rattle.answers.specs.declared.Answer.{Answer}
use Rattle.answers.specs.declared.Answer.TheVariants as variant
use Rattle.answers.specs.Reports.{report_of, answer_for, failure_for}
use Rattle.answers.specs.contracts.Answer as answers

-- an answer that is no refusal: `Refused` is the last of them
pub told : (a : Answer) → tag_of answers.the_type a < 11 → (n : ℕ) → a ≡ variant.Refused n → ⊥
told a h r e = omega (arith, ap (tag_of answers.the_type) e)

-- The lent bytes have as many as an answer says: then the answer is that of its report.
abbrev pub LentWhole : Answer → List ℕ → List ℕ → Type 0
LentWhole variant.More reply own = Unit
LentWhole (variant.Character b) reply own = Unit
LentWhole (variant.Reply n) reply own = n ≤ length reply
LentWhole (variant.EscapeState on) reply own = Unit
LentWhole (variant.Event y x a) reply own = Unit
LentWhole (variant.Address t b3 b2 b1 b0) reply own = Unit
LentWhole (variant.Block n) reply own = n ≤ length own
LentWhole (variant.Loaded b) reply own = Unit
LentWhole (variant.Ended save) reply own = Unit
LentWhole (variant.Error n k) reply own = k ≤ length (drop 1 own)
LentWhole variant.Restart reply own = Unit
LentWhole (variant.Refused n) reply own = Unit

pub answer_back : (a : Answer) (reply own : List ℕ) → LentWhole a reply own → a ≡ answer_for (report_of a reply own)
answer_back variant.More reply own h = refl
answer_back (variant.Character b) reply own h = refl
answer_back (variant.Reply n) reply own h = ap variant.Reply (sym (length-take-le n reply h))
answer_back (variant.EscapeState on) reply own h = refl
answer_back (variant.Event y x a) reply own h = refl
answer_back (variant.Address Set b3 b2 b1 b0) reply own h = refl
answer_back (variant.Address Execute b3 b2 b1 b0) reply own h = refl
answer_back (variant.Address Load b3 b2 b1 b0) reply own h = refl
answer_back (variant.Address Save b3 b2 b1 b0) reply own h = refl
answer_back (variant.Block n) reply own h = ap variant.Block (sym (length-take-le n own h))
answer_back (variant.Loaded b) reply own h = refl
answer_back (variant.Ended true) reply own h = refl
answer_back (variant.Ended false) reply own h = refl
answer_back (variant.Error n k) reply own h = ap (variant.Error n) (sym (length-take-le k (drop 1 own) h))
answer_back variant.Restart reply own h = refl
answer_back (variant.Refused n) reply own h = refl

-- an error or restart, by its number and the length of its text
pub failure_told : (n k : ℕ) → tag_of answers.the_type (failure_for n k) < 11
failure_told n k = go (eqb n 0) (eqb k 0)
  where
    go : (t s : Bool) → tag_of answers.the_type (cond t (cond s variant.Restart (variant.Error n k)) (variant.Error n k)) < 11
    go true true = omega arith
    go true false = omega arith
    go false s = omega arith

pub failure_sized : (reply own : List ℕ) (n k : ℕ) → k ≤ length (drop 1 own) → failure_for n k ≡ answer_for (report_of (failure_for n k) reply own)
failure_sized reply own n k h = answer_back (failure_for n k) reply own (go (eqb n 0) (eqb k 0))
  where
    go : (t s : Bool) → LentWhole (cond t (cond s variant.Restart (variant.Error n k)) (variant.Error n k)) reply own
    go true true = tt
    go true false = h
    go false s = h

failure_report : (reply : List ℕ) (n k : ℕ) (t : List ℕ) → k ≤ length t → report_of (failure_for n k) reply (n ∷ t) ≡ rules.failure n (take k t)
failure_report reply n zero t h = go (eqb n 0)
  where
    go : (s : Bool) → report_of (cond s variant.Restart (variant.Error n 0)) reply (n ∷ t) ≡ cond s rules.restart (rules.error n [])
    go true = refl
    go false = refl
failure_report reply n (suc k) [] h = absurd (omega arith)
failure_report reply n (suc k) (b ∷ t) h = rw (ne_eqb (suc k) 0 (λ e. omega arith)) (go (eqb n 0))
  where
    go : (s : Bool) → report_of (cond s (variant.Error n (suc k)) (variant.Error n (suc k))) reply (n ∷ b ∷ t) ≡ rules.error n (b ∷ take k t)
    go true = refl
    go false = refl

pub failure_of_lem : (reply own : List ℕ) (n : ℕ) → 1 ≤ n → n ≤ length own → report_of (failure_for (at own 0) (n - 1)) reply own ≡ rules.failure_of (take n own)
failure_of_lem reply [] n low high = absurd (omega arith)
failure_of_lem reply (x ∷ own) zero low high = absurd (omega arith)
failure_of_lem reply (x ∷ own) (suc n) low high = let e : suc n - 1 ≡ n = omega arith in rw e (failure_report reply x n own (omega arith))
