-- Feeding a slice: a chain of steps grows by one at its end; what `feed` promises on an answer and where the slice ends.
use Prim.Native.Nat.{ℕ, ◌+◌, ◌-◌, ◌≤◌, ◌<◌}
use mathlib.Core.Path.{◌≡◌, refl, sym, ap, ◌∙◌}
use mathlib.Core.List.{List, [], ◌∷◌, ◌++◌, append-nil}
use native.Mathlib.Numerals.{add-one}
use native.Mathlib.Omega.{arith}
use lib.ListN.{length, take, drop, replicate, get_or, length-take, length-drop, length-append, length-replicate, replicate-append-replicate}
use lib.Seq.{take-suc, take-add}
use Rattle.serial_rules.specs.Reader as rules
use Rattle.serial_rules.proofs.Lent.{take_behind}
use Rattle.request_reader.specs.declared.Reader.{Reader}
use Rattle.request_reader.specs.declared.Answer.{Answer}
use Rattle.request_reader.specs.declared.Answer.TheVariants.{More, Character, Request, Refused}
use Rattle.request_reader.specs.declared.Stepped.{Stepped}
use Rattle.request_reader.specs.View.{answer_of, answer_for, StepDone}
use Rattle.request_reader.specs.Read.{Read, stop, took}
use Rattle.request_loop.specs.Feed.{last_of, FeedDone}
use Rattle.request_loop.specs.Pass.{passed_from, PassDone}

-- one step at the end of a chain
one_more : {r q : Reader} {lent xs left end : List ℕ} {gave : List rules.Answer} {x : ℕ} {o : Stepped} → Read r lent xs gave q left → StepDone q left x o end
    → Read r lent (xs ++ x ∷ []) (gave ++ answer_of o.answer end ∷ []) o.reader end
one_more stop d = took d stop
one_more (took e t) d = took e (one_more t d)

-- an answer other than need-more is the last
other_last : (a : Answer) (left : List ℕ) → (a ≡ More → ⊥) → last_of a left ≡ answer_of a left ∷ []
other_last More left h = absurd (h refl)
other_last (Character b) left h = refl
other_last (Request style code n) left h = refl
other_last (Refused n) left h = refl

-- a chain behind a chain, over the bytes behind the first j
read_join : {r q p : Reader} {lent left end xs ys : List ℕ} {gave more : List rules.Answer} → Read r lent xs gave q left → Read q left ys more p end
    → Read r lent (xs ++ ys) (gave ++ more) p end
read_join stop t = t
read_join (took e s) t = took e (read_join s t)

pub passes : {r q at : Reader} {lent left end : List ℕ} {n : ℕ} (raw : List ℕ) (j : ℕ) → Read r lent (take j raw) (replicate j rules.need_more) q left
    → PassDone q left (take (length raw - j) (drop j raw)) n end → at ≡ passed_from q n → Read r lent (take (j + n) raw) (replicate (j + n) rules.need_more) at end
passes {n = n} raw j s d e =
    rw (e, take-add j n raw, ← take_behind j raw, ← replicate-append-replicate j n rules.need_more) (read_join s d.steps)

pub pass_within : {q : Reader} {left end : List ℕ} {n : ℕ} (raw : List ℕ) (j : ℕ) → j ≤ length raw → PassDone q left (take (length raw - j) (drop j raw)) n end → j + n ≤ length raw
pass_within raw j h d = let w = simp (length-take, length-drop) at d.within in omega arith

-- after `i` bytes that needed more
module _ {r q : Reader} {lent left : List ℕ} (raw : List ℕ) (i : ℕ) (so_far : Read r lent (take i raw) (replicate i rules.need_more) q left) where
  stepped : {o : Stepped} {end : List ℕ} → i < length raw → StepDone q left (get_or raw i 0) o end
      → Read r lent (take (i + 1) raw) (replicate i rules.need_more ++ answer_of o.answer end ∷ []) o.reader end
  stepped h d = rw (add-one, take-suc raw i 0 h) (one_more so_far d)

  pub again : {o : Stepped} {end : List ℕ} → i < length raw → StepDone q left (get_or raw i 0) o end → o.answer ≡ More
      → Read r lent (take (i + 1) raw) (replicate (i + 1) rules.need_more) o.reader end
  again h d e = rw (← replicate-append-replicate i 1 rules.need_more) (rw e at (stepped h d))

  pub answered : {o : Stepped} {end : List ℕ} → i < length raw → StepDone q left (get_or raw i 0) o end → (o.answer ≡ More → ⊥)
      → FeedDone r lent raw (record { answer = o.answer; used = i + 1; reader = o.reader }) end
  answered {o} {end} h d other =
      record {
        waits = i;
        used = simp (other_last o.answer end other, length-append, length-replicate);
        sized = d.answer_is ∙ ap answer_for (sym d.answer);
        within = omega arith;
        steps = rw (other_last o.answer end other) (stepped h d);
        ended = λ e. absurd (other e);
      }

  pub needs_more : length raw ≤ i → i ≤ length raw → FeedDone r lent raw (record { answer = More; used = i; reader = q }) left
  needs_more h k =
      record {
        waits = i;
        used = simp (append-nil, length-replicate);
        sized = refl;
        within = k;
        steps = rw append-nil so_far;
        ended = λ e. omega arith;
      }
