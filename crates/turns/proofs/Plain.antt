-- Runs of plain bytes: the run of what is left, step by step; and the bytes of a run are plain.
use Prim.Native.Nat.{ℕ, zero, suc, ◌+◌, ◌-◌, ◌≤◌, ◌<◌, min}
use native.Mathlib.Nat.{zero-add}
use native.Mathlib.Numerals.{add-one, unary_clauses}
use native.Mathlib.Omega.{arith}
use mathlib.Core.Path.{◌≡◌, refl, sym, ap, ◌∙◌}
use mathlib.Core.Bool.{Bool, true, false, cond, not}
use mathlib.Core.List.{List, [], ◌∷◌, ◌++◌, append_assoc}
use borrow.Author.Tests.{not-true, ltb-false, leb-true, leb-false}
use Rattle.std.specs.List.{prefix_len}
use Rattle.std.proofs.lemmas.List.{take_min}
use lib.Dec.{eqb, ltb, leb}
use lib.ListN.{length, take, drop, get_or, set, length-drop, drop_of_length-le, take-append-drop}
use lib.Seq.{length-take-le, drop-cons, drop-append-le, drop-drop, sets, sets-eq}
use Rattle.serial_rules.specs.Escape.{escape, escapes}
use Rattle.serial_rules.specs.Call.{return}
use Rattle.serial_rules.proofs.Trip.{and_both}
use Rattle.escape.specs.Put.{Put}
use Rattle.escape.proofs.Laws.{put_none, put_next}
use Rattle.turns.specs.Plain.{plain, is_data, All, none, one, Plains, run_of, PlainDone}

-- a plain byte is neither
module _ (b : ℕ) (h : plain b ≡ true) where
  pub no_escape : eqb b escape ≡ false
  no_escape = not-true (eqb b escape) (and_both (not (eqb b escape)) (not (eqb b return)) h).0

  pub no_return : eqb b return ≡ false
  no_return = not-true (eqb b return) (and_both (not (eqb b escape)) (not (eqb b return)) h).1

-- The run of a kind of bytes.
module _ (p : ℕ → Bool) where
  -- no room, no byte left, a byte that is not of the kind, and one that is
  none_left : (n : ℕ) → run_of p n [] ≡ 0
  unfolding run_of
  none_left zero = refl
  none_left (suc n) = refl

  stops_at : (n b : ℕ) (l : List ℕ) → p b ≡ false → run_of p n (b ∷ l) ≡ 0
  unfolding run_of
  stops_at zero b l h = refl
  stops_at (suc n) b l h = rw h

  goes_on : (n b : ℕ) (l : List ℕ) → p b ≡ true → run_of p (suc n) (b ∷ l) ≡ suc (run_of p n l)
  unfolding run_of
  goes_on n b l h = rw h

  no_room : (l : List ℕ) → run_of p 0 l ≡ 0
  unfolding run_of
  no_room l = refl

  pub run_all : (n : ℕ) (l : List ℕ) → All p (take (run_of p n l) l)
  unfolding run_of
  run_all zero l = none
  run_all (suc n) [] = none
  run_all (suc n) (b ∷ l) = go (p b) refl (run_all n l)
    where
      go : (t : Bool) → p b ≡ t → All p (take (run_of p n l) l) → All p (take (cond t (suc (run_of p n l)) 0) (b ∷ l))
      go true e w = one e w
      go false e w = none

  pub run_most : (n : ℕ) (l : List ℕ) → (run_of p n l ≤ n) × (run_of p n l ≤ length l)
  unfolding run_of
  run_most zero l = (omega arith, omega arith)
  run_most (suc n) [] = (omega arith, omega arith)
  run_most (suc n) (b ∷ l) = go (p b) (run_most n l)
    where
      go : (t : Bool) → (run_of p n l ≤ n) × (run_of p n l ≤ length l) → (cond t (suc (run_of p n l)) 0 ≤ suc n) × (cond t (suc (run_of p n l)) 0 ≤ length (b ∷ l))
      go true h = (omega arith, omega arith)
      go false h = (omega arith, omega arith)

-- The first i bytes are of the run, and it is those and the run of what is left.
pub record Running (p : ℕ → Bool) (raw : List ℕ) (most i : ℕ) : Type 0 where
  pub within : i ≤ length raw
  pub below : i ≤ most
  pub run : run_of p most raw ≡ i + run_of p (most - i) (drop i raw)

pub runs_none : {p : ℕ → Bool} {raw : List ℕ} {most : ℕ} → Running p raw most 0
runs_none = record { within = omega arith; below = omega arith; run = simp (zero-add, unary_clauses) }

module _ {p : ℕ → Bool} {raw : List ℕ} {most i : ℕ} (s : Running p raw most i) where
  -- what is left of the run
  left_run : {r : ℕ} → run_of p (most - i) (drop i raw) ≡ r → run_of p most raw ≡ i + r
  left_run e = s.run ∙ ap (λ (m : ℕ). i + m) e

  whole : run_of p (most - i) (drop i raw) ≡ 0 → i ≡ run_of p most raw
  whole e = omega (arith, left_run e)

  pub run_full : most ≤ i → i ≡ run_of p most raw
  run_full h = let z : most - i ≡ 0 = omega arith in whole (rw z (no_room p (drop i raw)))

  pub run_ended : length raw ≤ i → i ≡ run_of p most raw
  run_ended h = whole (rw (drop_of_length-le raw h) (none_left p (most - i)))

  pub run_stopped : i < length raw → p (get_or raw i 0) ≡ false → i ≡ run_of p most raw
  run_stopped h e = whole (rw (drop-cons raw i 0 h) (stops_at p (most - i) (get_or raw i 0) (drop (suc i) raw) e))

  pub run_more : i < length raw → i < most → p (get_or raw i 0) ≡ true → Running p raw most (i + 1)
  run_more h k e =
      let n : most - i ≡ suc (most - (i + 1)) = omega arith in
      let rest : run_of p (most - i) (drop i raw) ≡ suc (run_of p (most - (i + 1)) (drop (i + 1) raw)) =
      rw (drop-cons raw i 0 h, n, add-one i) (goes_on p (most - suc i) (get_or raw i 0) (drop (suc i) raw) e) in
      record { within = omega arith; below = omega arith; run = omega (arith, left_run rest) }

-- The first i bytes of a plain run were copied.
pub record Copying (raw out now : List ℕ) (i : ℕ) : Type 0 where
  pub running : Running plain raw (length out) i
  pub put : Put (take i raw) out now i

pub copies_none : {raw out : List ℕ} → Copying raw out out 0
copies_none = record { running = runs_none; put = put_none }

module _ {raw out now : List ℕ} {i : ℕ} (s : Copying raw out now i) where
  pub full : length out ≤ i → PlainDone raw out i now
  full h = record { count = run_full s.running h; bytes = s.put.bytes }

  pub ended : length raw ≤ i → PlainDone raw out i now
  ended h = record { count = run_ended s.running h; bytes = s.put.bytes }

  pub stopped : i < length raw → plain (get_or raw i 0) ≡ false → PlainDone raw out i now
  stopped h e = record { count = run_stopped s.running h e; bytes = s.put.bytes }

  -- the loop came to the end of the shorter of the two
  pub over_most : {n : ℕ} → n ≡ min (length raw) (length out) → n ≡ i → PlainDone raw out n now
  over_most {n} m e = rw e (go (leb (length raw) i) refl)
    where
      go : (t : Bool) → leb (length raw) i ≡ t → PlainDone raw out i now
      go true h = ended (leb-true (length raw) i h)
      go false h = let l : i < length raw = leb-false (length raw) i h in full (omega arith)

  pub one_more : i < length raw → i < length out → plain (get_or raw i 0) ≡ true → Copying raw out (set now i (get_or raw i 0)) (i + 1)
  one_more h k e = record { running = run_more s.running h k e; put = put_next raw h k s.put }

-- what a caller has of it
module _ {raw out left : List ℕ} {r : ℕ} (d : PlainDone raw out r left) where
  pub done_plains : Plains (take r raw)
  done_plains = rw d.count (run_all plain (length out) raw)

  pub done_most : (r ≤ length out) × (r ≤ length raw)
  done_most = rw d.count (run_most plain (length out) raw)

-- what a part of other lent bytes, lent in turn, leaves of them
pub part_sets : {raw left : List ℕ} {r : ℕ} (l : List ℕ) (at size : ℕ) → at + size ≤ length l → PlainDone raw (take size (drop at l)) r left
    → take at l ++ (left ++ drop size (drop at l)) ≡ sets l at (take r raw)
part_sets {raw} {left} {r} l at size h d =
    let part : length (take size (drop at l)) ≡ size = length-take-le size (drop at l) (simp length-drop (omega arith)) in
    let most = done_most d in
    let n : length (take r raw) ≡ r = length-take-le r raw most.1 in
    let fits : r ≤ size = omega arith in
    let behind : drop r (take size (drop at l)) ++ drop size (drop at l) ≡ drop (at + r) l =
    rw (← drop-append-le r (take size (drop at l)) (drop size (drop at l)) (omega arith), take-append-drop, drop-drop) in
    rw (d.bytes, n, append_assoc, behind, sets-eq (take r raw) l at (omega arith), n, append_assoc)

-- a count moved by a run, which stays within m bytes where it moves, fits below w as it did before
pub sum_fits : (w m count n : ℕ) → m < w → count < w → (0 < n → count + n ≤ m) → count + n < w
sum_fits w m count zero big h k = omega arith
sum_fits w m count (suc n) big h k = omega (arith, k (omega arith))

-- A run is the longest part at the start whose bytes are all of the kind.
pub run_is : (p : ℕ → Bool) (n : ℕ) (l : List ℕ) → run_of p n l ≡ prefix_len p (take n l)
unfolding run_of
run_is p zero l = refl
run_is p (suc n) [] = refl
run_is p (suc n) (b ∷ l) =
    let more : suc (run_of p n l) ≡ 1 + prefix_len p (take n l) = omega (arith, run_is p n l) in
    ap (λ (m : ℕ). cond (p b) m 0) more

-- Without an escape byte among them, all are of the run.
clear : (n : ℕ) (l : List ℕ) → n ≤ length l → escapes (take n l) ≡ 0 → run_of is_data n l ≡ n
unfolding run_of escapes
clear zero l h e = refl
clear (suc n) [] h e = absurd (omega arith)
clear (suc n) (b ∷ l) h e = go (eqb b escape) refl (λ k. clear n l (omega arith) k)
  where
    go : (t : Bool) → eqb b escape ≡ t → (escapes (take n l) ≡ 0 → run_of is_data n l ≡ n) → cond (not (eqb b escape)) (suc (run_of is_data n l)) 0 ≡ suc n
    go true f rest = absurd (omega (arith, rw f at e))
    go false f rest = rw f (ap suc (rest (omega (arith, rw f at e))))

pub run_clear : (n : ℕ) (l : List ℕ) {found : Bool} → n ≤ length l → found ≡ ltb 0 (escapes (take n l)) → found ≡ false → n ≡ run_of is_data n l
run_clear n l h e is = sym (clear n l h (omega (arith, ltb-false 0 (escapes (take n l)) (sym e ∙ is))))

-- a run goes no further than there are bytes
pub run_within : (p : ℕ → Bool) (n : ℕ) (l : List ℕ) → run_of p (min n (length l)) l ≡ run_of p n l
run_within p n l = run_is p (min n (length l)) l ∙ ap (prefix_len p) (take_min n l) ∙ sym (run_is p n l)
