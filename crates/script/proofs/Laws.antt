-- Laws of the records of a script and of their results: one record more at the end, and what the limit allows.
use Prim.Native.Nat.{ℕ, zero, suc, ◌+◌, ◌*◌, ◌/◌, ◌-◌, ◌≤◌, ◌<◌, min}
use mathlib.Core.Path.{◌≡◌, refl, sym, ap, ◌∙◌, subst}
use mathlib.Core.Bool.{true, false}
use mathlib.Core.List.{List, [], ◌∷◌, ◌++◌}
use native.Mathlib.Omega.{arith}
use native.Mathlib.Numerals.{add-one}
use borrow.Author.Tests.{ne_eqb, le-leb, lt-leb}
use lib.Dec.{leb}
use lib.ListN.{length, drop, get_or, set, length-append, length-drop}
use lib.Seq.{sets-eq, take_at, drop_at, drop-drop}
use Rattle.chip.specs.declared.Chip.{Chip}
use Rattle.chip.specs.Record.{view, repaired}
use Rattle.chip.specs.Promise.{AccessDone, ResetDone, History}
use Rattle.chip.proofs.Histories.{end}
use Rattle.chip_rules.specs.State.{Access, Reply}
use Rattle.chip_rules.specs.History.{View, Event, accessed, was_reset, line_value, next, run}
use Rattle.chip_rules.specs.Trace.{stop, access, reset}
use Rattle.chip_rules.proofs.History.{replies_append}
use Rattle.chip_rules.proofs.Trace.{trace_append}
use Rattle.script.specs.declared.Stepped.{Stepped}
use Rattle.script.specs.Script.{event_of, records, final_answer, results_of, Done, StepDone, RecordsDone, fits, PlayDone}
use Rattle.script_end.specs.Ending.{ending, number}

-- the record at place i
abbrev pub event_at : List ℕ → ℕ → Event
event_at s i = event_of (get_or s (3 * i) 0) (get_or s (3 * i + 1) 0) (get_or s (3 * i + 2) 0)

later : (k o b : ℕ) (s : List ℕ) (i j : ℕ) → get_or (k ∷ o ∷ b ∷ s) (3 * suc i + j) 0 ≡ get_or s (3 * i + j) 0
later k o b s i j =
    let h : 3 * suc i + j ≡ suc (suc (suc (3 * i + j))) = omega arith in
    ap (λ (n : ℕ). get_or (k ∷ o ∷ b ∷ s) n 0) h

event_later : (k o b : ℕ) (s : List ℕ) (i : ℕ) → event_at (k ∷ o ∷ b ∷ s) (suc i) ≡ event_at s i
event_later k o b s i =
    let z : 3 * suc i ≡ 3 * suc i + 0 = omega arith in
    let y : 3 * i ≡ 3 * i + 0 = omega arith in
    let first : get_or (k ∷ o ∷ b ∷ s) (3 * suc i) 0 ≡ get_or s (3 * i) 0 =
    ap (λ (n : ℕ). get_or (k ∷ o ∷ b ∷ s) n 0) z ∙ later k o b s i 0 ∙ ap (λ (n : ℕ). get_or s n 0) (sym y) in
    rw (first, later k o b s i 1, later k o b s i 2)

-- one record more at the end
pub records_snoc : (i : ℕ) (s : List ℕ) → 3 * i + 3 ≤ length s → records (suc i) s ≡ records i s ++ (event_at s i ∷ [])
unfolding records
records_snoc i [] h = absurd (omega arith)
records_snoc i (k ∷ []) h = absurd (omega arith)
records_snoc i (k ∷ o ∷ []) h = absurd (omega arith)
records_snoc zero (k ∷ o ∷ b ∷ s) h = refl
records_snoc (suc i) (k ∷ o ∷ b ∷ s) h =
    ap (λ (es : List Event). event_of k o b ∷ es) (records_snoc i s (omega arith) ∙ ap (λ (e : Event). records i s ++ (e ∷ [])) (sym (event_later k o b s i)))

pub records_length : (i : ℕ) (s : List ℕ) → 3 * i ≤ length s → length (records i s) ≡ i
unfolding records
records_length zero s h = refl
records_length (suc i) [] h = absurd (omega arith)
records_length (suc i) (k ∷ []) h = absurd (omega arith)
records_length (suc i) (k ∷ o ∷ []) h = absurd (omega arith)
records_length (suc i) (k ∷ o ∷ b ∷ s) h = ap suc (records_length i s (omega arith))

-- results of one list of events after another
pub results_append : (v : View Chip) (es fs : List Event) → results_of v (es ++ fs) ≡ results_of v es ++ results_of (run repaired v es) fs
unfolding results_of
results_append v [] fs = refl
results_append v (e ∷ es) fs = rw (results_append (next repaired v e) es fs)

pub results_length : (v : View Chip) (es : List Event) → length (results_of v es) ≡ 3 * length es
unfolding results_of
results_length v [] = refl
results_length v (e ∷ es) = omega (arith, results_length (next repaired v e) es)

done_append : (k j l : Chip) (es fs : List Event) → Done k es j → Done j fs l → Done k (es ++ fs) l
done_append k j l es fs t u = rw (replies_append repaired (view k) es fs, ← end t) (trace_append t u)

-- one event: a reset, and an access
pub step_reset : (chip r : Chip) (l : ℕ) → ResetDone chip r → l ≡ line_value (view r)
    → StepDone chip was_reset (record { answer = 0; byte = 0; lines = l; chip = r })
unfolding results_of
step_reset chip r l d e =
    let t : Done chip (was_reset ∷ []) r = reset d stop in
    record { steps = t; results = rw (e, end t) }

pub step_access : (chip r : Chip) (a : Access) (q : Reply) (l : ℕ) → AccessDone chip a q r → l ≡ line_value (view r)
    → StepDone chip (accessed a) (record { answer = q.answer; byte = q.byte; lines = l; chip = r })
unfolding results_of
step_access chip r a q l d e =
    let t : Done chip (accessed a ∷ []) r = subst (λ (x : Reply). History chip (accessed a ∷ []) (x ∷ []) r) d.reply (access d stop) in
    record { steps = t; results = rw (d.reply, e, end t) }

-- three bytes stored behind a front of m
store_three : (p r : List ℕ) (m a b l : ℕ) → length p ≡ m → m + 3 ≤ length r
    → set (set (set (p ++ drop m r) m a) (m + 1) b) (m + 2) l ≡ (p ++ (a ∷ b ∷ l ∷ [])) ++ drop (m + 3) r
store_three p r m a b l e h =
    let e₁ : m + 1 ≡ suc m = omega arith in
    let e₂ : m + 2 ≡ suc (suc m) = omega arith in
    let big : m + 3 ≤ length (p ++ drop m r) = simp (length-append, length-drop) (omega arith) in
    rw (e₁, e₂, sets-eq (a ∷ b ∷ l ∷ []) (p ++ drop m r) m big, take_at p (drop m r) m e)
    (ap (λ (q : List ℕ). (p ++ (a ∷ b ∷ l ∷ [])) ++ q) (sym (drop-drop 3 m (p ++ drop m r)) ∙ ap (drop 3) (drop_at p (drop m r) m e) ∙ drop-drop 3 m r))

-- The loop: no record, and from i records to i + 1.
pub none_played : (chip : Chip) (script before : List ℕ) → RecordsDone chip script 0 before chip before
unfolding records results_of
none_played chip script before = record { steps = stop; results = refl }

pub one_more : (chip c : Chip) (script before left : List ℕ) (i : ℕ) (t : Stepped) → 3 * i + 3 ≤ length script → 3 * i + 3 ≤ length before
    → RecordsDone chip script i before c left → StepDone c (event_at script i) t
    → RecordsDone chip script (i + 1) before t.chip
    (set (set (set left (3 * i) t.answer) (3 * i + 1) t.byte) (3 * i + 2) t.lines)
one_more chip c script before left i t h g d u =
    let es = records i script in
    let v = view chip in
    let e = records_snoc i script h in
    let n : 3 * (i + 1) ≡ 3 * i + 3 = omega arith in
    let long : length (results_of v es) ≡ 3 * i = results_length v es ∙ ap (λ (z : ℕ). 3 * z) (records_length i script (omega arith)) in
    let added : results_of v es ++ (t.answer ∷ t.byte ∷ t.lines ∷ []) ≡ results_of v (es ++ (event_at script i ∷ [])) =
    rw (u.results, end d.steps) (sym (results_append v es (event_at script i ∷ []))) in
    record {
      steps = rw (add-one i, e) (done_append chip c t.chip es (event_at script i ∷ []) d.steps u.steps);
      results = rw (d.results, store_three (results_of v es) before (3 * i) t.answer t.byte t.lines long g, added, n, add-one i, e);
    }

-- What a limit allows: n records of a script, and what is left of both gives the final answer.
pub record Allowed (limit n : ℕ) (s : List ℕ) : Type 0 where
  pub events : records limit s ≡ records n s
  pub answer : final_answer limit s ≡ number (ending (length s - 3 * n) (limit - n))

pub allowed : (limit n : ℕ) (s : List ℕ) → n ≤ limit → 3 * n ≤ length s → (n < limit → length s < 3 * n + 3) → Allowed limit n s
unfolding records final_answer
allowed zero zero [] h₁ h₂ h₃ = record { events = refl; answer = refl }
allowed zero zero (k ∷ s) h₁ h₂ h₃ = record { events = refl; answer = rw (ne_eqb (length (k ∷ s) - 0) 0 (λ e. omega arith)) }
allowed (suc limit) zero [] h₁ h₂ h₃ = record { events = refl; answer = refl }
allowed (suc limit) zero (k ∷ []) h₁ h₂ h₃ = record { events = refl; answer = rw (ne_eqb (suc limit - 0) 0 (λ e. omega arith)) }
allowed (suc limit) zero (k ∷ o ∷ []) h₁ h₂ h₃ = record { events = refl; answer = rw (ne_eqb (suc limit - 0) 0 (λ e. omega arith)) }
allowed (suc limit) zero (k ∷ o ∷ b ∷ s) h₁ h₂ h₃ = absurd (omega (arith, h₃ (omega arith)))
allowed zero (suc n) s h₁ h₂ h₃ = absurd (omega arith)
allowed (suc limit) (suc n) [] h₁ h₂ h₃ = absurd (omega arith)
allowed (suc limit) (suc n) (k ∷ []) h₁ h₂ h₃ = absurd (omega arith)
allowed (suc limit) (suc n) (k ∷ o ∷ []) h₁ h₂ h₃ = absurd (omega arith)
allowed (suc limit) (suc n) (k ∷ o ∷ b ∷ s) h₁ h₂ h₃ =
    let w = allowed limit n s (omega arith) (omega arith) (λ h. omega (arith, h₃ (omega arith))) in
    let e₁ : length (k ∷ o ∷ b ∷ s) - 3 * suc n ≡ length s - 3 * n = omega arith in
    let e₂ : suc limit - suc n ≡ limit - n = omega arith in
    record { events = ap (λ (es : List Event). event_of k o b ∷ es) w.events; answer = w.answer ∙ rw (e₁, e₂) }

-- "Played records = the smaller of the limit and the whole records present"
pub played_min : (limit : ℕ) (s : List ℕ) → length (records limit s) ≡ min limit (length s / 3)
played_min limit s =
    let n : ℕ = min limit (length s / 3) in
    ap length (allowed limit n s (omega arith) (omega arith) (λ h. omega arith)).events ∙ records_length n s (omega arith)

-- The two answers of `play`, by the room for results.
module _ (chip : Chip) (script : List ℕ) (limit n : ℕ) (before : List ℕ) (w : Allowed limit n script) (whole : 3 * n ≤ length script) where
  count : length (records limit script) ≡ n
  count = ap length w.events ∙ records_length n script whole

  pub too_short : length before < 3 * n → PlayDone chip script limit before (record { played = 0; answer = 8; chip = chip }) before
  unfolding fits results_of
  too_short h =
      let no : leb (3 * length (records limit script)) (length before) ≡ false = rw count (lt-leb (3 * n) (length before) h) in
      record { count = rw no; answer = rw no; state = rw no; steps = rw no stop; results = rw no }

  pub all_played : (c : Chip) (left : List ℕ) → 3 * n ≤ length before
      → RecordsDone chip script n before c left
      → PlayDone chip script limit before (record { played = n; answer = number (ending (length script - 3 * n) (limit - n)); chip = c }) left
  unfolding fits
  all_played c left h d =
      let yes : leb (3 * length (records limit script)) (length before) ≡ true = rw count (le-leb (3 * n) (length before) h) in
      record {
        count = rw (yes, count);
        answer = rw (yes, w.answer);
        state = rw (yes, w.events) (end d.steps);
        steps = rw (yes, w.events) d.steps;
        results = rw (yes, count, w.events) d.results;
      }
