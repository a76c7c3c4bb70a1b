-- What each outcome of a raw byte promises: one law for each.
use Prim.Native.Nat.{ℕ, ◌+◌, ◌≤◌, ◌<◌}
use mathlib.Core.Path.{◌≡◌, refl, sym, ap, ◌∙◌}
use mathlib.Core.Bool.{Bool, true, false, cond}
use mathlib.Core.List.{List}
use native.Mathlib.Omega.{arith}
use native.Mathlib.Nat.{le_of_lt}
use lib.Dec.{ltb}
use lib.ListN.{length, get_or, take, set, length-set}
use lib.Seq.{length-take-le}
use borrow.Author.Tests.{ltb-true, lt-ltb, eq-eqb, ne_eqb}
use Rattle.serial_rules.specs.Escape.{Piece, pending, data_byte, mark}
use Rattle.serial_rules.specs.Marks.{style_of, code_in}
use Rattle.serial_rules.specs.Call.{style_ok}
use Rattle.serial_rules.specs.Body.{more, done, refused, body_turn, longest_body}
use Rattle.serial_rules.specs.Reader as rules
use Rattle.serial_rules.proofs.Trip.{and_both}
use Rattle.serial_rules.proofs.Lent.{take_next}
use Rattle.serial_rules.proofs.Limits.{starts_style}
use Rattle.carrier.specs.Carriers.{carrier_of}
use Rattle.request_reader.specs.View.{body_room, inside_limits, limits_in, standing_of, placed, view_of, answer_of, answer_for, lent_after, StepDone}
use Rattle.request_reader.specs.Parts.{refused_from, resting_from, going_from, settled, ReaderGives, OutsideDone, InsideDone}
use Rattle.request_reader.specs.declared.Phase.{Phase}
use Rattle.request_reader.specs.declared.Phase.TheVariants.{Outside, Inside, Stopped}
use Rattle.request_reader.specs.declared.Reader.{Reader}
use Rattle.request_reader.specs.declared.Answer.{Answer}
use Rattle.request_reader.specs.declared.Answer.TheVariants.{More, Character, Request, Refused}
use Rattle.request_reader.specs.declared.Stepped.{Stepped}
use Rattle.std.specs.Prelude.{Result, Ok, Err}
use Rattle.refusal.specs.declared.Refusal.{Refusal}
use Rattle.refusal.specs.declared.Refusal.TheVariants as refusal
use Rattle.refusal.specs.declared.Refusal.TheVariants.{NotCarried, Misplaced}
use Rattle.refusal.specs.Refusals.{number}
use Rattle.refusal.proofs.Refusals.{refusal_back}
use Rattle.request_reader.proofs.Limits.{more_fits, longest_fits, starts_body}

-- a record within the limits inside a request, part by part
pub inside_style : (r : Reader) → inside_limits r ≡ true → style_ok (carrier_of r.carrier) r.style ≡ true
unfolding inside_limits
inside_style r e = (and_both (style_ok (carrier_of r.carrier) r.style) (ltb r.count (longest_body r.code)) e).0

pub inside_count : (r : Reader) → inside_limits r ≡ true → r.count < longest_body r.code
unfolding inside_limits
inside_count r e = ltb-true r.count (longest_body r.code) (and_both (style_ok (carrier_of r.carrier) r.style) (ltb r.count (longest_body r.code)) e).1

pub inside_room : (r : Reader) → inside_limits r ≡ true → r.count < body_room
inside_room r e = omega (arith, inside_count r e, longest_fits r.code)

-- an answer that is no refusal
no_more : (n : Refusal) → More ≡ Refused n → ⊥
no_more n e = let z : ◌≡◌ {A = ℕ} 0 1 = cc in omega arith

no_character : (b : ℕ) (n : Refusal) → Character b ≡ Refused n → ⊥
no_character b n e = let z : ◌≡◌ {A = ℕ} 0 1 = cc in omega arith

no_request : (style code k : ℕ) (n : Refusal) → Request style code k ≡ Refused n → ⊥
no_request style code k n e = let z : ◌≡◌ {A = ℕ} 0 1 = cc in omega arith

-- the three ways in which a step leaves the record
module _ (r : Reader) (lent : List ℕ) where
  refused_gives : (n : Refusal) → ReaderGives r (rules.stops (number n)) lent (refused_from r n) lent
  refused_gives n = record { step_is = refl; answer_is = ap Refused (sym (refusal_back n)); bytes = refl; carrier = refl; stops = λ k e. refl }

  resting_gives : (e : Bool) (a : Answer) → a ≡ answer_for (answer_of a lent) → ((n : Refusal) → a ≡ Refused n → ⊥)
      → ReaderGives r (rules.gives (answer_of a lent) (rules.outside e)) lent (resting_from r e a) lent
  resting_gives e a sized not-refused = record { step_is = refl; answer_is = sized; bytes = refl; carrier = refl; stops = λ n q. absurd (not-refused n q) }

  going_gives : (e : Bool) (style code n : ℕ) → style_ok (carrier_of r.carrier) style ≡ true → n < longest_body code →
      ReaderGives r (rules.gives rules.need_more (rules.inside e style code (take n lent))) lent (going_from r e style code n) lent
  unfolding inside_limits
  going_gives e style code n ok lt = record { step_is = simp (ok, lt-ltb n (longest_body code) lt); answer_is = refl; bytes = refl; carrier = refl; stops = λ k q. absurd (no_more k q) }

-- outside a request
module _ (r : Reader) where
  pub outside_pending : {x : Stepped} {p : Piece} → p ≡ pending → x ≡ resting_from r true More → OutsideDone r p (Ok x)
  outside_pending e q lent = rw (e, q) (resting_gives r lent true More refl no_more)

  pub outside_data : {x : Stepped} {p : Piece} {b : ℕ} → p ≡ data_byte b → x ≡ resting_from r false (Character b) → OutsideDone r p (Ok x)
  outside_data {b = b} e q lent = rw (e, q) (resting_gives r lent false (Character b) refl (no_character b))

  pub outside_mark : (y : Result Stepped Refusal) {p : Piece} {m : ℕ} → p ≡ mark m → OutsideDone r (mark m) y → OutsideDone r p y
  outside_mark y e g = rw e g

  module _ (m : ℕ) where
    pub mark_unknown : rules.starts (carrier_of r.carrier) m ≡ false → OutsideDone r (mark m) (Err NotCarried)
    mark_unknown s lent = rw s (refused_gives r lent NotCarried)

    pub mark_whole : {x : Stepped} → rules.starts (carrier_of r.carrier) m ≡ true → code_in m ≡ 0 → x ≡ resting_from r false (Request (style_of m) 0 0) → OutsideDone r (mark m) (Ok x)
    mark_whole s z q lent = rw (s, eq-eqb (code_in m) 0 z, q) (resting_gives r lent false (Request (style_of m) 0 0) refl (no_request (style_of m) 0 0))

    pub mark_begun : {x : Stepped} → m ≤ 255 → rules.starts (carrier_of r.carrier) m ≡ true → (code_in m ≡ 0 → ⊥) → x ≡ going_from r false (style_of m) (code_in m) 0 → OutsideDone r (mark m) (Ok x)
    mark_begun byte s n0 q lent =
        rw (s, ne_eqb (code_in m) 0 n0, q)
        (going_gives r lent false (style_of m) (code_in m) 0 (starts_style (carrier_of r.carrier) m byte s) (starts_body (carrier_of r.carrier) m s n0))

-- inside a request
module _ (r : Reader) (lent : List ℕ) where
  pub inside_pending : {x : Stepped} {p : Piece} → inside_limits r ≡ true → p ≡ pending → x ≡ going_from r true r.style r.code r.count → InsideDone r lent p (Ok x) lent
  inside_pending w e q = rw (e, q) (going_gives r lent true r.style r.code r.count (inside_style r w) (inside_count r w))

  pub inside_mark : {p : Piece} {m : ℕ} → p ≡ mark m → InsideDone r lent p (Err Misplaced) lent
  inside_mark e = rw e (refused_gives r lent Misplaced)

  pub inside_data : (y : Result Stepped Refusal) {p : Piece} {b : ℕ} {left : List ℕ} → p ≡ data_byte b → InsideDone r lent (data_byte b) y left → InsideDone r lent p y left
  inside_data y e g = rw e g

  module _ (b : ℕ) where
    pub data_refused : {n : Refusal} → body_turn r.code (take r.count lent) b ≡ refused (number n) → InsideDone r lent (data_byte b) (Err n) lent
    data_refused {n} t = rw t (refused_gives r lent n)

    pub data_goes : {x : Stepped} → inside_limits r ≡ true → r.count < length lent → r.count + 1 < longest_body r.code → body_turn r.code (take r.count lent) b ≡ more →
        x ≡ going_from r false r.style r.code (r.count + 1) → InsideDone r lent (data_byte b) (Ok x) (set lent r.count b)
    data_goes w lt fits t q =
        rw (t, q, ← take_next lent r.count b lt, length-take-le r.count lent (le_of_lt lt))
        (going_gives r (set lent r.count b) false r.style r.code (r.count + 1) (inside_style r w) fits)

    pub data_more : {x : Stepped} → inside_limits r ≡ true → r.count < length lent → get_or lent 1 0 < 256 → body_turn r.code (take r.count lent) b ≡ more →
        x ≡ going_from r false r.style r.code (r.count + 1) → InsideDone r lent (data_byte b) (Ok x) (set lent r.count b)
    data_more w lt byte t q = data_goes w lt (more_fits r.code r.count b lent (le_of_lt lt) byte t) t q

    pub data_done : {x : Stepped} → r.count < length lent → body_turn r.code (take r.count lent) b ≡ done →
        x ≡ resting_from r false (Request r.style r.code (r.count + 1)) → InsideDone r lent (data_byte b) (Ok x) (set lent r.count b)
    data_done lt t q =
        let left = set lent r.count b in
        let whole : length (take (r.count + 1) left) ≡ r.count + 1 = length-take-le (r.count + 1) left (omega (arith, length-set lent r.count b)) in
        rw (t, q, ← take_next lent r.count b lt, length-take-le r.count lent (le_of_lt lt))
        (resting_gives r left false (Request r.style r.code (r.count + 1)) (rw whole) (no_request r.style r.code (r.count + 1)))

-- a record that stands inside a request keeps its limits there
pub stands_inside : (r : Reader) → standing_of r ≡ Inside → inside_limits r ≡ true
stands_inside r = go r.phase (limits_in r.phase r) refl refl
  where
    go : (p : Phase) (ok : Bool) → r.phase ≡ p → limits_in p r ≡ ok → cond ok p Stopped ≡ Inside → inside_limits r ≡ true
    go Inside true e w h = w
    go Outside true e w h = let z : ◌≡◌ {A = ℕ} 0 1 = cc in absurd (omega arith)
    go Stopped true e w h = let z : ◌≡◌ {A = ℕ} 0 1 = cc in absurd (omega arith)
    go p false e w h = let z : ◌≡◌ {A = ℕ} 0 1 = cc in absurd (omega arith)

module _ (r : Reader) (lent : List ℕ) (raw : ℕ) where
  view_at : {p : Phase} → standing_of r ≡ p → view_of r lent ≡ placed p r.escape r.style r.code (take r.count lent)
  view_at h = ap (λ (q : Phase). placed q r.escape r.style r.code (take r.count lent)) h

  -- what a live reader gives is what `step` promises
  live : (y : rules.Reader) {x : Stepped} {left : List ℕ} → view_of r lent ≡ y → (y ≡ rules.stopped → ⊥) →
      ReaderGives r (rules.step (carrier_of r.carrier) y raw) (lent_after (carrier_of r.carrier) y raw lent) x left → StepDone r lent raw x left
  live y v runs g = record {
    answer = ap (λ (s : rules.Step). s.answer) g.step_is ∙ ap (λ (z : rules.Reader). (rules.step (carrier_of r.carrier) z raw).answer) (sym v);
    answer_is = g.answer_is ∙ ap (λ (z : rules.Reader). answer_for (rules.step (carrier_of r.carrier) z raw).answer) (sym v);
    next = ap (λ (s : rules.Step). s.next) g.step_is ∙ ap (λ (z : rules.Reader). (rules.step (carrier_of r.carrier) z raw).next) (sym v);
    bytes = g.bytes ∙ ap (λ (z : rules.Reader). lent_after (carrier_of r.carrier) z raw lent) (sym v);
    carrier = g.carrier;
    kept = λ k. absurd (runs (sym v ∙ k));
    stops = λ n _ e. g.stops n e;
  }

  pub at_stopped : standing_of r ≡ Stopped → StepDone r lent raw (record { answer = Refused refusal.Stopped; reader = r }) lent
  unfolding rules.step lent_after
  at_stopped h =
      let v : view_of r lent ≡ rules.stopped = view_at h in
      record {
        answer = ap (λ (z : rules.Reader). (rules.step (carrier_of r.carrier) z raw).answer) (sym v);
        answer_is = ap (λ (z : rules.Reader). answer_for (rules.step (carrier_of r.carrier) z raw).answer) (sym v);
        next = v ∙ ap (λ (z : rules.Reader). (rules.step (carrier_of r.carrier) z raw).next) (sym v);
        bytes = ap (λ (z : rules.Reader). lent_after (carrier_of r.carrier) z raw lent) (sym v);
        carrier = refl;
        kept = λ k. refl;
        stops = λ n runs e. absurd (runs v);
      }

  pub at_outside : (x : Result Stepped Refusal) {y : Stepped} → standing_of r ≡ Outside → OutsideDone r (rules.piece_outside (carrier_of r.carrier) r.escape raw) x → y ≡ settled r x →
      StepDone r lent raw y lent
  unfolding rules.step lent_after
  at_outside x h g e = rw e (live (rules.outside r.escape) (view_at h) (λ e. let z : ◌≡◌ {A = ℕ} 0 1 = cc in omega arith) (g lent))

  pub at_inside : (x : Result Stepped Refusal) {y : Stepped} {left : List ℕ} → standing_of r ≡ Inside →
      InsideDone r lent (rules.piece_inside (carrier_of r.carrier) r.escape raw) x left → y ≡ settled r x → StepDone r lent raw y left
  unfolding rules.step lent_after
  at_inside x h g e = rw e (live (rules.inside r.escape r.style r.code (take r.count lent)) (view_at h) (λ e. let z : ◌≡◌ {A = ℕ} 0 1 = cc in omega arith) g)
