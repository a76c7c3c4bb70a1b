-- What `step` promises settles its whole result: two results that both keep the promise are the same, the record and every lent byte. The
-- view of a reader that is not stopped settles its record, by the limits; a stopped one is settled by the record given.
use Prim.Native.Nat.{ℕ}
use native.Mathlib.Omega.{arith}
use mathlib.Core.Path.{◌≡◌, refl, sym, ap, ◌∙◌}
use mathlib.Core.Bool.{Bool, true, false, cond, ◌&&◌}
use mathlib.Core.List.{List, []}
use lib.Dec.{eqb}
use lib.ListN.{length, take}
use lib.Seq.{length-take-le}
use borrow.Author.Tests.{eqb-true}
use Rattle.serial_rules.specs.Escape.{Piece, pending, data_byte, mark}
use Rattle.serial_rules.specs.Marks.{style_of, code_in}
use Rattle.serial_rules.specs.Call as call
use Rattle.serial_rules.specs.Body.{Turn, more, done, refused, body_turn}
use Rattle.serial_rules.specs.Reader as rules
use Rattle.serial_rules.proofs.Lent.{turn_length}
use Rattle.serial_rules.proofs.Trip.{and_both}
use Rattle.carrier.specs.Carriers.{carrier_of}
use Rattle.refusal.specs.Refusals.{refusal_at}
use Rattle.request_reader.specs.View.{body_room, limits_in, placed, view_of, answer_for, piece_lent, lent_after, StepDone}
use Rattle.request_reader.specs.declared.Phase.{Phase}
use Rattle.request_reader.specs.declared.Phase.TheVariants.{Outside, Inside, Stopped}
use Rattle.request_reader.specs.declared.Reader.{Reader}
use Rattle.request_reader.specs.declared.Stepped.{Stepped}
use Rattle.request_reader.proofs.Steps.{inside_room}

-- only a refusal stops a reader
abbrev Refuses : rules.Step → Type 0
Refuses s = s.next ≡ rules.stopped → (n : ℕ) × (s.answer ≡ rules.refusal n)

live_outside : {e : Bool} → rules.outside e ≡ rules.stopped → ⊥
live_outside h = let z : ◌≡◌ {A = ℕ} 0 1 = cc in omega arith

live_inside : {e : Bool} {style code : ℕ} {s : List ℕ} → rules.inside e style code s ≡ rules.stopped → ⊥
live_inside h = let z : ◌≡◌ {A = ℕ} 0 1 = cc in omega arith

turned_refuses : (style code : ℕ) (s : List ℕ) (b : ℕ) (t : Turn) → Refuses (rules.turned style code s b t)
turned_refuses style code s b more h = absurd (live_inside h)
turned_refuses style code s b done h = absurd (live_outside h)
turned_refuses style code s b (refused n) h = (n, refl)

inside_refuses : (style code : ℕ) (s : List ℕ) (p : Piece) → Refuses (rules.inside_step style code s p)
inside_refuses style code s pending h = absurd (live_inside h)
inside_refuses style code s (data_byte b) h = turned_refuses style code s b (body_turn code s b) h
inside_refuses style code s (mark m) h = (5, refl)

begun_refuses : (style code : ℕ) (t : Bool) → Refuses (cond t (rules.gives (rules.request style 0 []) (rules.outside false)) (rules.gives rules.need_more (rules.inside false style code [])))
begun_refuses style code true h = absurd (live_outside h)
begun_refuses style code false h = absurd (live_inside h)

mark_refuses : (style code : ℕ) (t : Bool) → Refuses (cond t (rules.begun style code) (rules.stops 4))
mark_refuses style code true h = begun_refuses style code (eqb code 0) h
mark_refuses style code false h = (4, refl)

outside_refuses : (c : call.Carrier) (p : Piece) → Refuses (rules.outside_step c p)
outside_refuses c pending h = absurd (live_outside h)
outside_refuses c (data_byte b) h = absurd (live_outside h)
outside_refuses c (mark m) h = mark_refuses (style_of m) (code_in m) (rules.starts c m) h

pub step_refuses : (c : call.Carrier) (y : rules.Reader) (x : ℕ) → Refuses (rules.step c y x)
unfolding rules.step
step_refuses c rules.stopped x h = (7, refl)
step_refuses c (rules.outside e) x h = outside_refuses c (rules.piece_outside c e x) h
step_refuses c (rules.inside e style code s) x h = inside_refuses style code s (rules.piece_inside c e x) h

-- no byte is lent or taken back
piece_length : (lent : List ℕ) (code : ℕ) (s : List ℕ) (p : Piece) → length (piece_lent lent code s p) ≡ length lent
piece_length lent code s pending = refl
piece_length lent code s (data_byte b) = turn_length lent (length s) b (body_turn code s b)
piece_length lent code s (mark m) = refl

after_length : (c : call.Carrier) (y : rules.Reader) (x : ℕ) (lent : List ℕ) → length (lent_after c y x lent) ≡ length lent
unfolding lent_after
after_length c rules.stopped x lent = refl
after_length c (rules.outside e) x lent = refl
after_length c (rules.inside e style code s) x lent = piece_length lent code s (rules.piece_inside c e x)

-- the record that a view stands for
module _ (q : Reader) (left : List ℕ) where
  abbrev Placed : Phase → Bool → rules.Reader → Type 0
  Placed p ok y = placed (cond ok p Stopped) q.escape q.style q.code (take q.count left) ≡ y

  view_outside : {e : Bool} → view_of q left ≡ rules.outside e → q ≡ record { carrier = q.carrier; phase = Outside; escape = e; style = 0; code = 0; count = 0 }
  view_outside {e} = go q.phase (limits_in q.phase q) refl refl
    where
      go : (p : Phase) (ok : Bool) → q.phase ≡ p → limits_in p q ≡ ok → Placed p ok (rules.outside e)
          → q ≡ record { carrier = q.carrier; phase = Outside; escape = e; style = 0; code = 0; count = 0 }
      go Outside true at w h =
          let a = and_both (eqb q.style 0) (eqb q.code 0 && eqb q.count 0) w in
          let b = and_both (eqb q.code 0) (eqb q.count 0) a.1 in
          let seen : q.escape ≡ e = cc in
          rw (at, seen, eqb-true q.style 0 a.0, eqb-true q.code 0 b.0, eqb-true q.count 0 b.1)
      go Inside true at w h = let z : ◌≡◌ {A = ℕ} 0 1 = cc in absurd (omega arith)
      go Stopped true at w h = let z : ◌≡◌ {A = ℕ} 0 1 = cc in absurd (omega arith)
      go p false at w h = let z : ◌≡◌ {A = ℕ} 0 1 = cc in absurd (omega arith)

  view_inside : {e : Bool} {style code : ℕ} {s : List ℕ} → length left ≡ body_room → view_of q left ≡ rules.inside e style code s
      → q ≡ record { carrier = q.carrier; phase = Inside; escape = e; style = style; code = code; count = length s }
  view_inside {e} {style} {code} {s} whole = go q.phase (limits_in q.phase q) refl refl
    where
      go : (p : Phase) (ok : Bool) → q.phase ≡ p → limits_in p q ≡ ok → Placed p ok (rules.inside e style code s)
          → q ≡ record { carrier = q.carrier; phase = Inside; escape = e; style = style; code = code; count = length s }
      go Inside true at w h =
          let room = inside_room q w in
          let seen : q.escape ≡ e = cc in
          let style-is : q.style ≡ style = cc in
          let code_is : q.code ≡ code = cc in
          let body_is : take q.count left ≡ s = cc in
          let count_is : q.count ≡ length s = sym (length-take-le q.count left (omega arith)) ∙ ap length body_is in
          rw (at, seen, style-is, code_is, count_is)
      go Outside true at w h = let z : ◌≡◌ {A = ℕ} 0 1 = cc in absurd (omega arith)
      go Stopped true at w h = let z : ◌≡◌ {A = ℕ} 0 1 = cc in absurd (omega arith)
      go p false at w h = let z : ◌≡◌ {A = ℕ} 0 1 = cc in absurd (omega arith)

same_record : (q p : Reader) (left : List ℕ) (y : rules.Reader) → length left ≡ body_room → view_of q left ≡ y → view_of p left ≡ y → (y ≡ rules.stopped → ⊥)
    → q.carrier ≡ p.carrier → q ≡ p
same_record q p left rules.stopped whole v u runs k = absurd (runs refl)
same_record q p left (rules.outside e) whole v u runs k = view_outside q left v ∙ rw k (sym (view_outside p left u))
same_record q p left (rules.inside e style code s) whole v u runs k = view_inside q left whole v ∙ rw k (sym (view_inside p left whole u))

pub settled : {r : Reader} {lent left end : List ℕ} {x : ℕ} {o p : Stepped} → length lent ≡ body_room → StepDone r lent x o left → StepDone r lent x p end
    → (o ≡ p) × (left ≡ end)
settled {r} {lent} {left} {end} {x} {o} {p} whole d f = (rw (answers, by (view_of r lent) refl), bytes)
  where
    bytes : left ≡ end
    bytes = d.bytes ∙ sym f.bytes

    answers : o.answer ≡ p.answer
    answers = d.answer_is ∙ sym f.answer_is

    same : (y : rules.Reader) → (rules.step (carrier_of r.carrier) (view_of r lent) x).next ≡ y → (y ≡ rules.stopped → ⊥) → o.reader ≡ p.reader
    same y e runs =
        let long : length left ≡ body_room = ap length d.bytes ∙ after_length (carrier_of r.carrier) (view_of r lent) x lent ∙ whole in
        same_record o.reader p.reader left y long (d.next ∙ e) (rw bytes (f.next ∙ e)) runs (d.carrier ∙ sym f.carrier)

    next : (y : rules.Reader) → (view_of r lent ≡ rules.stopped → ⊥) → (rules.step (carrier_of r.carrier) (view_of r lent) x).next ≡ y → o.reader ≡ p.reader
    next rules.stopped runs e =
        let n = step_refuses (carrier_of r.carrier) (view_of r lent) x e in
        d.stops (refusal_at n.0) runs (d.answer_is ∙ ap answer_for n.1) ∙ sym (f.stops (refusal_at n.0) runs (f.answer_is ∙ ap answer_for n.1))
    next (rules.outside s) runs e = same (rules.outside s) e live_outside
    next (rules.inside s style code b) runs e = same (rules.inside s style code b) e live_inside

    by : (y : rules.Reader) → view_of r lent ≡ y → o.reader ≡ p.reader
    by rules.stopped v = d.kept v ∙ sym (f.kept v)
    by (rules.outside s) v = next (rules.step (carrier_of r.carrier) (view_of r lent) x).next (λ h. live_outside (sym v ∙ h)) refl
    by (rules.inside s style code b) v = next (rules.step (carrier_of r.carrier) (view_of r lent) x).next (λ h. live_inside (sym v ∙ h)) refl
