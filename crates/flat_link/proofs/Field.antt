-- A byte of the reply on the flat record as it is: a step of the link that needs more, or that finishes the reply.
use Rattle.std.specs.Prelude.{Ok}
use Prim.Native.Nat.{ℕ, ◌+◌, ◌-◌, ◌≤◌, ◌<◌}
use native.Mathlib.Omega.{arith}
use mathlib.Core.Path.{◌≡◌, refl, sym, ap, ◌∙◌}
use mathlib.Core.Bool.{Bool, true, false, cond}
use mathlib.Core.List.{List}
use borrow.Author.Tests.{ne_eqb, le-leb, lt-ltb, le-ltb, ltb-true}
use lib.Dec.{ltb}
use lib.ListN.{length, set}
use Rattle.serial_rules.specs.Body.{Turn, more, done, refused}
use Rattle.serial_rules.specs.Reply.{shape_of, shape_turn, longest}
use Rattle.turns.specs.declared.Turn as code
use Rattle.turns.specs.declared.Turn.TheVariants as code-turns
use Rattle.turns.specs.Turns.{turn_of}
use Rattle.shapes.specs.Shapes.{shape_for}
use Rattle.kind.specs.Kinds.{kind_for}
use Rattle.kind.specs.declared.CallKind.{CallKind}
use Rattle.kind.specs.Kinds.{reply_lent}
use Rattle.shapes.specs.declared.Shape.{Shape as Found}
use Rattle.link_step.proofs.Steps.{at_data, data_outside, reply_more, reply_ended}
use Rattle.link_loop.specs.Parts.{mid_reply}
use Rattle.link_loop.proofs.Plains.{mid_usable}
use Rattle.flat_kind.specs.Kinds.{kind_at}
use Rattle.link_record.specs.declared.FlatLink.{FlatLink}
use Rattle.flat_link.specs.declared.FlatTold.{FlatTold}
use Rattle.link_record.specs.Records.{link_of, tags_ok, flat_of}
use Rattle.flat_link.specs.Links.{told_with, FlatStepDone}
use Rattle.flat_link.specs.Field.{ReplyByte, shape_in, turn_in, placed_next, placed_idle}
use Rattle.link_record.proofs.Conversions.{flat_back}
use Rattle.flat_link.proofs.Links.{step_known}

-- a turn that is no refusal is one of a record within its limits
limited : (n m : ℕ) (x y : Turn) → (refused 7 ≡ y → ⊥) → cond (ltb n m) x (refused 7) ≡ y → (n < m) × (x ≡ y)
limited n m x y other = go (ltb n m) refl
  where
    go : (t : Bool) → ltb n m ≡ t → cond t x (refused 7) ≡ y → (n < m) × (x ≡ y)
    go true u e = (ltb-true n m u, e)
    go false u e = absurd (other e)

not_more : refused 7 ≡ more → ⊥
not_more e = cc

not_done : refused 7 ≡ done → ⊥
not_done e = cc

-- the turn of the shape that the code finds, by whether the record is within its limits
module _ (f : FlatLink) (x : ℕ) {k : CallKind} (s : Found) {m : ℕ} (p : k ≡ kind_at (f.wait - 1) f.out_length) (q : shape_for s ≡ shape_of (kind_for k))
    (l : (m ≡ longest (shape_for s)) × (m ≤ reply_lent)) where
  is_shape : shape_for s ≡ shape_in f
  is_shape = q ∙ ap (λ (c : CallKind). shape_of (kind_for c)) p

  pub turned : {t : Turn} → f.got < m → t ≡ shape_turn (shape_for s) f.got x → (t ≡ turn_in f x) × ((t ≡ refused 7 → ⊥) → f.got < reply_lent)
  turned below e = (e ∙ rw (← is_shape, ← l.0, lt-ltb f.got m below), λ _. omega (arith, l.1, below))

  pub beyond : m ≤ f.got → (refused 7 ≡ turn_in f x) × ((refused 7 ≡ refused 7 → ⊥) → f.got < reply_lent)
  beyond above = (rw (← is_shape, ← l.0, le-ltb f.got m above), λ no. absurd (no refl))

-- a byte that is taken is not refused
pub taken : (t : code.Turn) → turn_of (Ok t) ≡ refused 7 → ⊥
taken code-turns.More e = cc
taken code-turns.Done e = cc

module _ {f : FlatLink} {x : ℕ} (h : ReplyByte f x) where
  in_range : tags_ok f ≡ true
  unfolding tags_ok
  in_range = rw (le-leb f.wait 13 h.known, h.quiet, h.no_flags)

  abbrev kind : CallKind
  kind = kind_at (f.wait - 1) f.out_length

  -- its link is one in the middle of a reply
  middle : link_of f ≡ mid_reply kind f.got
  middle = rw (ne_eqb f.wait 0 (λ e. omega (arith, e, h.waits)), h.quiet, h.none_held, h.no_flags)

  -- the link with a byte more has the record with a byte more
  next_is : placed_next f ≡ flat_of f (mid_reply kind (f.got + 1))
  next_is = ap placed_next (sym (flat_back f in_range) ∙ ap (flat_of f) middle)

  module _ {reply own : List ℕ} {g : FlatLink} {r : FlatTold} (room : f.got < length reply) where
    pub reply_goes : turn_in f x ≡ more → g ≡ placed_next f → r ≡ told_with g 0 0 0 → FlatStepDone f reply own x r (set reply f.got x) own
    reply_goes e p q =
        let l = mid_reply kind f.got in
        let t = limited f.got (longest (shape_in f)) (shape_turn (shape_in f) f.got x) more not_more e in
        step_known in_range (sym middle)
        (at_data l reply own x (mid_usable kind f.got t.0) (rw h.not_escape) (data_outside l reply own x refl (reply_more l reply x refl refl room t.1 refl)))
        (p ∙ next_is) q

    pub reply_ends : turn_in f x ≡ done → g ≡ placed_idle f → r ≡ told_with g 5 0 (f.got + 1) → FlatStepDone f reply own x r (set reply f.got x) own
    reply_ends e p q =
        let l = mid_reply kind f.got in
        let t = limited f.got (longest (shape_in f)) (shape_turn (shape_in f) f.got x) done not_done e in
        step_known in_range (sym middle)
        (at_data l reply own x (mid_usable kind f.got t.0) (rw h.not_escape) (data_outside l reply own x refl (reply_ended l reply x refl refl room t.1 refl)))
        p q
