-- A stream read through flat records is one read by the link that they stand for: so what is proved of streams is said of the exports.
use Rattle.std.specs.Prelude.{Option, Some, None}
use Prim.Native.Nat.{ℕ, ◌<◌}
use mathlib.Core.Path.{◌≡◌, refl, sym, ap, subst, ◌∙◌}
use native.Mathlib.Omega.{arith}
use mathlib.Core.Bool.{Bool, true, false}
use lib.Dec.{ltb}
use borrow.Author.Tests.{ltb-true}
use mathlib.Core.List.{List}
use Rattle.serial_rules.specs.Link as rules
use Rattle.actions.specs.declared.Action.{Action}
use Rattle.link.specs.declared.Link.{Link}
use Rattle.answers.specs.declared.Answer.{Answer}
use Rattle.link.specs.declared.Stepped.{Stepped}
use Rattle.actions.specs.declared.Action.TheVariants.{Error, Event, Address, Block}
use Rattle.link.specs.View.{own_room, usable_of, view_of, StepDone}
use Rattle.answers.specs.Reports.{answer_for}
use Rattle.link.proofs.Limits.{usable_held, nested_low}
use Rattle.link_step.proofs.Settled.{Refuses, refuses, stops}
use Rattle.serial_rules.proofs.Shapes.{choice}
use Rattle.answers.specs.declared.Answer.TheVariants as variant
use Rattle.link_loop.specs.Run.{Runs}
use Rattle.link_loop.specs.Run as runs
use Rattle.link_record.specs.declared.FlatLink.{FlatLink}
use Rattle.flat_link.specs.declared.FlatTold.{FlatTold}
use Rattle.link_record.specs.Records.{link_of, tags_ok, flat_of}
use Rattle.flat_link.specs.Links.{flat_told, FlatStepDone}
use Rattle.flat_link.specs.Streams.{FlatRuns, stop, took}
use Rattle.link_record.proofs.Conversions.{RangedDoing, Ranged, link_back_lem, tags_back, link_ranged}

link_is : (f : FlatLink) (a : Answer) → (flat_told f a).link ≡ f
link_is f variant.More = refl
link_is f (variant.Character b) = refl
link_is f (variant.Reply n) = refl
link_is f (variant.EscapeState on) = refl
link_is f (variant.Event y x a) = refl
link_is f (variant.Address t b3 b2 b1 b0) = refl
link_is f (variant.Block n) = refl
link_is f (variant.Loaded b) = refl
link_is f (variant.Ended save) = refl
link_is f (variant.Error n k) = refl
link_is f variant.Restart = refl
link_is f (variant.Refused n) = refl

-- a step leaves a link in range: a usable record is, and any other is the one given, stopped or not
own_ranged : (d : Option Action) (n : ℕ) → n < own_room d → RangedDoing d
own_ranged None n h = tt
own_ranged (Some Error) n h = tt
own_ranged (Some Event) n h = tt
own_ranged (Some (Address t)) n h = tt
own_ranged (Some (Block k)) n h =
    choice (λ (m : ℕ). n < m → (0 < k) × (k < 128)) (ltb k 0x80) (λ e r. (omega arith, ltb-true k 0x80 e)) (λ _ r. absurd (omega arith)) h

step_ranged : {l : Link} {reply own reply-left own-left : List ℕ} {x : ℕ} {o : Stepped} → StepDone l reply own x o reply-left own-left → Ranged l → Ranged o.link
step_ranged {l} {reply} {own} {reply-left} {own-left} {x} {o} d h = go (usable_of o.link) refl (usable_of l) refl
  where
    stopped : usable_of o.link ≡ false → (rules.step (view_of l reply own) x).next ≡ rules.stopped
    stopped u = let off : view_of o.link reply-left own-left ≡ rules.stopped = rw u in sym d.next ∙ off

    refused : {r : rules.Report} → Refuses r → (view_of l reply own ≡ rules.stopped → ⊥) → o.answer ≡ answer_for r → Ranged o.link
    refused (refuses n) runs e = subst Ranged (sym (d.stops n runs e)) h

    go : (t : Bool) → usable_of o.link ≡ t → (s : Bool) → usable_of l ≡ s → Ranged o.link
    go true u s v = (nested_low o.link u, own_ranged o.link.doing o.link.held (usable_held o.link u))
    go false u false v = let off : view_of l reply own ≡ rules.stopped = rw v in subst Ranged (sym (d.kept off)) h
    go false u true v = refused (stops (view_of l reply own) x (stopped u)) (rw v (λ e. cc)) d.answer_is

-- the record that a byte leaves is in range again, and stands for the link that the step left
module _ {f : FlatLink} {reply own reply-left own-left : List ℕ} {x : ℕ} {o : FlatTold} (ok : tags_ok f ≡ true) (d : FlatStepDone f reply own x o reply-left own-left) where
  next_is : o.link ≡ flat_of f (d.known ok).stepped.link
  next_is = let k = d.known ok in ap (λ (r : FlatTold). r.link) k.is ∙ link_is (flat_of f k.stepped.link) k.stepped.answer

  left_ranged : Ranged (d.known ok).stepped.link
  left_ranged = step_ranged (d.known ok).done (link_ranged f ok)

  pub still_tagged : tags_ok o.link ≡ true
  still_tagged = subst (λ (g : FlatLink). tags_ok g ≡ true) (sym next_is) (tags_back f (d.known ok).stepped.link left_ranged)

  next_link : link_of o.link ≡ (d.known ok).stepped.link
  next_link = ap link_of next_is ∙ link_back_lem f (d.known ok).stepped.link left_ranged

pub as_run : {f q : FlatLink} {reply own raw reply-end own-end : List ℕ} {gave : List FlatTold} {reports : List rules.Report} → FlatRuns f reply own raw gave reports q reply-end own-end
    → Runs (link_of f) reply own raw reports (link_of q) reply-end own-end
as_run stop = runs.stop
as_run (took {q = q} {reply-left = reply-left} {own-left = own-left} {reply-end = reply-end} {own-end = own-end} {raw = raw} {reports = reports} ok d t) =
    runs.took (d.known ok).done (subst (λ (l : Link). Runs l reply-left own-left raw reports (link_of q) reply-end own-end) (next_link ok d) (as_run t))
