-- What `run`, `step` and `begin` promise of flat records, from what the link promises.
use Prim.Native.Nat.{ℕ, ◌≤◌, ◌<◌}
use native.Mathlib.Omega.{arith}
use mathlib.Core.Path.{◌≡◌, refl, ap, subst, ◌∙◌}
use mathlib.Core.Bool.{true, false}
use mathlib.Core.List.{List}
use lib.ListN.{length}
use Rattle.serial_rules.specs.Link as rules
use Rattle.kind.specs.declared.CallKind.{CallKind}
use Rattle.link.specs.declared.Link.{Link}
use Rattle.refusal.specs.declared.Refusal.TheVariants.{Stopped}
use Rattle.refusal.specs.Refusals.{number}
use Rattle.answers.specs.declared.Answer.TheVariants as variant
use Rattle.link.specs.declared.Stepped.{Stepped}
use Rattle.link.specs.declared.Started.{Started}
use Rattle.link_loop.specs.declared.Ran.{Ran}
use Rattle.link.specs.View.{begun_of, BeginDone, BeginNoneDone, StepDone}
use Rattle.link_loop.specs.Run.{RunDone}
use Rattle.link_record.specs.declared.FlatLink.{FlatLink}
use Rattle.flat_link.specs.declared.FlatTold.{FlatTold}
use Rattle.flat_link.specs.declared.FlatRan.{FlatRan}
use Rattle.flat_link.specs.declared.FlatBegun.{FlatBegun}
use Rattle.flat_kind.specs.Kinds.{kind_at, last_call}
use Rattle.link_record.specs.Records.{link_of, tags_ok, flat_of}
use Rattle.flat_link.specs.Links.{flat_told, FlatStepDone, flat_begun, flat_started, FlatBeginDone}
use Rattle.flat_link.specs.Runs.{flat_ran, flat_unknown, FlatRunDone}
use Rattle.link_record.proofs.Conversions.{flat_back}

-- one byte, by whether the numbers are in range
module _ {f : FlatLink} {reply own : List ℕ} {x : ℕ} {r : FlatTold} where
  pub step_known : {l : Link} {s : Stepped} {g : FlatLink} {reply-left own-left : List ℕ} → tags_ok f ≡ true → l ≡ link_of f → StepDone l reply own x s reply-left own-left
      → g ≡ flat_of f s.link → r ≡ flat_told g s.answer → FlatStepDone f reply own x r reply-left own-left
  step_known {s = s} {reply-left = reply-left} {own-left = own-left} ok u d p q = record {
    known = λ _. record {
      stepped = s;
      done = subst (λ (l : Link). StepDone l reply own x s reply-left own-left) u d;
      is = q ∙ ap (λ (h : FlatLink). flat_told h s.answer) p;
    };
    unknown = λ out. cc;
  }

  pub step_unknown : tags_ok f ≡ false → r ≡ flat_told f (variant.Refused (number Stopped)) → FlatStepDone f reply own x r reply own
  step_unknown out q = record { known = λ ok. cc; unknown = λ _. (q, refl, refl) }

-- the loop, by whether the numbers are in range
module _ {f : FlatLink} {reply own raw room content : List ℕ} {r : FlatRan} where
  pub ran_known : {l : Link} {o : Ran} {reply-left own-left room-left content-left : List ℕ} → tags_ok f ≡ true → l ≡ link_of f
      → RunDone l reply own raw room content o reply-left own-left room-left content-left → r ≡ flat_ran f o → FlatRunDone f reply own raw room content r reply-left own-left room-left content-left
  ran_known {l} {o} {reply-left} {own-left} {room-left} {content-left} ok u d e =
      record {
        known = λ _. record { ran = o; done = subst (λ (q : Link). RunDone q reply own raw room content o reply-left own-left room-left content-left) u d; is = e };
        unknown = λ out. cc;
      }

  pub ran_unknown : tags_ok f ≡ false → r ≡ flat_unknown f (length raw) (length room) (length content) → FlatRunDone f reply own raw room content r reply own room content
  ran_unknown out e = record { known = λ ok. cc; unknown = λ _. (e, refl, refl, refl, refl) }

-- the record of a begun call's flat result
begun_link : (f : FlatLink) (b : rules.Begun) → (flat_begun f b).link ≡ f
begun_link f rules.begun = refl
begun_link f rules.complete = refl
begun_link f (rules.denied n) = refl

-- a begun call, by whether the numbers are in range and the call is one
module _ {f : FlatLink} {call out : ℕ} {r : FlatBegun} where
  pub begin_known : {l : Link} {k : CallKind} {s : Started} → tags_ok f ≡ true → call ≤ last_call → l ≡ link_of f → k ≡ kind_at call out → BeginDone l k s
      → r ≡ flat_started f s → FlatBeginDone f call out r
  begin_known {s = s} ok low u w d q = record {
    known = λ _ _. record { started = s; done = rw (u, w) at d; is = q };
    no_call = λ _ high. absurd (omega arith);
    unknown = λ off. cc;
  }

  pub begin_no_call : {l : Link} {s : Started} → tags_ok f ≡ true → last_call < call → l ≡ link_of f → BeginNoneDone l s → r ≡ flat_started f s
      → FlatBeginDone f call out r
  begin_no_call {l} {s} ok high u d q = record {
    known = λ _ low. absurd (omega arith);
    no_call = λ _ _. (
      record { started = s; done = rw u at d; is = q },
      ap (λ (b : FlatBegun). b.link) q ∙ begun_link (flat_of f s.link) (begun_of s.answer) ∙ ap (flat_of f) (d.kept ∙ u) ∙ flat_back f ok,
    );
    unknown = λ off. cc;
  }

  pub begin_unknown : tags_ok f ≡ false → r ≡ flat_begun f (rules.denied 7) → FlatBeginDone f call out r
  begin_unknown off q = record { known = λ ok _. cc; no_call = λ ok _. cc; unknown = λ _. q }
