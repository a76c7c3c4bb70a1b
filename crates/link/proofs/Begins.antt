-- What a begun call promises, by what it does.
use Rattle.link.specs.declared.Wait.{Wait}
use Rattle.link.specs.declared.Wait.TheVariants.{Idle, Waiting}
use Rattle.std.specs.Prelude.{Result, Ok, Err}
use Rattle.std.specs.Result.{result_and}
use Prim.Native.Nat.{ℕ, ◌<◌}
use mathlib.Core.Path.{◌≡◌, refl, subst}
use mathlib.Core.Bool.{Bool, true, false, cond}
use mathlib.Core.List.{List}
use native.Mathlib.Omega.{arith}
use borrow.Author.Tests.{eq-eqb, ne_eqb, lt-ltb}
use Rattle.serial_rules.specs.Reply.{shape_of, longest}
use Rattle.serial_rules.specs.Link as rules
use Rattle.refusal.specs.declared.Refusal.{Refusal}
use Rattle.refusal.specs.declared.Refusal.TheVariants as refusal
use Rattle.refusal.specs.declared.Refusal.TheVariants.{NotCarried, Stopped}
use Rattle.kind.specs.Kinds.{kind_for}
use Rattle.kind.specs.declared.CallKind.{CallKind}
use Rattle.link.specs.declared.Link.{Link}
use Rattle.link.specs.declared.Begun.{Begun}
use Rattle.link.specs.declared.Begun.TheVariants.{Waits, Complete}
use Rattle.link.specs.View.{own_room, nest_room, usable_of, view_of, begun_of, waiting_from, BeginDone, BeginNoneDone}
use Rattle.link.specs.Parts.{none_waits, free_of}
use Rattle.link.proofs.Limits.{usable_live, usable_held, usable_nested}

-- where no call is refused the link is usable and idle
pub free_idle : (l : Link) {u : Unit {0}} → free_of l ≡ Ok u → (usable_of l ≡ true) × (l.wait ≡ Idle)
free_idle l {u} e = go (usable_of l) refl l.wait refl e
  where
    go : (t : Bool) → usable_of l ≡ t → (w : Wait) → l.wait ≡ w → cond t (none_waits w) (Err Stopped) ≡ Ok u → (usable_of l ≡ true) × (l.wait ≡ Idle)
    go false live w is e = cc
    go true live (Waiting j) is e = cc
    go true live Idle is e = (live, is)

module _ (l : Link) (k : CallKind) where
  -- the answer as that of the rules, of a link that stays as it was
  abbrev AsBegun : List ℕ → List ℕ → Result Begun Refusal → Type 0
  AsBegun reply own a = rules.begin (view_of l reply own) (kind_for k) ≡ rules.begins (begun_of a) (view_of l reply own)

  -- a call that does not wait leaves the record given
  kept : (a : Result Begun Refusal) → (a ≡ Ok Waits → ⊥) →
      ((reply own : List ℕ) → AsBegun reply own a) →
      BeginDone l k (record { answer = a; link = l })
  kept a other e = record {
    answer = λ reply own. rw (e reply own);
    next = λ reply own. rw (e reply own);
    waits = λ w. absurd (other w);
    kept = λ _. refl;
  }

  waiting_usable : usable_of l ≡ true → 0 < longest (shape_of (kind_for k)) → usable_of (waiting_from l k) ≡ true
  unfolding usable_of
  waiting_usable u some =
      simp (usable_live l u, lt-ltb 0 (longest (shape_of (kind_for k))) some, lt-ltb l.held (own_room l.doing) (usable_held l u), lt-ltb l.nested (nest_room l.doing) (usable_nested l u))

  pub begin_refused : {r : Refusal} → free_of l ≡ Err r → BeginDone l k (record { answer = Err r; link = l })
  unfolding rules.begin rules.enters
  begin_refused {r} e = kept (Err r) (λ d. cc) (λ reply own. go reply own (usable_of l) refl l.wait refl e)
    where
      go : (reply own : List ℕ) (t : Bool) → usable_of l ≡ t → (w : Wait) → l.wait ≡ w → cond t (none_waits w) (Err Stopped) ≡ Err r → AsBegun reply own (Err r)
      go reply own false u w is e = let same : Stopped ≡ r = cc in subst (λ (r : Refusal). AsBegun reply own (Err r)) same (rw u)
      go reply own true u (Waiting j) is e = let same : refusal.Waiting ≡ r = cc in subst (λ (r : Refusal). AsBegun reply own (Err r)) same (rw (u, is))
      go reply own true u Idle is e = cc

  module _ {unit : Unit {0}} (free : free_of l ≡ Ok unit) where
    pub begin_complete : longest (shape_of (kind_for k)) ≡ 0 → BeginDone l k (record { answer = Ok Complete; link = l })
    unfolding rules.begin rules.enters
    begin_complete z =
        let f = free_idle l free in
        kept (Ok Complete) (λ d. cc) (λ reply own. rw (f.0, f.1, eq-eqb (longest (shape_of (kind_for k))) 0 z))

    pub begin_waits : (longest (shape_of (kind_for k)) ≡ 0 → ⊥) → BeginDone l k (record { answer = Ok Waits; link = waiting_from l k })
    unfolding rules.begin rules.enters
    begin_waits n0 =
        let f = free_idle l free in
        let e = ne_eqb (longest (shape_of (kind_for k))) 0 n0 in
        record {
          answer = λ reply own. rw (f.0, f.1, e);
          next = λ reply own. rw (waiting_usable f.0 (omega arith), f.0, f.1, e);
          waits = λ _. refl;
          kept = λ other. absurd (other refl);
        }

-- a call that is not carried: 4 comes last
pub none_begun : (l : Link) → BeginNoneDone l (record { answer = result_and (free_of l) (Err NotCarried); link = l })
unfolding rules.begin_none
none_begun l = record { answer = λ reply own. go reply own (usable_of l) refl l.wait refl; kept = refl }
  where
    go : (reply own : List ℕ) (t : Bool) → usable_of l ≡ t → (w : Wait) → l.wait ≡ w →
        begun_of (result_and (free_of l) (Err NotCarried)) ≡ (rules.begin_none (view_of l reply own)).answer
    go reply own false u w is = rw u
    go reply own true u (Waiting j) is = rw (u, is)
    go reply own true u Idle is = rw (u, is)
