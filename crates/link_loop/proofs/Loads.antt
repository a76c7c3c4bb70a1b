-- Load bytes behind one that was noted: each is a step that leaves the link as it is, so that all of them are a chain of steps.
use Rattle.std.specs.Prelude.{Option, Some, None}
use Prim.Native.Nat.{ℕ, ◌+◌, ◌-◌, ◌%◌, ◌<◌}
use native.Mathlib.Omega.{arith}
use mathlib.Core.Path.{◌≡◌, refl, sym, ap, subst}
use mathlib.Core.Bool.{Bool, true, false, not, ◌&&◌}
use mathlib.Core.List.{List, [], ◌∷◌, map}
use lib.Dec.{eqb}
use lib.ListN.{length, take}
use borrow.Author.Tests.{eqb-false, not-true}
use Rattle.serial_rules.specs.Escape.{escape, data_byte, piece_of}
use Rattle.serial_rules.specs.Link as rules
use Rattle.serial_rules.proofs.Trip.{and_both}
use Rattle.turns.specs.Plain.{is_data, All, none, one}
use Rattle.turns.proofs.Plain.{run_all, run_most}
use Rattle.actions.specs.declared.Action.{Action}
use Rattle.link.specs.declared.Link.{Link}
use Rattle.answers.specs.declared.Answer.TheVariants as variant
use Rattle.link.specs.View.{own_room, usable_of, StepDone}
use Rattle.link.proofs.Limits.{usable_live, usable_held}
use Rattle.link_step.proofs.Steps.{data_loaded, data_outside, at_data}
use Rattle.notes.specs.declared.Log.{Log}
use Rattle.notes.specs.Notes.{longest_run, adds_all}
use Rattle.notes.specs.Logs.{joins, joinable, AddRunDone}
use Rattle.notes.proofs.Laws.{run_holds}
use Rattle.link_loop.specs.Run.{Runs, stop, took}
use Rattle.link_loop.specs.Parts.{quietly, in_load, LoadPassDone}

pub quiet_is : (d : Option Action) → quietly d ≡ true → d ≡ None
quiet_is None e = refl
quiet_is (Some a) e = cc

module _ (l : Link) (u : usable_of l ≡ true) (h : in_load l ≡ true) where
  odd : (l.nested % 2 ≡ 0 → ⊥) × (l.escape ≡ false) × (l.doing ≡ None)
  odd =
      let p = and_both (not (eqb (l.nested % 2) 0)) (not l.escape && quietly l.doing) h in
      let q = and_both (not l.escape) (quietly l.doing) p.1 in
      (eqb-false (l.nested % 2) 0 (not-true (eqb (l.nested % 2) 0) p.0), not-true l.escape q.0, quiet_is l.doing q.1)

  none_held : l.held ≡ 0
  none_held = let b = subst (λ (d : Option Action). l.held < own_room d) odd.2 (usable_held l u) in omega arith

  same : l ≡ record { wait = l.wait; got = l.got; escape = false; doing = None; held = 0; nested = l.nested; stopped = false }
  same = rw (odd.1, odd.2, none_held, usable_live l u)

  load_step : (reply own : List ℕ) (b : ℕ) → is_data b ≡ true → StepDone l reply own b (record { answer = variant.Loaded b; link = l }) reply own
  load_step reply own b e =
      let n0 : l.nested ≡ 0 → ⊥ = λ z. odd.0 (rw z) in
      let p : piece_of l.escape b ≡ data_byte b = rw (odd.1, not-true (eqb b escape) e) in
      at_data l reply own b u p
      (data_outside l reply own b odd.2 (data_loaded l reply b u n0 (omega (arith, odd.0)) (ap (λ (q : Link). record { answer = variant.Loaded b; link = q }) same)))

  load_steps : (reply own w : List ℕ) → All is_data w → Runs l reply own w (map rules.loaded w) l reply own
  load_steps reply own [] none = stop
  load_steps reply own (b ∷ w) (one e p) = took (load_step reply own b e) (load_steps reply own w p)

-- What `pass_load` promises: of a link in a load, and of any other.
module _ (l : Link) {log : Log} {raw room content : List ℕ} where
  pub load_none : LoadPassDone l log raw room content log room content
  unfolding adds_all
  load_none =
      let z : log.run - log.run ≡ 0 = omega arith in
      record { grows = omega arith; within = omega arith; steps = λ reply own. rw z stop; adds_them = λ g room₀ content₀ h. rw z h }

  pub load_joined : {r : Log} {room-left content-left : List ℕ} → usable_of l ≡ true → in_load l ≡ true → AddRunDone log raw room content r room-left content-left
      → LoadPassDone l log raw room content r room-left content-left
  load_joined {r} {room-left} {content-left} u h d = go (joinable log (length raw)) refl
    where
      go : (t : Bool) → joinable log (length raw) ≡ t → LoadPassDone l log raw room content r room-left content-left
      go false off =
          let e = d.beyond off in
          subst (λ (x : Log). LoadPassDone l log raw room content x room-left content-left) (sym e.0)
          (subst (λ (x : List ℕ). LoadPassDone l log raw room content log x content-left) (sym e.1)
          (subst (λ (x : List ℕ). LoadPassDone l log raw room content log room x) (sym e.2) load_none))
      go true on =
          let j = d.adds_it on in
          let n = joins log raw in
          let grew : r.run ≡ log.run + n = ap (λ (x : Log). x.run) j.grew in
          let is : r.run - log.run ≡ n = omega arith in
          let most = run_most is_data (longest_run - log.run) raw in
          record {
            grows = omega arith;
            within = omega (arith, most.1);
            steps = λ reply own. rw is (load_steps l u h reply own (take n raw) (run_all is_data (longest_run - log.run) raw));
            adds_them = λ g room₀ content₀ w. rw is (run_holds on j g room₀ content₀ w);
          }
