-- An action's own bytes, and how an action starts.
use Prim.Native.Nat.{ℕ, ◌+◌, ◌-◌, ◌≤◌, ◌<◌}
use native.Mathlib.Omega.{arith}
use mathlib.Core.Path.{◌≡◌, refl, sym, ap, subst, ◌∙◌}
use mathlib.Core.Bool.{Bool, true, false, cond}
use mathlib.Core.List.{List, [], ◌∷◌, ◌++◌}
use lib.Dec.{eqb, ltb}
use lib.ListN.{length, take, set, length-drop, length-set}
use lib.Seq.{length-take-le, take-set-le, get_or-take, get_or_at}
use borrow.Author.Tests.{lt-ltb, ltb-true, leb-true, leb-false}
use Rattle.escape.specs.Units as units
use Rattle.escape.specs.Units.{unit_at}
use Rattle.escape.proofs.Units.{data_near, mark_near}
use Rattle.serial_rules.specs.Body.{Turn, more, done, refused}
use Rattle.serial_rules.specs.Fields.{at}
use Rattle.serial_rules.specs.Reply.{shape_turn}
use Rattle.serial_rules.specs.Link as rules
use Rattle.serial_rules.specs.Record.{closed, passes}
use Rattle.serial_rules.proofs.Depth.{own_fits}
use Rattle.serial_rules.proofs.Lent.{take_next}
use Rattle.serial_rules.proofs.Shapes.{choice, fixed_done, text_done}
use Rattle.actions.specs.Actions.{target_for, action_for}
use Rattle.actions.specs.declared.Target.{Target}
use Rattle.actions.specs.declared.Target.TheVariants.{Set, Execute, Load, Save}
use Rattle.actions.specs.declared.Action.{Action}
use Rattle.actions.specs.declared.Action.TheVariants.{Error, Event, Address, Block}
use Rattle.refusal.specs.declared.Refusal.TheVariants.{NotCarried, Misplaced, TooDeep}
use Rattle.refusal.specs.Refusals.{number}
use Rattle.answers.specs.declared.Answer.{Answer}
use Rattle.answers.specs.declared.Answer.TheVariants as variant
use Rattle.link.specs.View.{own_lent}
use Rattle.answers.specs.Reports.{transfer_for, report_of, failure_for, told_by}
use Rattle.answers.proofs.Reports.{failure_sized, failure_of_lem}
use Rattle.action_bytes.specs.Walk as walk
use Rattle.action_bytes.specs.Walk.{Own}
use Rattle.action_bytes.specs.Parts.{outcome_of, Ends, WholeDone, HaltedDone, finish_of, BeganHalt, BeganTold, BeganOpens, BeganDone, is_fifth}
use Rattle.action_bytes.proofs.Walk as laws

-- Answers that end the reading inside the actions.
pub ends_more : {own : List ℕ} → Ends variant.More own
ends_more = record { same = λ reply. refl; sized = refl }

pub ends_refused : {own : List ℕ} (n : ℕ) → Ends (variant.Refused n) own
ends_refused n = record { same = λ reply. refl; sized = refl }

-- no action has more bytes of its own than are lent
own_most_lem : (a : rules.Action) → rules.own_most a ≤ own_lent
own_most_lem rules.failing = omega arith
own_most_lem rules.signal = omega arith
own_most_lem (rules.place t) = omega arith
own_most_lem (rules.control n) = choice (λ (m : ℕ). m ≤ 257) (ltb n 0x80) (λ e. omega (arith, ltb-true n 0x80 e)) (λ _. omega arith)

-- An action's own bytes, `held` of them so far.
pub record Owning (s : List ℕ) (a : Action) (from i : ℕ) (own : List ℕ) (held : ℕ) : Type 0 where
  pub chain : (v : walk.Owned) → Own s (action_for a) i (take held own) v → Own s (action_for a) from [] v
  pub far : from + held ≤ i
  pub near : i ≤ length s
  pub short : held < rules.own_most (action_for a)
  pub size : length own ≡ own_lent

pub own_starts : {s : List ℕ} {a : Action} {from : ℕ} {own : List ℕ} → from ≤ length s → length own ≡ own_lent → 0 < rules.own_most (action_for a)
    → Owning s a from from own 0
own_starts le e some = record { chain = λ v q. q; far = omega arith; near = le; short = some; size = e }

pub own_below : {s : List ℕ} {a : Action} {from i : ℕ} {own : List ℕ} {held : ℕ} → Owning s a from i own held → held < 257
own_below {a = a} v = omega (arith, v.short, own_most_lem (action_for a))

module _ {s : List ℕ} {a : Action} {from i : ℕ} {own : List ℕ} {held : ℕ} (v : Owning s a from i own held) where
  pub own_ran_out : unit_at s i ≡ units.gone → HaltedDone s a from own variant.More (length s)
  own_ran_out u = record { says = v.chain _ (laws.own_gone s (action_for a) i (take held own) v.near u); ends = ends_more; far = omega (arith, v.far, v.near); near = omega arith }

  pub own_marked : {m n : ℕ} → unit_at s i ≡ units.mark m n → HaltedDone s a from own (variant.Refused (number Misplaced)) n
  own_marked u =
      let k = mark_near s i u in
      record { says = v.chain _ (laws.own_mark s (action_for a) i (take held own) v.near u); ends = ends_refused (number Misplaced); far = omega (arith, v.far); near = k.1 }

  turn : (b : ℕ) {t : Turn} → shape_turn (rules.own_shape (action_for a)) held b ≡ t
      → shape_turn (rules.own_shape (action_for a)) (length (take held own)) b ≡ t
  turn b e =
      let n : length (take held own) ≡ held = length-take-le held own (omega (arith, v.size, own_below v)) in
      ap (λ (m : ℕ). shape_turn (rules.own_shape (action_for a)) m b) n ∙ e

  pub own_is_refused : {b n m : ℕ} → unit_at s i ≡ units.datum b n → shape_turn (rules.own_shape (action_for a)) held b ≡ refused m
      → HaltedDone s a from own (variant.Refused m) n
  own_is_refused {b} {m = m} u t =
      let k = data_near s i u in
      record { says = v.chain _ (laws.own_refused s (action_for a) i (take held own) v.near u (turn b t)); ends = ends_refused m; far = omega (arith, v.far); near = k.1 }

  stored : (b : ℕ) → take (held + 1) (set own held b) ≡ take held own ++ (b ∷ [])
  stored b = take_next own held b (omega (arith, v.size, own_below v))

  pub own_is_done : {b n : ℕ} → unit_at s i ≡ units.datum b n → shape_turn (rules.own_shape (action_for a)) held b ≡ done
      → WholeDone s a from (set own held b) held n
  own_is_done {b} {n} u t =
      let k = data_near s i u in
      let same : take held (set own held b) ≡ take held own = take-set-le held own held b (omega arith) in
      record {
        last = b;
        says = rw same (v.chain _ (laws.own_done s (action_for a) i (take held own) v.near u (turn b t)));
        ends = stored b ∙ ap (λ (l : List ℕ). l ++ (b ∷ [])) (sym same);
        turn = t;
        most = v.short;
        far = omega (arith, v.far);
        near = k.1;
      }

  pub own_goes_on : {b n : ℕ} → unit_at s i ≡ units.datum b n → shape_turn (rules.own_shape (action_for a)) held b ≡ more
      → Owning s a from n (set own held b) (held + 1)
  own_goes_on {b} {n} u t =
      let k = data_near s i u in
      record {
        chain = λ w x. v.chain w (laws.own_more s (action_for a) i (take held own) v.near u (turn b t) (subst (λ (h : List ℕ). Own s (action_for a) n h w) (stored b) x));
        far = omega (arith, v.far);
        near = k.1;
        short = own_fits (action_for a) held b v.short t;
        size = length-set own held b ∙ v.size;
      }

-- an error or restart, by its number and the length of its text
module _ (reply : List ℕ) where
  failure_closes : (own : List ℕ) (n k : ℕ) → outcome_of (failure_for n k) reply own ≡ closed (report_of (failure_for n k) [] own)
  failure_closes own n k = go (eqb n 0) (eqb k 0)
    where
      go : (t s : Bool) → let a = cond t (cond s variant.Restart (variant.Error n k)) (variant.Error n k) in outcome_of a reply own ≡ closed (report_of a [] own)
      go true true = refl
      go true false = refl
      go false s = refl

failure_stops : (h : List ℕ) → passes (rules.failure_of h) ≡ false
unfolding passes
failure_stops [] = refl
failure_stops (n ∷ []) = go (eqb n 0)
  where
    go : (t : Bool) → passes (cond t rules.restart (rules.error n [])) ≡ false
    go true = refl
    go false = refl
failure_stops (n ∷ b ∷ t) = refl

-- How an action starts: none opens a fifth transfer.
may_start_lem : (a : Action) (d : ℕ) → is_fifth a d ≡ false → (o : List rules.Transfer) → length o ≡ d → rules.may_start (action_for a) o ≡ true
may_start_lem Error d e o h = refl
may_start_lem Event d e o h = refl
may_start_lem (Address Set) d e o h = refl
may_start_lem (Address Execute) d e o h = refl
may_start_lem (Address Load) d e o h = let l = leb-false 4 d e in lt-ltb (length o) 4 (omega arith)
may_start_lem (Address Save) d e o h = let l = leb-false 4 d e in lt-ltb (length o) 4 (omega arith)
may_start_lem (Block n) d e o h = refl

pub fifth_starts : {s : List ℕ} {i : ℕ} {own : List ℕ} (a : Action) (d : ℕ) → i ≤ length s → is_fifth a d ≡ true
    → BeganHalt s d i (rules.starts (action_for a)) own (variant.Refused (number TooDeep)) i
fifth_starts Error d le e = cc
fifth_starts Event d le e = cc
fifth_starts (Address Set) d le e = cc
fifth_starts (Address Execute) d le e = cc
fifth_starts {s} {i} (Address Load) d le e = record { says = laws.act_fifth s d i rules.load (leb-true 4 d e); ends = ends_refused (number TooDeep); far = omega arith; near = le }
fifth_starts {s} {i} (Address Save) d le e = record { says = laws.act_fifth s d i rules.save (leb-true 4 d e); ends = ends_refused (number TooDeep); far = omega arith; near = le }
fifth_starts (Block n) d le e = cc

pub halted_starts : {s : List ℕ} {i : ℕ} {own : List ℕ} {answer : Answer} {k : ℕ} (a : Action) (d : ℕ) → is_fifth a d ≡ false
    → HaltedDone s a i own answer k
    → BeganHalt s d i (rules.starts (action_for a)) own answer k
halted_starts {s} {i} a d e h = record { says = laws.act_halted s d i (may_start_lem a d e) h.says; ends = h.ends; far = h.far; near = h.near }

-- with all its bytes
before : (own : List ℕ) (held j : ℕ) → j < held → at (take held own) j ≡ at own j
before own held j h = get_or-take held own j 0 h

block_most : (n held : ℕ) → held < rules.own_most (rules.control n) → held < 127
block_most n held = choice (λ (m : ℕ). held < m → held < 127) (ltb n 0x80) (λ e h. omega (arith, ltb-true n 0x80 e)) (λ _ h. absurd (omega arith))

module _ {s : List ℕ} {i : ℕ} {own : List ℕ} {held k : ℕ} (d : ℕ) (size : length own ≡ own_lent) where
  last_at : {a : Action} (w : WholeDone s a i own held k) → at own held ≡ w.last
  last_at {a} w =
      let n : length (take held own) ≡ held = length-take-le held own (omega (arith, size, w.most, own_most_lem (action_for a))) in
      sym (get_or-take (held + 1) own held 0 (omega arith)) ∙ ap (λ (l : List ℕ). at l held) w.ends ∙ get_or_at (take held own) w.last [] 0 held n

  error_starts : WholeDone s Error i own held k → BeganHalt s d i (rules.starts rules.failing) own (failure_for (at own 0) (held - 1)) k
  error_starts w =
      let low : 1 ≤ held = text_done held w.last w.turn in
      let high : held ≤ length own = omega (arith, size, w.most) in
      let is : outcome_of (failure_for (at own 0) (held - 1)) [] own ≡ closed (rules.failure_of (take held own)) =
      failure_closes [] own (at own 0) (held - 1) ∙ ap closed (failure_of_lem [] own held low high) in
      record {
        says = rw is (laws.act_error s d i (failure_stops (take held own)) w.says);
        ends = record {
          same = λ reply. failure_closes reply own (at own 0) (held - 1) ∙ sym (failure_closes [] own (at own 0) (held - 1));
          sized = rw (failure_closes [] own (at own 0) (held - 1)) (failure_sized [] own (at own 0) (held - 1) (simp length-drop (omega arith)));
        };
        far = omega (arith, w.far);
        near = w.near;
      }

  event_starts : WholeDone s Event i own held k → BeganTold s d i (rules.starts rules.signal) own (variant.Event (at own 0) (at own 1) (at own 2)) k
  unfolding passes
  event_starts w =
      let e : held ≡ 2 = omega (arith, fixed_done 3 held w.last w.most w.turn) in
      let is : rules.finish rules.signal (take held own) w.last ≡ rules.acted (rules.event (at own 0) (at own 1) (at own 2)) =
      rw (before own held 0 (omega arith), before own held 1 (omega arith), ← last_at w, e) in
      record { says = laws.act_told s d i _ (λ o. (refl, refl)) is refl refl w.says; own_data = (omega arith, omega arith); far = omega (arith, w.far); near = w.near }

  block_starts : (n : ℕ) → WholeDone s (Block n) i own held k → BeganTold s d i (rules.starts (rules.control n)) own (variant.Block (held + 1)) k
  unfolding passes
  block_starts n w =
      let is : rules.finish (rules.control n) (take held own) w.last ≡ rules.acted (rules.block (take (held + 1) own)) = rw w.ends in
      let m = block_most n held w.most in
      record { says = laws.act_told s d i _ (λ o. (refl, refl)) is refl refl w.says; own_data = (omega arith, omega arith); far = omega (arith, w.far); near = w.near }

  -- the four address bytes
  address_is : (t : Target) (w : WholeDone s (Address t) i own held k)
      → rules.address (target_for t) (at (take held own) 0) (at (take held own) 1) (at (take held own) 2) w.last ≡ rules.address (target_for t) (at own 0) (at own 1) (at own 2) (at own 3)
  address_is t w =
      let e : held ≡ 3 = omega (arith, fixed_done 4 held w.last w.most w.turn) in
      rw (before own held 0 (omega arith), before own held 1 (omega arith), before own held 2 (omega arith), ← last_at w, e)

  address_starts : (t : Target)
      → ((o : List rules.Transfer) → (rules.may_start (rules.place (target_for t)) o ≡ true) × (rules.opened (rules.place (target_for t)) o ≡ o))
      → WholeDone s (Address t) i own held k
      → BeganTold s d i (rules.starts (rules.place (target_for t))) own (variant.Address t (at own 0) (at own 1) (at own 2) (at own 3)) k
  unfolding passes
  address_starts t keeps w = record { says = laws.act_told s d i _ keeps (ap rules.acted (address_is t w)) refl refl w.says; own_data = (omega arith, omega arith); far = omega (arith, w.far); near = w.near }

  transfer_starts : (t : Target) (save : Bool) → target_for t ≡ rules.opening (transfer_for save) → d < 4 → WholeDone s (Address t) i own held k
      → BeganOpens s d i (rules.starts (rules.place (target_for t))) own save (variant.Address t (at own 0) (at own 1) (at own 2) (at own 3)) k
  transfer_starts t save e l w = record {
    says = λ g v b.
        rw (← address_is t w, e)
        (laws.act_opens s d i (transfer_for save) l (subst (λ (x : rules.Target). Own s (rules.place x) i [] (walk.whole (take held own) w.last k)) e w.says) b);
    own_data = refl;
    deep = l;
    far = omega (arith, w.far);
    near = w.near;
  }

  pub whole_starts : (a : Action) → is_fifth a d ≡ false → WholeDone s a i own held k
      → BeganDone s d i (rules.starts (action_for a)) own (finish_of a (told_by a held own) k)
  whole_starts Error e w = error_starts w
  whole_starts Event e w = event_starts w
  whole_starts (Address Set) e w = address_starts Set (λ o. (refl, refl)) w
  whole_starts (Address Execute) e w = address_starts Execute (λ o. (refl, refl)) w
  whole_starts (Address Load) e w = transfer_starts Load false refl (leb-false 4 d e) w
  whole_starts (Address Save) e w = transfer_starts Save true refl (leb-false 4 d e) w
  whole_starts (Block n) e w = block_starts n w

-- a mark that starts no action
module _ (s : List ℕ) (d i : ℕ) (own : List ℕ) (le : i ≤ length s) where
  pub unknown_begins : BeganHalt s d i rules.unknown own (variant.Refused (number NotCarried)) i
  unknown_begins = record { says = laws.act_unknown s d i; ends = ends_refused (number NotCarried); far = omega arith; near = le }

  pub state_begins : (x : Bool) → BeganTold s d i (rules.state x) own (variant.EscapeState x) i
  state_begins x = record { says = laws.act_state s d i x; own_data = (omega arith, omega arith); far = omega arith; near = le }

pub end_begins : (s : List ℕ) (i : ℕ) (own : List ℕ) → i ≤ length s → BeganHalt s 0 i rules.end own (variant.Refused (number Misplaced)) i
end_begins s i own le = record { says = laws.act_end s 0 i refl; ends = ends_refused (number Misplaced); far = omega arith; near = le }
