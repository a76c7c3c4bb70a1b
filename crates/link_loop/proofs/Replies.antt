-- Bytes of a reply taken one behind the other: each data byte is a step, or two where an escape stands before it.
use Rattle.link.specs.declared.Wait.TheVariants.{Idle, Waiting}
use Rattle.std.specs.Prelude.{None}
use Prim.Native.Nat.{ℕ, suc, ◌+◌, ◌-◌, ◌≤◌, ◌<◌}
use native.Mathlib.Numerals.{add-one}
use native.Mathlib.Omega.{arith}
use mathlib.Core.Path.{◌≡◌, refl, sym, ap, subst, ◌∙◌}
use mathlib.Core.Bool.{Bool, true, false, not, ◌&&◌}
use mathlib.Core.List.{List, [], ◌∷◌, ◌++◌}
use lib.Dec.{eqb}
use lib.ListN.{length, get_or, take, drop, set, replicate, length-drop, length-set, replicate-append-replicate}
use lib.Seq.{length-take-le, take-suc, take-add, length-sets}
use borrow.Author.Tests.{eqb-true, not-true, lt-ltb}
use Rattle.serial_rules.specs.Escape.{escape}
use Rattle.serial_rules.specs.Body.{more, done}
use Rattle.serial_rules.specs.Reply.{Shape, shape_of, shape_turn, longest}
use Rattle.serial_rules.specs.Link as rules
use Rattle.serial_rules.proofs.Trip.{and_both}
use Rattle.escape.specs.Units.{datum, unit_at}
use Rattle.escape.proofs.Units.{DataAt, plain, doubled, data_read, data_near}
use Rattle.turns.specs.Plain.{PlainDone}
use Rattle.turns.proofs.Plain.{done_plains, done_most, part_sets}
use Rattle.kind.specs.Kinds.{kind_for, reply_lent}
use Rattle.kind.specs.declared.CallKind.{CallKind}
use Rattle.shapes.specs.Ahead.{ahead_of}
use Rattle.shapes.specs.Shapes.{longest_shape}
use Rattle.shapes.proofs.Ahead.{ahead_fits}
use Rattle.link.specs.declared.Link.{Link}
use Rattle.answers.specs.declared.Answer.TheVariants as variant
use Rattle.link.specs.declared.Stepped.{Stepped}
use Rattle.link.specs.View.{usable_of}
use Rattle.answers.specs.Reports.{report_of}
use Rattle.link.specs.Parts.{resting_with}
use Rattle.link_step.specs.Parts.{ReplyByteDone}
use Rattle.link_step.proofs.Steps.{reply_more, reply_ended, data_outside, at_data, at_pending}
use Rattle.link_loop.specs.declared.Taken.{Taken}
use Rattle.link_loop.specs.Run.{Runs, stop}
use Rattle.link_loop.specs.Parts.{quietly, in_reply, mid_reply, taken_as, TakeDone}
use Rattle.link_loop.proofs.Chains.{runs_more, runs_join, tail_all}
use Rattle.link_loop.proofs.Loads.{quiet_is}
use Rattle.link_loop.proofs.Plains.{mid_steps}

-- so many raw bytes gave so many bytes of the reply
pub record Taking (k : CallKind) (from : ℕ) (reply₀ raw : List ℕ) (i got : ℕ) (reply : List ℕ) : Type 0 where
  pub within : i ≤ length raw
  pub size : length reply ≡ reply_lent
  pub small : got < 65536
  pub steps : (own : List ℕ) → Runs (mid_reply k from) reply₀ own (take i raw) (replicate i rules.need_more) (mid_reply k got) reply own

pub taking_none : (k : CallKind) (from : ℕ) {reply raw : List ℕ} → length reply ≡ reply_lent → from < 65536 → Taking k from reply raw 0 from reply
taking_none k from size small = record { within = omega arith; size = size; small = small; steps = λ own. stop }

-- need-more once more
waits_snoc : (n : ℕ) → replicate n rules.need_more ++ (rules.need_more ∷ []) ≡ replicate (suc n) rules.need_more
waits_snoc n = replicate-append-replicate n 1 rules.need_more ∙ ap (λ (m : ℕ). replicate m rules.need_more) (add-one n)

-- an escape was seen or not
abbrev seen : CallKind → ℕ → Bool → Link
seen k g e = record { wait = Waiting k; got = g; escape = e; doing = None; held = 0; nested = 0; stopped = false }

seen_usable : (k : CallKind) (g : ℕ) (e : Bool) → g < longest (shape_of (kind_for k)) → usable_of (seen k g e) ≡ true
unfolding usable_of
seen_usable k g e h = simp (lt-ltb g (longest (shape_of (kind_for k))) h)

-- the next bytes, where `shape` is how the reply ends
module _ {k : CallKind} {from i got : ℕ} {reply₀ raw reply : List ℕ} (shape : Shape) (is : shape_of (kind_for k) ≡ shape) (t : Taking k from reply₀ raw i got reply)
    (below : got < longest shape) where
  below_kind : got < longest (shape_of (kind_for k))
  below_kind = rw is below

  -- plain bytes
  pub taking_plain : {left : List ℕ} {r : ℕ} (size : ℕ) → size ≡ ahead_of shape got → got + size ≤ reply_lent
      → PlainDone (take (length raw - i) (drop i raw)) (take size (drop got reply)) r left
      → Taking k from reply₀ raw (i + r) (got + r) (take got reply ++ (left ++ drop size (drop got reply))) × (got + r < longest shape)
  taking_plain {left} {r} size ahead fits d =
      let e = subst (λ (s : List ℕ). PlainDone s (take size (drop got reply)) r left) (tail_all raw i) d in
      let part : length (take size (drop got reply)) ≡ size = length-take-le size (drop got reply) (simp length-drop (omega (arith, t.size))) in
      let most = done_most e in
      let n : length (take r (drop i raw)) ≡ r = length-take-le r (drop i raw) most.1 in
      let same = part_sets reply got size (omega (arith, t.size)) e in
      let top = ahead_fits shape got below in
      let same_ahead : ahead_of (shape_of (kind_for k)) got ≡ size = rw is (sym ahead) in
      let room : got + r ≤ reply_lent = omega (arith, most.0, part) in (
        record {
          within = omega (arith, most.1, length-drop i raw, t.within);
          size = rw (same, length-sets) t.size;
          small = omega arith;
          steps = λ own.
              rw (same, take-add i r raw, ← replicate-append-replicate i r rules.need_more)
              (runs_join (t.steps own) (rw n at (mid_steps k got (take r (drop i raw)) 0 got reply own (done_plains e) (omega arith) below_kind (omega (arith, most.0, part, same_ahead)) (omega (arith, t.size, room)))));
        },
        omega (arith, top, most.0, part),
      )

  -- one data byte: the raw bytes before its last need more
  record UnitTaken (n : ℕ) (x : Stepped) (left : List ℕ) : Type 0 where
    before : ℕ
    next : n ≡ suc before
    steps : (own : List ℕ) → Runs (mid_reply k from) reply₀ own (take n raw) (replicate before rules.need_more ++ (report_of x.answer left own ∷ [])) x.link left own

  unit_taken : {b n : ℕ} {x : Stepped} {left : List ℕ} → DataAt raw i b n → ((e : Bool) → ReplyByteDone (seen k got e) reply b x left) → UnitTaken n x left
  unit_taken {x = x} {left} (plain h e) g = record {
    before = i;
    next = add-one i;
    steps = λ own.
        rw (add-one i, take-suc raw i 0)
        (runs_more (t.steps own) (at_data (seen k got false) reply own (get_or raw i 0) (seen_usable k got false below_kind) (rw e) (data_outside (seen k got false) reply own (get_or raw i 0) refl (g false))));
  }
  unit_taken {x = x} {left} (doubled h e f) g = record {
    before = suc i;
    next = omega arith;
    steps = λ own.
        subst (λ (w : List rules.Report). Runs (mid_reply k from) reply₀ own (take (i + 1 + 1) raw) (w ++ (report_of x.answer left own ∷ [])) x.link left own) (waits_snoc i)
        (rw (add-one (i + 1), add-one i, take-suc raw (suc i) 0 (omega arith), take-suc raw i 0 (omega arith))
        (runs_more (runs_more (t.steps own) (at_pending (seen k got false) reply own (get_or raw i 0) (seen_usable k got false below_kind) (rw e) refl))
        (at_data (seen k got true) reply own (get_or raw (suc i) 0) (seen_usable k got true below_kind) (rw (← add-one i, f)) (data_outside (seen k got true) reply own escape refl (g true)))));
  }

  module _ {b n : ℕ} (u : unit_at raw i ≡ datum b n) (room : got < reply_lent) where
    pub taking_more : shape_turn shape got b ≡ more → Taking k from reply₀ raw n (got + 1) (set reply got b)
    taking_more e =
        let w = unit_taken {x = resting_with variant.More (Waiting k) (got + 1)} {left = set reply got b} (data_read raw i u)
        (λ s. reply_more (seen k got s) reply b refl refl (omega (arith, t.size)) (rw is e) refl) in
        record {
          within = (data_near raw i u).1;
          size = length-set reply got b ∙ t.size;
          small = omega arith;
          steps = λ own.
              subst (λ (m : List rules.Report). Runs (mid_reply k from) reply₀ own (take n raw) m (mid_reply k (got + 1)) (set reply got b) own)
              (waits_snoc w.before ∙ ap (λ (m : ℕ). replicate m rules.need_more) (sym w.next))
              (w.steps own);
        }

    pub taking_done : shape_turn shape got b ≡ done → TakeDone (mid_reply k from) reply₀ raw (taken_as n (got + 1) true) (set reply got b)
    taking_done e =
        let w = unit_taken {x = resting_with (variant.Reply (got + 1)) Idle 0} {left = set reply got b} (data_read raw i u)
        (λ s. reply_ended (seen k got s) reply b refl refl (omega (arith, t.size)) (rw is e) refl) in
        record {
          within = (data_near raw i u).1;
          small = omega arith;
          part = λ z. cc;
          all = λ _. record { before = w.before; filled = simp length-set (omega (arith, t.size)); steps = w.steps };
        }

-- plain bytes, by what the shape tells of them
pub copy_taken : {k : CallKind} {from i got top ahead r : ℕ} {reply₀ raw reply left : List ℕ} (shape : Shape) → shape_of (kind_for k) ≡ shape → Taking k from reply₀ raw i got reply
    → top ≡ longest shape → got < top → (ahead ≡ ahead_of shape got) × (got < longest shape → got + ahead ≤ longest_shape)
    → PlainDone (take (length raw - i) (drop i raw)) (take (got + ahead - got) (drop got reply)) r left
    → Taking k from reply₀ raw (i + r) (got + r) (take got reply ++ (left ++ drop (got + ahead - got) (drop got reply))) × (got + r < longest shape)
copy_taken {got = got} {ahead = ahead} shape is t all below a d =
    taking_plain shape is t (omega arith) (got + ahead - got) (omega (arith, a.0)) (omega (arith, a.1 (omega arith))) d

-- no further
pub taking_stops : {k : CallKind} {from i got : ℕ} {reply₀ raw reply : List ℕ} → Taking k from reply₀ raw i got reply
    → TakeDone (mid_reply k from) reply₀ raw (taken_as i got false) reply
taking_stops t = record {
  within = t.within;
  small = t.small;
  part = λ _ own. t.steps own;
  all = λ z. cc;
}

-- a link that takes no byte of a reply at once, and one that does
pub take_none : (l : Link) {reply raw : List ℕ} → l.got < 65536 → TakeDone l reply raw (taken_as 0 l.got false) reply
take_none l small = record {
  within = omega arith;
  small = small;
  part = λ _ own. stop;
  all = λ z. cc;
}

mid_is : (l : Link) {k : CallKind} → in_reply l ≡ true → l.wait ≡ Waiting k → l ≡ mid_reply k l.got
mid_is l h w =
    let p = and_both (not l.stopped) (not l.escape && (eqb l.nested 0 && (eqb l.held 0 && quietly l.doing))) h in
    let q = and_both (not l.escape) (eqb l.nested 0 && (eqb l.held 0 && quietly l.doing)) p.1 in
    let r = and_both (eqb l.nested 0) (eqb l.held 0 && quietly l.doing) q.1 in
    let s = and_both (eqb l.held 0) (quietly l.doing) r.1 in
    rw (w, not-true l.stopped p.0, not-true l.escape q.0, eqb-true l.nested 0 r.0, eqb-true l.held 0 s.0, quiet_is l.doing s.1)

pub take_mid : (l : Link) {k : CallKind} {reply raw left : List ℕ} {r : Taken} → in_reply l ≡ true → l.wait ≡ Waiting k → TakeDone (mid_reply k l.got) reply raw r left
    → TakeDone l reply raw r left
take_mid l {reply = reply} {raw} {left} {r} h w d = subst (λ (q : Link). TakeDone q reply raw r left) (sym (mid_is l h w)) d
