-- What each outcome of a raw byte promises: one law for each.
use Rattle.link.specs.declared.Wait.{Wait}
use Rattle.link.specs.declared.Wait.TheVariants.{Idle, Waiting}
use Rattle.std.specs.Prelude.{Option, Some, None}
use Prim.Native.Nat.{ℕ, ◌+◌, ◌-◌, ◌*◌, ◌≤◌, ◌<◌, ◌/◌, ◌%◌}
use mathlib.Core.Path.{◌≡◌, refl, sym, ap, subst, ◌∙◌}
use mathlib.Core.Bool.{Bool, true, false, cond}
use mathlib.Core.List.{List, [], ◌∷◌}
use native.Mathlib.Omega.{arith}
use native.Mathlib.Nat.{le_of_lt}
use denote.Enum.Declared.{tag_of}
use lib.Dec.{eqb}
use lib.ListN.{length, take, set, length-drop, length-set}
use lib.Seq.{length-take-le, take-set-le, get_or-take, get_or-set_same, get_or-set_other}
use borrow.Author.Tests.{ltb-true, lt-ltb, eq-eqb, ne_eqb, eqb-true, eqb-false}
use Rattle.serial_rules.specs.Escape.{pending, data_byte, mark, piece_of}
use Rattle.serial_rules.specs.Body.{more, done, refused}
use Rattle.serial_rules.specs.Fields.{at}
use Rattle.serial_rules.specs.Reply.{shape_of, shape_turn}
use Rattle.serial_rules.specs.Link as rules
use Rattle.serial_rules.specs.Nest.{nest_of}
use Rattle.serial_rules.proofs.Lent.{take_next}
use Rattle.serial_rules.proofs.Shapes.{choice, more_fits, fixed_done, text_done}
use Rattle.serial_rules.proofs.Depth as depth
use Rattle.serial_rules.proofs.Nest.{nest_none, nest_top, nest_load, nest_save}
use Rattle.actions.specs.Actions.{action_for, meaning_for, opens_transfer}
use Rattle.actions.specs.declared.Target.{Target}
use Rattle.actions.specs.declared.Target.TheVariants.{Set, Execute, Load, Save}
use Rattle.actions.specs.declared.Action.{Action}
use Rattle.actions.specs.declared.Action.TheVariants.{Error, Event, Address, Block}
use Rattle.actions.specs.declared.Meaning.{Meaning}
use Rattle.actions.specs.declared.Meaning.TheVariants.{Starts}
use Rattle.kind.specs.Kinds.{kind_for}
use Rattle.kind.specs.declared.CallKind.{CallKind}
use Rattle.refusal.specs.declared.Refusal.TheVariants.{NotCarried, Misplaced, Stopped, BadField, TooDeep}
use Rattle.refusal.specs.Refusals.{number}
use Rattle.link.specs.declared.Link.{Link}
use Rattle.answers.specs.declared.Answer.{Answer}
use Rattle.answers.specs.declared.Answer.TheVariants as variant
use Rattle.link.specs.declared.Stepped.{Stepped}
use Rattle.link.specs.View.{wait_for, doing_for, reply_room, own_room, nest_room, usable_of, wait_lent, doing_lent, reply_after, own_after, StepDone}
use Rattle.answers.specs.Reports.{transfer_for, report_of, answer_for, failure_for, told_by}
use Rattle.link.specs.Parts.{refused_from, paused_from, going_from, nesting_from, resting_with}
use Rattle.link_step.specs.Parts.{placed_from, frame_of, doing_of, LinkGives, Met, ReadDone, MarkDone, OutsideDone, OpeningDone, StartDone, ClosingDone, DataDone, ReplyByteDone, OwnDone, finish_at, FinishedDone}
use Rattle.answers.specs.contracts.Answer as answers
use Rattle.answers.proofs.Reports.{told, answer_back, failure_told, failure_sized, failure_of_lem}
use Rattle.actions.proofs.Starts.{may_open}
use Rattle.link.proofs.Limits.{usable_got, usable_held, usable_nested, nested_low}

-- the five ways in which a step leaves the record
module _ (l : Link) (reply own : List ℕ) where
  refused_gives : (n : ℕ) → LinkGives l (rules.gives (rules.refusal n) rules.stopped) reply own (refused_from l n) reply own
  unfolding usable_of
  refused_gives n = record { step_is = refl; answer_is = refl; reply_bytes = refl; own_bytes = refl; stops = λ k e. refl }

  paused_gives : usable_of l ≡ true →
      LinkGives l (rules.gives rules.need_more (rules.live (rules.layer true (doing_of l own) (nest_of l.nested)) (frame_of l reply))) reply own (paused_from l) reply own
  unfolding usable_of
  paused_gives u = record {
    step_is =
        simp (
          lt-ltb l.got (reply_room l.wait) (usable_got l u),
          lt-ltb l.held (own_room l.doing) (usable_held l u),
          lt-ltb l.nested (nest_room l.doing) (usable_nested l u),
        );
    answer_is = refl;
    reply_bytes = refl;
    own_bytes = refl;
    stops = λ k e. absurd (told variant.More (omega arith) k e);
  }

  going_gives : (a : Answer) (d : Option Action) (n : ℕ) → usable_of l ≡ true → n < own_room d → l.nested < nest_room d → tag_of answers.the_type a < 11 → a ≡ answer_for (report_of a reply own) →
      LinkGives l (rules.gives (report_of a reply own) (rules.live (rules.layer false (doing_for d (take n own)) (nest_of l.nested)) (frame_of l reply))) reply own (going_from l a d n) reply own
  unfolding usable_of
  going_gives a d n u h m t is = record {
    step_is = simp (lt-ltb l.got (reply_room l.wait) (usable_got l u), lt-ltb n (own_room d) h, lt-ltb l.nested (nest_room d) m);
    answer_is = is;
    reply_bytes = refl;
    own_bytes = refl;
    stops = λ k e. absurd (told a t k e);
  }

  -- with no action open
  quiet_gives : (a : Answer) → usable_of l ≡ true → tag_of answers.the_type a < 11 → a ≡ answer_for (report_of a reply own) →
      LinkGives l (rules.gives (report_of a reply own) (rules.live (rules.layer false rules.none (nest_of l.nested)) (frame_of l reply))) reply own (going_from l a None 0) reply own
  quiet_gives a u t is = going_gives a None 0 u (omega arith) (omega (arith, nested_low l u)) t is

  nesting_gives : (a : Answer) (n : ℕ) → usable_of l ≡ true → n ≤ 30 → tag_of answers.the_type a < 11 → a ≡ answer_for (report_of a reply own) →
      LinkGives l (rules.gives (report_of a reply own) (rules.live (rules.layer false rules.none (nest_of n)) (frame_of l reply))) reply own (nesting_from l a n) reply own
  unfolding usable_of
  nesting_gives a n u m t is = record {
    step_is = simp (lt-ltb l.got (reply_room l.wait) (usable_got l u), lt-ltb n 31 (omega arith));
    answer_is = is;
    reply_bytes = refl;
    own_bytes = refl;
    stops = λ k e. absurd (told a t k e);
  }

  resting_gives : (a : Answer) (w : Wait) (n : ℕ) → n < reply_room w → tag_of answers.the_type a < 11 → a ≡ answer_for (report_of a reply own) →
      LinkGives l (rules.gives (report_of a reply own) (rules.live (rules.layer false rules.none []) (rules.frame (wait_for w) (take n reply)))) reply own (resting_with a w n) reply own
  unfolding usable_of
  resting_gives a w n h t is = record {
    step_is = simp (lt-ltb n (reply_room w) h, nest_none);
    answer_is = is;
    reply_bytes = refl;
    own_bytes = refl;
    stops = λ k e. absurd (told a t k e);
  }

-- What is promised of a byte, by what the actions do and by what waits: only that part of the record is looked at.
abbrev MarkAt : Link → List ℕ → List ℕ → ℕ → Stepped → Option Action → Type 0
MarkAt l reply own m x d = Met l reply own (rules.mark_seen (nest_of l.nested) (doing_for d (take l.held own)) m) x reply own

abbrev DataAt : Link → List ℕ → List ℕ → ℕ → Stepped → List ℕ → List ℕ → Option Action → Type 0
DataAt l reply own b x reply-left own-left d =
    Met l reply (doing_lent own (doing_for d (take l.held own)) b) (rules.data_seen (nest_of l.nested) (doing_for d (take l.held own)) b) x reply-left own-left

abbrev ReplyAt : Link → List ℕ → List ℕ → ℕ → Stepped → List ℕ → Wait → Type 0
ReplyAt l reply own b x left w =
    let m = rules.datum_met (frame_of l reply) (wait_for w) b in
    LinkGives l (rules.gives m.report (rules.link_at (rules.layer false rules.none []) m.next)) (wait_lent reply (wait_for w) (take l.got reply) b) own x left own

-- where an action may start there is room for what it opens
start_low : (n : ℕ) (a : Action) → n ≤ 30 → rules.may_start (action_for a) (nest_of n) ≡ true → n < nest_room (Some a)
start_low n a h may =
    choice (λ (k : ℕ). n < k) (opens_transfer a) (λ e. ltb-true n 15 (may_open n a e ∙ may)) (λ _. omega arith)

-- the transfer that an end closes, by the number of the open ones
parity : (n : ℕ) → cond (eqb (n % 2) 1) rules.load rules.save ≡ transfer_for (eqb (n % 2) 0)
parity n = go (eqb (n % 2) 1) refl
  where
    go : (t : Bool) → eqb (n % 2) 1 ≡ t → cond t rules.load rules.save ≡ transfer_for (eqb (n % 2) 0)
    go true e = rw (ne_eqb (n % 2) 0 (λ z. omega (arith, eqb-true (n % 2) 1 e))) refl
    go false e = let o = eqb-false (n % 2) 1 e in rw (eq-eqb (n % 2) 0 (omega arith)) refl

-- none is open, or some are
none_open : (l : Link) → l.nested ≡ 0 → nest_of l.nested ≡ []
none_open l z = ap nest_of z ∙ nest_none

open_top : (l : Link) → usable_of l ≡ true → (l.nested ≡ 0 → ⊥) → nest_of l.nested ≡ cond (eqb (l.nested % 2) 1) rules.load rules.save ∷ nest_of ((l.nested - 1) / 2)
open_top l u n0 = nest_top l.nested (omega arith) (nested_low l u)

-- a mark outside an action, by what it means
module _ (l : Link) {x : Stepped} where
  pub mark_unknown : x ≡ refused_from l (number NotCarried) → OutsideDone l rules.unknown x
  unfolding rules.meets
  mark_unknown q reply own = rw q (refused_gives l reply own (number NotCarried))

  pub end_alone : l.nested ≡ 0 → x ≡ refused_from l (number Misplaced) → ClosingDone l x
  unfolding rules.meets
  end_alone e q reply own = rw (none_open l e, q) (refused_gives l reply own (number Misplaced))

  pub fifth_refused : (a : Action) → rules.may_start (action_for a) (nest_of l.nested) ≡ false → x ≡ refused_from l (number TooDeep) → StartDone l a x
  unfolding rules.meets
  fifth_refused a may q reply own = rw (may, q) (refused_gives l reply own (number TooDeep))

  module _ (u : usable_of l ≡ true) where
    pub escape_told : {on : Bool} → x ≡ going_from l (variant.EscapeState on) None 0 → OutsideDone l (rules.state on) x
    unfolding rules.meets
    escape_told {on} q reply own = rw q (quiet_gives l reply own (variant.EscapeState on) u (omega arith) refl)

    -- an action starts: it has room for its bytes, and for the transfer that it opens
    pub started : (a : Action) → 0 < own_room (Some a) → rules.may_start (action_for a) (nest_of l.nested) ≡ true → x ≡ going_from l variant.More (Some a) 0 → StartDone l a x
    unfolding rules.meets
    started a some may q reply own =
        rw (may, q) (going_gives l reply own variant.More (Some a) 0 u some (start_low l.nested a (nested_low l u) may) (omega arith) refl)

    pub transfer_ended : (l.nested ≡ 0 → ⊥) → x ≡ nesting_from l (variant.Ended (eqb (l.nested % 2) 0)) ((l.nested - 1) / 2) → ClosingDone l x
    unfolding rules.meets
    transfer_ended n0 q reply own =
        let s = eqb (l.nested % 2) 0 in
        rw (open_top l u n0, parity l.nested, q)
        (nesting_gives l reply own (variant.Ended s) ((l.nested - 1) / 2) u (omega (arith, nested_low l u)) (omega arith) (answer_back (variant.Ended s) reply own tt))

-- an action that a mark starts has some bytes of its own
pub start_some : (m : ℕ) {w : Meaning} {a : Action} → meaning_for w ≡ rules.meaning_of m → w ≡ Starts a → 0 < own_room (Some a)
start_some m {w} {a} e is = subst depth.HasOwn (sym e ∙ ap meaning_for is) (depth.has_own m)

module _ (l : Link) (m : ℕ) {x : Stepped} where
  -- a mark outside an action is one of its meaning
  pub opening : {w v : Meaning} → meaning_for w ≡ rules.meaning_of m → w ≡ v → OutsideDone l (meaning_for v) x → OpeningDone l m x
  opening e is g = subst (λ (w : rules.Meaning). OutsideDone l w x) (sym (ap meaning_for is) ∙ e) g

  pub mark_outside_lem : l.doing ≡ None → OpeningDone l m x → MarkDone l m x
  mark_outside_lem e g reply own = subst (MarkAt l reply own m x) (sym e) (g reply own)

  pub mark_inside : {a : Action} → l.doing ≡ Some a → x ≡ refused_from l (number Misplaced) → MarkDone l m x
  unfolding rules.meets
  mark_inside e q reply own = subst (MarkAt l reply own m x) (sym e) (rw q (refused_gives l reply own (number Misplaced)))

-- a data byte outside an action: of the innermost transfer
module _ (l : Link) (reply : List ℕ) (b : ℕ) {x : Stepped} (u : usable_of l ≡ true) (n0 : l.nested ≡ 0 → ⊥) where
  pub data_loaded : l.nested % 2 ≡ 1 → x ≡ going_from l (variant.Loaded b) None 0 → ReplyByteDone l reply b x reply
  unfolding rules.meets
  data_loaded odd q own =
      let top : nest_of l.nested ≡ rules.load ∷ nest_of ((l.nested - 1) / 2) = open_top l u n0 ∙ rw (eq-eqb (l.nested % 2) 1 odd) refl in
      subst (λ (t : rules.Token). Met l reply own (rules.seen t (rules.layer false rules.none (nest_of l.nested))) x reply own) (sym (ap (λ (o : List rules.Transfer). rules.innermost o b) top))
      (rw q (quiet_gives l reply own (variant.Loaded b) u (omega arith) refl))

  pub data_saved : (l.nested % 2 ≡ 1 → ⊥) → x ≡ refused_from l (number BadField) → ReplyByteDone l reply b x reply
  unfolding rules.meets
  data_saved even q own =
      let top : nest_of l.nested ≡ rules.save ∷ nest_of ((l.nested - 1) / 2) = open_top l u n0 ∙ rw (ne_eqb (l.nested % 2) 1 even) refl in
      rw (top, q) (refused_gives l reply own (number BadField))

-- and outside every transfer
module _ (l : Link) (reply : List ℕ) (b : ℕ) {x : Stepped} (z : l.nested ≡ 0) where
  outer : {left : List ℕ} (own : List ℕ) → ReplyAt l reply own b x left l.wait → Met l reply own (rules.data_seen (nest_of l.nested) rules.none b) x left own
  unfolding rules.meets
  outer own g = rw (none_open l z) g

  pub character_told : usable_of l ≡ true → l.wait ≡ Idle → x ≡ going_from l (variant.Character b) None 0 → ReplyByteDone l reply b x reply
  unfolding rules.meets
  character_told u e q own =
      outer own (subst (ReplyAt l reply own b x reply) (sym e)
      (rw q (rw (none_open l z) at (quiet_gives l reply own (variant.Character b) u (omega arith) refl))))

  module _ {k : CallKind} (waits : l.wait ≡ Waiting k) (h : l.got < length reply) where
    pub reply_refused : {n : ℕ} → shape_turn (shape_of (kind_for k)) l.got b ≡ refused n → x ≡ refused_from l n → ReplyByteDone l reply b x reply
    reply_refused {n} t q own =
        outer own (subst (ReplyAt l reply own b x reply) (sym waits)
        (rw (length-take-le l.got reply (le_of_lt h), t, q) (refused_gives l reply own n)))

    pub reply_more : shape_turn (shape_of (kind_for k)) l.got b ≡ more → x ≡ resting_with variant.More (Waiting k) (l.got + 1) →
        ReplyByteDone l reply b x (set reply l.got b)
    reply_more t q own =
        outer own (subst (ReplyAt l reply own b x (set reply l.got b)) (sym waits)
        (rw (length-take-le l.got reply (le_of_lt h), t, q, ← take_next reply l.got b h)
        (resting_gives l (set reply l.got b) own variant.More (Waiting k) (l.got + 1) (more_fits (shape_of (kind_for k)) l.got b t) (omega arith) refl)))

    pub reply_ended : shape_turn (shape_of (kind_for k)) l.got b ≡ done → x ≡ resting_with (variant.Reply (l.got + 1)) Idle 0 →
        ReplyByteDone l reply b x (set reply l.got b)
    reply_ended t q own =
        outer own (subst (ReplyAt l reply own b x (set reply l.got b)) (sym waits)
        (rw (length-take-le l.got reply (le_of_lt h), t, q, ← take_next reply l.got b h)
        (resting_gives l (set reply l.got b) own (variant.Reply (l.got + 1)) Idle 0 (omega arith) (omega arith) (answer_back (variant.Reply (l.got + 1)) (set reply l.got b) own (simp length-set (omega arith))))))

-- the last byte of an action's own stands behind the others
at_before : (n b : ℕ) (own : List ℕ) (i : ℕ) → i < n → at (take n own) i ≡ at (set own n b) i
at_before n b own i h = get_or-take n own i 0 h ∙ sym (get_or-set_other own n i b 0 (λ e. omega arith))

finish_after : (a : Action) (n b : ℕ) (own : List ℕ) → n < rules.own_most (action_for a) → n < length own →
    shape_turn (rules.own_shape (action_for a)) n b ≡ done → rules.finish (action_for a) (take n own) b ≡ finish_at a n (set own n b)
finish_after Error n b own h room t = rw (take-set-le n own n b (omega arith))
finish_after Event n b own h room t =
    let e : n ≡ 2 = omega (arith, fixed_done 3 n b h t) in
    let last : at (set own 2 b) 2 ≡ b = get_or-set_same own 2 b 0 (omega arith) in
    rw (e, at_before 2 b own 0 (omega arith), at_before 2 b own 1 (omega arith), last)
finish_after (Address s) n b own h room t =
    let e : n ≡ 3 = omega (arith, fixed_done 4 n b h t) in
    let last : at (set own 3 b) 3 ≡ b = get_or-set_same own 3 b 0 (omega arith) in
    rw (e, at_before 3 b own 0 (omega arith), at_before 3 b own 1 (omega arith), at_before 3 b own 2 (omega arith), last)
finish_after (Block k) n b own h room t = ap (λ (s : List ℕ). rules.acted (rules.block s)) (sym (take_next own n b room))

-- a data byte of an open action's own
own_held : (l : Link) {a : Action} → l.doing ≡ Some a → usable_of l ≡ true → l.held < rules.own_most (action_for a)
own_held l is u = subst (λ (d : Option Action). l.held < own_room d) is (usable_held l u)

pub own_nested : (l : Link) {a : Action} → l.doing ≡ Some a → usable_of l ≡ true → l.nested < nest_room (Some a)
own_nested l is u = subst (λ (d : Option Action). l.nested < nest_room d) is (usable_nested l u)

-- an error does not end at its first byte
pub error_full : {a : Action} (n b : ℕ) → shape_turn (rules.own_shape (action_for a)) n b ≡ done → a ≡ Error → 1 ≤ n
error_full n b t is = text_done n b (subst (λ (a : Action). shape_turn (rules.own_shape (action_for a)) n b ≡ done) is t)

module _ (l : Link) (own : List ℕ) (b : ℕ) {x : Stepped} {a : Action} (is : l.doing ≡ Some a) (h : l.held < length own) where
  pub own_refused : {n : ℕ} → shape_turn (rules.own_shape (action_for a)) l.held b ≡ refused n → x ≡ refused_from l n → OwnDone l own b x own
  unfolding rules.meets
  own_refused {n} t q reply =
      subst (DataAt l reply own b x reply own) (sym is)
      (rw (length-take-le l.held own (le_of_lt h), t, q) (refused_gives l reply own n))

  module _ (u : usable_of l ≡ true) where
    pub own_more : shape_turn (rules.own_shape (action_for a)) l.held b ≡ more → x ≡ going_from l variant.More (Some a) (l.held + 1) →
        OwnDone l own b x (set own l.held b)
    unfolding rules.meets
    own_more t q reply =
        subst (DataAt l reply own b x reply (set own l.held b)) (sym is)
        (rw (length-take-le l.held own (le_of_lt h), t, q, ← take_next own l.held b h)
        (going_gives l reply (set own l.held b) variant.More (Some a) (l.held + 1) u (depth.own_fits (action_for a) l.held b (own_held l is u) t) (own_nested l is u) (omega arith) refl))

    pub own_ended : shape_turn (rules.own_shape (action_for a)) l.held b ≡ done → FinishedDone l a (set own l.held b) x →
        OwnDone l own b x (set own l.held b)
    own_ended t g reply =
        subst (DataAt l reply own b x reply (set own l.held b)) (sym is)
        (rw (length-take-le l.held own (le_of_lt h), t, finish_after a l.held b own (own_held l is u) h t) (g reply))

-- an action with all its bytes: an error, an event, a control block, four address bytes by what they are for
abbrev Ended : Link → List ℕ → Stepped → (Answer → Stepped) → Action → Type 0
Ended l own x f a = x ≡ f (told_by a l.held own) → FinishedDone l a own x

abbrev quietly : Link → Answer → Stepped
quietly l n = going_from l n None 0

placed : (l : Link) (own : List ℕ) {x : Stepped} → usable_of l ≡ true → (t : Target) → l.nested < nest_room (Some (Address t)) → Ended l own x (placed_from l t) (Address t)
unfolding rules.meets
placed l own u Set low q reply = rw q (quiet_gives l reply own (told_by (Address Set) 0 own) u (omega arith) refl)
placed l own u Execute low q reply = rw q (quiet_gives l reply own (told_by (Address Execute) 0 own) u (omega arith) refl)
placed l own u Load low q reply =
    rw (q, ← nest_load l.nested (omega arith)) (nesting_gives l reply own (told_by (Address Load) 0 own) (2 * l.nested + 1) u (omega arith) (omega arith) refl)
placed l own u Save low q reply =
    rw (q, ← nest_save l.nested (omega arith)) (nesting_gives l reply own (told_by (Address Save) 0 own) (2 * l.nested + 2) u (omega arith) (omega arith) refl)

module _ (l : Link) (own : List ℕ) {x : Stepped} {a : Action} where
  pub error_ended : a ≡ Error → 1 ≤ l.held → l.held ≤ length own → Ended l own x (λ n. resting_with n Idle 0) a
  unfolding rules.meets
  error_ended is low high =
      subst (Ended l own x (λ n. resting_with n Idle 0)) (sym is) (λ q reply.
      rw (q, ← failure_of_lem reply own l.held low high)
      (resting_gives l reply own (failure_for (at own 0) (l.held - 1)) Idle 0 (omega arith) (failure_told (at own 0) (l.held - 1))
      (failure_sized reply own (at own 0) (l.held - 1) (simp length-drop (omega arith)))))

  module _ (u : usable_of l ≡ true) where
    pub event_ended : a ≡ Event → Ended l own x (quietly l) a
    unfolding rules.meets
    event_ended is =
        subst (Ended l own x (quietly l)) (sym is) (λ q reply.
        rw q (quiet_gives l reply own (variant.Event (at own 0) (at own 1) (at own 2)) u (omega arith) refl))

    pub block_ended : {k : ℕ} → a ≡ Block k → l.held < length own → Ended l own x (quietly l) a
    unfolding rules.meets
    block_ended is h =
        subst (Ended l own x (quietly l)) (sym is) (λ q reply.
        rw q (quiet_gives l reply own (variant.Block (l.held + 1)) u (omega arith) (answer_back (variant.Block (l.held + 1)) reply own (omega arith))))

    pub address_ended : {t : Target} → a ≡ Address t → l.nested < nest_room (Some a) → Ended l own x (placed_from l t) a
    address_ended {t} is low =
        subst (Ended l own x (placed_from l t)) (sym is) (placed l own u t (subst (λ (b : Action). l.nested < nest_room (Some b)) is low))

-- any data byte
pub data_outside : (l : Link) (reply own : List ℕ) (b : ℕ) {x : Stepped} {left : List ℕ} → l.doing ≡ None → ReplyByteDone l reply b x left → DataDone l reply own b x left own
data_outside l reply own b {x} {left} e g = subst (DataAt l reply own b x left own) (sym e) (g own)

-- a raw byte
module _ (l : Link) (reply own : List ℕ) (raw : ℕ) where
  pub at_stopped : usable_of l ≡ false → StepDone l reply own raw (record { answer = variant.Refused (number Stopped); link = l }) reply own
  unfolding rules.step reply_after own_after
  at_stopped u = record {
    answer = rw u;
    answer_is = rw u;
    next = rw u;
    reply_bytes = rw u;
    own_bytes = rw u;
    kept = λ e. refl;
    stops = λ n runs e. absurd (runs (rw u));
  }

  -- what a usable link gives is what `step` promises
  pub at_usable : {x : Stepped} {reply-left own-left : List ℕ} → usable_of l ≡ true → ReadDone l reply own raw x reply-left own-left → StepDone l reply own raw x reply-left own-left
  unfolding rules.step rules.look reply_after own_after
  at_usable u g = record {
    answer = rw u (ap (λ (s : rules.Step). s.report) g.step_is);
    answer_is = rw u g.answer_is;
    next = rw u (ap (λ (s : rules.Step). s.next) g.step_is);
    reply_bytes = rw u g.reply_bytes;
    own_bytes = rw u g.own_bytes;
    kept = rw u (λ k. cc);
    stops = λ n _ r. g.stops n r;
  }

  module _ {x : Stepped} where
    pub read_pending : usable_of l ≡ true → piece_of l.escape raw ≡ pending → x ≡ paused_from l → ReadDone l reply own raw x reply own
    unfolding rules.meets
    read_pending u e q = rw (e, q) (paused_gives l reply own u)

    pub read_mark : {m : ℕ} → piece_of l.escape raw ≡ mark m → MarkDone l m x → ReadDone l reply own raw x reply own
    read_mark e g = rw e (g reply own)

    module _ {b : ℕ} {reply-left own-left : List ℕ} where
      pub read_data : piece_of l.escape raw ≡ data_byte b → DataDone l reply own b x reply-left own-left → ReadDone l reply own raw x reply-left own-left
      read_data e g = rw e g

      pub at_data : usable_of l ≡ true → piece_of l.escape raw ≡ data_byte b → DataDone l reply own b x reply-left own-left → StepDone l reply own raw x reply-left own-left
      at_data u e g = at_usable u (read_data e g)

    pub at_pending : usable_of l ≡ true → piece_of l.escape raw ≡ pending → x ≡ paused_from l → StepDone l reply own raw x reply own
    at_pending u e q = at_usable u (read_pending u e q)
