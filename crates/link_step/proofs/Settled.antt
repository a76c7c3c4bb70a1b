-- What `step` promises settles all that it does: two results that it allows are one, and so are the lent bytes that they leave. The rules give the
-- answer and the bytes; a link that is stopped is settled by name, and any other has all its fields in its view.
use Rattle.link.specs.declared.Wait.{Wait}
use Rattle.link.specs.declared.Wait.TheVariants.{Idle, Waiting}
use Rattle.std.specs.Prelude.{Option, Some, None}
use Prim.Native.Nat.{ℕ, ◌≤◌, ◌<◌}
use mathlib.Core.Path.{◌≡◌, refl, sym, ap, ap₂, subst, ◌∙◌}
use mathlib.Core.Bool.{Bool, true, false}
use mathlib.Core.List.{List}
use native.Mathlib.Omega.{arith}
use lib.Dec.{ltb}
use lib.ListN.{length, take}
use lib.Seq.{length-take-le}
use borrow.Author.Tests.{ltb-true}
use Rattle.serial_rules.specs.Escape.{Piece, pending, data_byte, mark, piece_of}
use Rattle.serial_rules.specs.Body.{Turn, more, done, refused}
use Rattle.serial_rules.specs.Reply as kinds
use Rattle.serial_rules.specs.Reply.{shape_of, shape_turn, longest}
use Rattle.serial_rules.specs.Link as rules
use Rattle.serial_rules.proofs.Lent.{turn_length}
use Rattle.serial_rules.proofs.Shapes.{choice}
use Rattle.serial_rules.proofs.Nest.{nest_number, nest_back}
use Rattle.kind.specs.Kinds.{kind_for, reply_lent}
use Rattle.kind.specs.declared.CallKind.{CallKind}
use Rattle.kind.specs.declared.CallKind.TheVariants.{Osrdch, Oscli, OsbyteLow, OsbyteHigh, Osword, Osword0, Osargs, Osbget, Osbput, OsfindClose, OsfindOpen, Osfile, Osgbpb}
use Rattle.actions.specs.Actions.{action_for}
use Rattle.actions.specs.declared.Action.{Action}
use Rattle.actions.specs.declared.Action.TheVariants.{Error, Event, Address, Block}
use Rattle.actions.specs.declared.Target.TheVariants.{Set, Execute, Load, Save}
use Rattle.link.specs.declared.Link.{Link}
use Rattle.answers.specs.declared.Answer.{Answer}
use Rattle.link.specs.declared.Stepped.{Stepped}
use Rattle.link.specs.View.{wait_for, doing_for, reply_room, own_room, usable_of, own_lent, view_of, wait_lent, token_lent, reply_after, piece_lent, own_after, stopped_from, StepDone}
use Rattle.answers.specs.Reports.{target_back, answer_for}
use Rattle.link.proofs.Limits.{usable_live, usable_got, usable_held, nested_low}

-- the parts of a record from those of its view: no two have one view
abbrev kind_back : kinds.Kind → CallKind
kind_back kinds.osrdch = Osrdch
kind_back kinds.oscli = Oscli
kind_back kinds.osbyte_low = OsbyteLow
kind_back kinds.osbyte_high = OsbyteHigh
kind_back (kinds.osword n) = Osword n
kind_back kinds.osword0 = Osword0
kind_back kinds.osargs = Osargs
kind_back kinds.osbget = Osbget
kind_back kinds.osbput = Osbput
kind_back kinds.osfind_close = OsfindClose
kind_back kinds.osfind_open = OsfindOpen
kind_back kinds.osfile = Osfile
kind_back kinds.osgbpb = Osgbpb

kind_back_lem : (k : CallKind) → kind_back (kind_for k) ≡ k
kind_back_lem Osrdch = refl
kind_back_lem Oscli = refl
kind_back_lem OsbyteLow = refl
kind_back_lem OsbyteHigh = refl
kind_back_lem (Osword n) = refl
kind_back_lem Osword0 = refl
kind_back_lem Osargs = refl
kind_back_lem Osbget = refl
kind_back_lem Osbput = refl
kind_back_lem OsfindClose = refl
kind_back_lem OsfindOpen = refl
kind_back_lem Osfile = refl
kind_back_lem Osgbpb = refl

abbrev wait_back : rules.Wait → Wait
wait_back rules.idle = Idle
wait_back (rules.waiting k) = Waiting (kind_back k)

wait_back_lem : (w : Wait) → wait_back (wait_for w) ≡ w
wait_back_lem Idle = refl
wait_back_lem (Waiting k) = ap Waiting (kind_back_lem k)

abbrev action_back : rules.Action → Action
action_back rules.failing = Error
action_back rules.signal = Event
action_back (rules.place t) = Address (target_back t)
action_back (rules.control n) = Block n

action_back_lem : (a : Action) → action_back (action_for a) ≡ a
action_back_lem Error = refl
action_back_lem Event = refl
action_back_lem (Address Set) = refl
action_back_lem (Address Execute) = refl
action_back_lem (Address Load) = refl
action_back_lem (Address Save) = refl
action_back_lem (Block n) = refl

abbrev doing_back : rules.Doing → Option Action
doing_back rules.none = None
doing_back (rules.own a h) = Some (action_back a)

doing_back_lem : (d : Option Action) (h : List ℕ) → doing_back (doing_for d h) ≡ d
doing_back_lem None h = refl
doing_back_lem (Some a) h = ap Some (action_back_lem a)

abbrev held_in : rules.Doing → ℕ
held_in rules.none = 0
held_in (rules.own a h) = length h

held_back : (d : Option Action) (n : ℕ) (own : List ℕ) → n < own_room d → n ≤ length own → held_in (doing_for d (take n own)) ≡ n
held_back None n own h room = omega arith
held_back (Some a) n own h room = length-take-le n own room

abbrev link_back : rules.Layer → rules.Frame → Link
link_back y f =
    record { wait = wait_back f.wait; got = length f.got; escape = y.escape; doing = doing_back y.doing; held = held_in y.doing; nested = nest_number y.stack; stopped = false }

-- the link that a step leaves, by the view of it: a usable record, and else the one given, stopped
abbrev leaves : Link → rules.Link → Link
leaves l rules.stopped = stopped_from l
leaves l (rules.live y f) = link_back y f

module _ (l : Link) (reply own : List ℕ) (u : usable_of l ≡ true) (got : l.got ≤ length reply) (held : l.held ≤ length own) where
  link_back_lem : (m : Link) → leaves m (view_of l reply own) ≡ l
  link_back_lem m =
      let live = usable_live l u in
      rw (
        u,
        wait_back_lem l.wait,
        length-take-le l.got reply got,
        doing_back_lem l.doing (take l.held own),
        held_back l.doing l.held own (usable_held l u) held,
        nest_back l.nested (nested_low l u),
        ← live,
      )

-- lent bytes stay as many
reply_length : (v : rules.Link) (x : ℕ) (reply : List ℕ) → length (reply_after v x reply) ≡ length reply
unfolding reply_after
reply_length rules.stopped x reply = refl
reply_length (rules.live y f) x reply = go (rules.look y x).token
  where
    waited : (w : rules.Wait) (b : ℕ) → length (wait_lent reply w f.got b) ≡ length reply
    waited rules.idle b = refl
    waited (rules.waiting k) b = turn_length reply (length f.got) b (shape_turn (shape_of k) (length f.got) b)

    go : (t : rules.Token) → length (token_lent reply f t) ≡ length reply
    go rules.underway = refl
    go (rules.datum b) = waited f.wait b
    go (rules.acted r) = refl
    go (rules.failed r) = refl
    go (rules.bad n) = refl

own_length : (v : rules.Link) (x : ℕ) (own : List ℕ) → length (own_after v x own) ≡ length own
unfolding own_after
own_length rules.stopped x own = refl
own_length (rules.live y f) x own = go y.doing (piece_of y.escape x)
  where
    go : (d : rules.Doing) (p : Piece) → length (piece_lent own d p) ≡ length own
    go d pending = refl
    go rules.none (data_byte b) = refl
    go (rules.own a h) (data_byte b) = turn_length own (length h) b (shape_turn (rules.own_shape a) (length h) b)
    go d (mark m) = refl

-- no action needs more bytes of its own than are lent
own_fits : (d : Option Action) → own_room d ≤ own_lent
own_fits None = omega arith
own_fits (Some Error) = omega arith
own_fits (Some Event) = omega arith
own_fits (Some (Address t)) = omega arith
own_fits (Some (Block n)) = choice (λ (k : ℕ). k ≤ own_lent) (ltb n 0x80) (λ low. omega (arith, ltb-true n 0x80 low)) (λ _. omega arith)

-- what waits after a step waited before it, or nothing does, so that the most bytes of its reply stay below a limit
abbrev wait_room : rules.Wait → ℕ
wait_room rules.idle = 1
wait_room (rules.waiting k) = longest (shape_of k)

room_is : (w : Wait) → wait_room (wait_for w) ≡ reply_room w
room_is Idle = refl
room_is (Waiting k) = refl

abbrev room_in : rules.Link → ℕ
room_in rules.stopped = 1
room_in (rules.live y f) = wait_room f.wait

room_kept : (v : rules.Link) (x : ℕ) → room_in v ≤ reply_lent → room_in (rules.step v x).next ≤ reply_lent
unfolding rules.step rules.meets
room_kept rules.stopped x h = h
room_kept (rules.live y f) x h = go (rules.look y x).token
  where
    next : rules.Layer
    next = (rules.look y x).next

    turned : (k : kinds.Kind) (b : ℕ) (t : Turn) → wait_room (rules.waiting k) ≤ reply_lent → room_in (rules.link_at next (rules.reply_turned k f.got b t).next) ≤ reply_lent
    turned k b more m = m
    turned k b done m = omega arith
    turned k b (refused n) m = omega arith

    waited : (w : rules.Wait) (b : ℕ) → wait_room w ≤ reply_lent → room_in (rules.link_at next (rules.datum_met f w b).next) ≤ reply_lent
    waited rules.idle b m = h
    waited (rules.waiting k) b m = turned k b (shape_turn (shape_of k) (length f.got) b) m

    go : (t : rules.Token) → room_in (rules.link_at next (rules.meets f t).next) ≤ reply_lent
    go rules.underway = h
    go (rules.datum b) = waited f.wait b h
    go (rules.acted r) = h
    go (rules.failed r) = omega arith
    go (rules.bad n) = omega arith

-- only a refusal stops a link
pub data Refuses : rules.Report → Type 0 where
  refuses : (n : ℕ) → Refuses (rules.refusal n)

never : {y : rules.Layer} {f : rules.Frame} → rules.live y f ≡ rules.stopped → ⊥
never e = cc

pub stops : (v : rules.Link) (x : ℕ) → (rules.step v x).next ≡ rules.stopped → Refuses (rules.step v x).report
unfolding rules.step rules.meets
stops rules.stopped x e = refuses 7
stops (rules.live y f) x e = go (rules.look y x).token e
  where
    next : rules.Layer
    next = (rules.look y x).next

    turned : (k : kinds.Kind) (b : ℕ) (t : Turn) → rules.link_at next (rules.reply_turned k f.got b t).next ≡ rules.stopped →
        Refuses (rules.reply_turned k f.got b t).report
    turned k b more e = absurd (never e)
    turned k b done e = absurd (never e)
    turned k b (refused n) e = refuses n

    waited : (w : rules.Wait) (b : ℕ) → rules.link_at next (rules.datum_met f w b).next ≡ rules.stopped → Refuses (rules.datum_met f w b).report
    waited rules.idle b e = absurd (never e)
    waited (rules.waiting k) b e = turned k b (shape_turn (shape_of k) (length f.got) b) e

    go : (t : rules.Token) → rules.link_at next (rules.meets f t).next ≡ rules.stopped → Refuses (rules.meets f t).report
    go rules.underway e = absurd (never e)
    go (rules.datum b) e = waited f.wait b e
    go (rules.acted r) e = absurd (never e)
    go (rules.failed r) e = absurd (never e)
    go (rules.bad n) e = refuses n

-- a step on as many lent bytes as the types of `step` say: the link that it leaves
module _ (l : Link) (reply own : List ℕ) (x : ℕ) (lent : length reply ≡ reply_lent) (given : length own ≡ own_lent) (fits : reply_room l.wait ≤ reply_lent) where
  room : room_in (view_of l reply own) ≤ reply_lent
  room = go (usable_of l) refl
    where
      go : (t : Bool) → usable_of l ≡ t → room_in (view_of l reply own) ≤ reply_lent
      go true u = rw (u, room_is l.wait) fits
      go false u = rw u (omega arith)

  module _ {o : Stepped} {reply-left own-left : List ℕ} (d : StepDone l reply own x o reply-left own-left) where
    -- a usable record that is left has its counts within the lent bytes
    left_is : usable_of o.link ≡ true → o.link ≡ leaves l (rules.step (view_of l reply own) x).next
    left_is u =
        let v = view_of l reply own in
        let n = o.link in
        let most : room_in (view_of n reply-left own-left) ≤ reply_lent = subst (λ (q : rules.Link). room_in q ≤ reply_lent) (sym d.next) (room_kept v x room) in
        let wait : reply_room n.wait ≤ reply_lent = rw (u, room_is n.wait) at most in
        let replies : length reply-left ≡ length reply = ap length d.reply_bytes ∙ reply_length v x reply in
        let owns : length own-left ≡ length own = ap length d.own_bytes ∙ own_length v x own in
        let got : n.got ≤ length reply-left = omega (arith, usable_got n u, wait, replies, lent) in
        let held : n.held ≤ length own-left = omega (arith, usable_held n u, own_fits n.doing, owns, given) in
        sym (link_back_lem n reply-left own-left u got held l) ∙ ap (leaves l) d.next

    refused_is : {r : rules.Report} → Refuses r → (view_of l reply own ≡ rules.stopped → ⊥) → o.answer ≡ answer_for r → o.link ≡ stopped_from l
    refused_is (refuses n) runs e = d.stops n runs e

    link_is : usable_of l ≡ true → o.link ≡ leaves l (rules.step (view_of l reply own) x).next
    link_is u = go (usable_of o.link) refl
      where
        runs : view_of l reply own ≡ rules.stopped → ⊥
        runs = rw u never

        go : (t : Bool) → usable_of o.link ≡ t → o.link ≡ leaves l (rules.step (view_of l reply own) x).next
        go true w = left_is w
        go false w =
            let off : view_of o.link reply-left own-left ≡ rules.stopped = rw w in
            let e : rules.stopped ≡ (rules.step (view_of l reply own) x).next = sym off ∙ d.next in
            refused_is (stops (view_of l reply own) x (sym e)) runs d.answer_is ∙ ap (leaves l) e

abbrev pair : Answer → Link → Stepped
pair a n = record { answer = a; link = n }

-- The hypotheses are those of the types of `step`: so many bytes are lent, and a reply fits into them, as that of any kind does whose out length
-- is a byte.
pub settled : {l : Link} {reply own reply-left own-left reply-end own-end : List ℕ} {x : ℕ} {o p : Stepped} → length reply ≡ reply_lent → length own ≡ own_lent →
    reply_room l.wait ≤ reply_lent → StepDone l reply own x o reply-left own-left → StepDone l reply own x p reply-end own-end →
    (o ≡ p) × (reply-left ≡ reply-end) × (own-left ≡ own-end)
settled {l} {reply} {own} {x = x} {o} {p} lent given fits d e =
    (ap₂ pair (d.answer_is ∙ sym e.answer_is) (go (usable_of l) refl), d.reply_bytes ∙ sym e.reply_bytes, d.own_bytes ∙ sym e.own_bytes)
  where
    go : (t : Bool) → usable_of l ≡ t → o.link ≡ p.link
    go true u = link_is l reply own x lent given fits d u ∙ sym (link_is l reply own x lent given fits e u)
    go false u = let off : view_of l reply own ≡ rules.stopped = rw u in d.kept off ∙ sym (e.kept off)
