-- How a link record with its lent bytes stands for the rules' link, and what a begun call and a step promise.
use Rattle.link.specs.declared.Wait.{Wait}
use Rattle.link.specs.declared.Wait.TheVariants.{Idle, Waiting}
use Rattle.std.specs.Prelude.{ℕ, ◌≡◌, Bool, true, false, cond, not, ◌&&◌, List, ltb, length, take, Option, Some, None, Result, Ok, Err}
use Rattle.serial_rules.specs.Escape as escape
use Rattle.serial_rules.specs.Lent.{turn_lent}
use Rattle.serial_rules.specs.Reply.{shape_of, shape_turn, longest}
use Rattle.serial_rules.specs.Link as rules
use Rattle.serial_rules.specs.Nest.{nest_of}
use Rattle.actions.specs.Actions.{action_for, opens_transfer}
use Rattle.kind.specs.Kinds.{kind_for}
use Rattle.kind.specs.declared.CallKind.{CallKind}
use Rattle.actions.specs.declared.Action.{Action}
use Rattle.refusal.specs.Refusals.{number}
use Rattle.refusal.specs.declared.Refusal.{Refusal}
use Rattle.link.specs.declared.Link.{Link}
use Rattle.answers.specs.declared.Answer.TheVariants as variant
use Rattle.answers.specs.Reports.{report_of, answer_for}
use Rattle.link.specs.declared.Stepped.{Stepped}
use Rattle.link.specs.declared.Begun.{Begun}
use Rattle.link.specs.declared.Begun.TheVariants.{Waits, Complete}
use Rattle.link.specs.declared.Started.{Started}

abbrev pub wait_for : Wait → rules.Wait
wait_for Idle = rules.idle
wait_for (Waiting kind) = rules.waiting (kind_for kind)

abbrev pub doing_for : Option Action → List ℕ → rules.Doing
doing_for None h = rules.none
doing_for (Some a) h = rules.own (action_for a) h

-- how many reply bytes and own bytes a record may count to: an idle link has none of a reply, and no action has no byte of its own
abbrev pub reply_room : Wait → ℕ
reply_room Idle = 1
reply_room (Waiting kind) = longest (shape_of (kind_for kind))

abbrev pub own_room : Option Action → ℕ
own_room None = 1
own_room (Some a) = rules.own_most (action_for a)

-- the number of the open transfers: below 31 there are at most four of them, and below 15 at most three, so that an action may open one more
abbrev pub nest_room : Option Action → ℕ
nest_room None = 31
nest_room (Some a) = cond (opens_transfer a) 15 31

-- "one whose record exceeds its limits counts as stopped": a count is below the most that its kind or its action needs, and no more transfers are
-- open than there can be
unfoldable pub usable_of : Link → Bool
usable_of l = not l.stopped && (ltb l.got (reply_room l.wait) && (ltb l.held (own_room l.doing) && ltb l.nested (nest_room l.doing)))

-- the bytes lent for an action's own
abbrev pub own_lent : ℕ
own_lent = 257

-- the abstraction function: the reply so far is the first `got` bytes of the lent reply, the open action's own bytes the first `held` of the others
abbrev pub view_of : Link → List ℕ → List ℕ → rules.Link
view_of l reply own =
    cond (usable_of l)
    (rules.live (rules.layer l.escape (doing_for l.doing (take l.held own)) (nest_of l.nested)) (rules.frame (wait_for l.wait) (take l.got reply)))
    rules.stopped

-- every byte of the lent reply after a raw byte: a data byte that the waiting call takes stands behind the bytes so far
abbrev pub wait_lent : List ℕ → rules.Wait → List ℕ → ℕ → List ℕ
wait_lent reply rules.idle s b = reply
wait_lent reply (rules.waiting k) s b = turn_lent reply (length s) b (shape_turn (shape_of k) (length s) b)

abbrev pub token_lent : List ℕ → rules.Frame → rules.Token → List ℕ
token_lent reply f rules.underway = reply
token_lent reply f (rules.datum b) = wait_lent reply f.wait f.got b
token_lent reply f (rules.acted r) = reply
token_lent reply f (rules.failed r) = reply
token_lent reply f (rules.bad n) = reply

unfoldable pub reply_after : rules.Link → ℕ → List ℕ → List ℕ
reply_after rules.stopped raw reply = reply
reply_after (rules.live l f) raw reply = token_lent reply f (rules.look l raw).token

-- every other lent byte: a data byte that an open action takes stands behind its bytes so far
abbrev pub doing_lent : List ℕ → rules.Doing → ℕ → List ℕ
doing_lent own rules.none b = own
doing_lent own (rules.own a h) b = turn_lent own (length h) b (shape_turn (rules.own_shape a) (length h) b)

abbrev pub piece_lent : List ℕ → rules.Doing → escape.Piece → List ℕ
piece_lent own d escape.pending = own
piece_lent own d (escape.data_byte b) = doing_lent own d b
piece_lent own d (escape.mark m) = own

unfoldable pub own_after : rules.Link → ℕ → List ℕ → List ℕ
own_after rules.stopped raw own = own
own_after (rules.live l f) raw own = piece_lent own l.doing (escape.piece_of l.escape raw)

-- the record of a fresh link
abbrev pub fresh : Link
fresh = record { wait = Idle; got = 0; escape = false; doing = None; held = 0; nested = 0; stopped = false }

-- the record with its link stopped, and with a call that waits
abbrev pub stopped_from : Link → Link
stopped_from l = record l { stopped = true }

abbrev pub waiting_from : Link → CallKind → Link
waiting_from l kind = record l { wait = Waiting kind; got = 0 }

abbrev pub begun_of : Result Begun Refusal → rules.Begun
begun_of (Ok Waits) = rules.begun
begun_of (Ok Complete) = rules.complete
begun_of (Err r) = rules.denied (number r)

-- What `begin` promises of the link, the kind of the call and the result, whatever bytes are lent.
pub record BeginDone (link : Link) (kind : CallKind) (r : Started) : Type 0 where
  pub answer : (reply own : List ℕ) → begun_of r.answer ≡ (rules.begin (view_of link reply own) (kind_for kind)).answer
  pub next : (reply own : List ℕ) → view_of r.link reply own ≡ (rules.begin (view_of link reply own) (kind_for kind)).next
  -- a call that waits changes what waits and nothing else; else the link is the one given
  pub waits : r.answer ≡ Ok Waits → r.link ≡ waiting_from link kind
  pub kept : (r.answer ≡ Ok Waits → ⊥) → r.link ≡ link

-- What `begin_none` promises of the link and the result, whatever bytes are lent: a call that is not carried leaves the link given.
pub record BeginNoneDone (link : Link) (r : Started) : Type 0 where
  pub answer : (reply own : List ℕ) → begun_of r.answer ≡ (rules.begin_none (view_of link reply own)).answer
  pub kept : r.link ≡ link

-- What `step` promises of the link, the lent bytes before and after, the raw byte and the result, for every one of them.
pub record StepDone (link : Link) (reply own : List ℕ) (raw : ℕ) (r : Stepped) (reply-left own-left : List ℕ) : Type 0 where
  pub answer : report_of r.answer reply-left own-left ≡ (rules.step (view_of link reply own) raw).report
  pub answer_is : r.answer ≡ answer_for (rules.step (view_of link reply own) raw).report
  pub next : view_of r.link reply-left own-left ≡ (rules.step (view_of link reply own) raw).next
  pub reply_bytes : reply-left ≡ reply_after (view_of link reply own) raw reply
  pub own_bytes : own-left ≡ own_after (view_of link reply own) raw own
  -- a stopped link is unchanged; any other refusal leaves the record given, stopped
  pub kept : view_of link reply own ≡ rules.stopped → r.link ≡ link
  pub stops : (n : ℕ) → (view_of link reply own ≡ rules.stopped → ⊥) → r.answer ≡ variant.Refused n → r.link ≡ stopped_from link
