-- What the parts of a step promise.
use Rattle.std.specs.Prelude.{ℕ, ◌+◌, ◌*◌, ◌≡◌, false, List, take, None, Result, Ok, Err}
use Rattle.serial_rules.specs.Escape.{piece_of}
use Rattle.serial_rules.specs.Fields.{at}
use Rattle.serial_rules.specs.Link as rules
use Rattle.serial_rules.specs.Nest.{nest_of}
use Rattle.actions.specs.Actions.{target_for, action_for}
use Rattle.actions.specs.declared.Target.{Target}
use Rattle.actions.specs.declared.Target.TheVariants.{Set, Execute, Load, Save}
use Rattle.actions.specs.declared.Action.{Action}
use Rattle.actions.specs.declared.Action.TheVariants.{Error, Event, Address, Block}
use Rattle.refusal.specs.declared.Refusal.{Refusal}
use Rattle.refusal.specs.Refusals.{number}
use Rattle.link.specs.declared.Link.{Link}
use Rattle.answers.specs.declared.Answer.{Answer}
use Rattle.answers.specs.declared.Answer.TheVariants as variant
use Rattle.link.specs.declared.Stepped.{Stepped}
use Rattle.link.specs.View.{wait_for, doing_for, view_of, token_lent, doing_lent, piece_lent, stopped_from}
use Rattle.link.specs.Parts.{refused_from, going_from, nesting_from, seen_step}
use Rattle.answers.specs.Reports.{report_of, answer_for}

-- what a step leaves, of what a part of it gives: a refusal leaves the record given, stopped
abbrev pub stepped_from : Link → Result Stepped Refusal → Stepped
stepped_from l (Ok s) = s
stepped_from l (Err r) = refused_from l (number r)

-- what four address bytes leave, by what they are for: those of a load or save open it
abbrev pub placed_from : Link → Target → Answer → Stepped
placed_from l Set a = going_from l a None 0
placed_from l Execute a = going_from l a None 0
placed_from l Load a = nesting_from l a (2 * l.nested + 1)
placed_from l Save a = nesting_from l a (2 * l.nested + 2)

-- the frame and what the actions do, of a record with its lent bytes
abbrev pub frame_of : Link → List ℕ → rules.Frame
frame_of l reply = rules.frame (wait_for l.wait) (take l.got reply)

abbrev pub doing_of : Link → List ℕ → rules.Doing
doing_of l own = doing_for l.doing (take l.held own)

abbrev pub step_of : Stepped → List ℕ → List ℕ → rules.Step
step_of r reply own = rules.gives (report_of r.answer reply own) (view_of r.link reply own)

-- The result is that of a step of the rules, and the lent bytes left are those `after`; a refusal leaves the record given, stopped.
pub record LinkGives (link : Link) (step : rules.Step) (reply-after own-after : List ℕ) (r : Stepped) (reply-left own-left : List ℕ) : Type 0 where
  pub step_is : step_of r reply-left own-left ≡ step
  pub answer_is : r.answer ≡ answer_for step.report
  pub reply_bytes : reply-left ≡ reply-after
  pub own_bytes : own-left ≡ own-after
  pub stops : (n : ℕ) → r.answer ≡ variant.Refused n → r.link ≡ stopped_from link

abbrev pub Met : Link → List ℕ → List ℕ → rules.Seen → Stepped → List ℕ → List ℕ → Type 0
Met l reply own-after s r reply-left own-left =
    LinkGives l (seen_step (frame_of l reply) s) (token_lent reply (frame_of l reply) s.token) own-after r reply-left own-left

-- a raw byte of a link that is usable
abbrev pub ReadDone : Link → List ℕ → List ℕ → ℕ → Stepped → List ℕ → List ℕ → Type 0
ReadDone l reply own raw r reply-left own-left =
    let p = piece_of l.escape raw in
    Met l reply (piece_lent own (doing_of l own) p) (rules.piece_seen (nest_of l.nested) (doing_of l own) p) r reply-left own-left

-- a mark, whatever bytes are lent: any; one outside an action, by what it means
abbrev pub MarkDone : Link → ℕ → Stepped → Type 0
MarkDone l m r = (reply own : List ℕ) → Met l reply own (rules.mark_seen (nest_of l.nested) (doing_of l own) m) r reply own

abbrev pub OutsideDone : Link → rules.Meaning → Stepped → Type 0
OutsideDone l w r = (reply own : List ℕ) → Met l reply own (rules.mark_outside (nest_of l.nested) w) r reply own

abbrev pub OpeningDone : Link → ℕ → Stepped → Type 0
OpeningDone l m r = OutsideDone l (rules.meaning_of m) r

abbrev pub StartDone : Link → Action → Stepped → Type 0
StartDone l a r = OutsideDone l (rules.starts (action_for a)) r

abbrev pub ClosingDone : Link → Stepped → Type 0
ClosingDone l r = OutsideDone l rules.end r

-- a data byte: any, one outside an action, and one of an open action's own
abbrev pub DataDone : Link → List ℕ → List ℕ → ℕ → Stepped → List ℕ → List ℕ → Type 0
DataDone l reply own b r reply-left own-left = Met l reply (doing_lent own (doing_of l own) b) (rules.data_seen (nest_of l.nested) (doing_of l own) b) r reply-left own-left

abbrev pub ReplyByteDone : Link → List ℕ → ℕ → Stepped → List ℕ → Type 0
ReplyByteDone l reply b r reply-left = (own : List ℕ) → Met l reply own (rules.data_seen (nest_of l.nested) rules.none b) r reply-left own

abbrev pub OwnDone : Link → List ℕ → ℕ → Stepped → List ℕ → Type 0
OwnDone l own b r own-left = (reply : List ℕ) → DataDone l reply own b r reply own-left

-- the action's n own bytes and its last one are the first of the lent ones
abbrev pub finish_at : Action → ℕ → List ℕ → rules.Token
finish_at Error n own = rules.failed (rules.failure_of (take n own))
finish_at Event n own = rules.acted (rules.event (at own 0) (at own 1) (at own 2))
finish_at (Address t) n own = rules.acted (rules.address (target_for t) (at own 0) (at own 1) (at own 2) (at own 3))
finish_at (Block k) n own = rules.acted (rules.block (take (n + 1) own))

abbrev pub FinishedDone : Link → Action → List ℕ → Stepped → Type 0
FinishedDone l a own r = (reply : List ℕ) → Met l reply own (rules.seen (finish_at a l.held own) (rules.layer false rules.none (rules.opened (action_for a) (nest_of l.nested)))) r reply own
