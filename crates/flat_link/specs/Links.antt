-- What a begun call and a raw byte give, as flat records.
use Rattle.std.specs.Prelude.{ℕ, ◌≤◌, ◌<◌, ◌≡◌, true, false, cond, List}
use Rattle.serial_rules.specs.Link as rules
use Rattle.actions.specs.Actions.{target_for}
use Rattle.refusal.specs.declared.Refusal.TheVariants.{Stopped}
use Rattle.refusal.specs.Refusals.{number}
use Rattle.answers.specs.declared.Answer.{Answer}
use Rattle.answers.specs.declared.Answer.TheVariants as variant
use Rattle.link.specs.declared.Stepped.{Stepped}
use Rattle.link.specs.declared.Started.{Started}
use Rattle.link.specs.View.{begun_of, BeginDone, BeginNoneDone, StepDone}
use Rattle.notes.specs.Notes.{address_kind}
use Rattle.link_record.specs.declared.FlatLink.{FlatLink}
use Rattle.flat_link.specs.declared.FlatTold.{FlatTold}
use Rattle.flat_link.specs.declared.FlatBegun.{FlatBegun}
use Rattle.flat_kind.specs.Kinds.{kind_at, last_call}
use Rattle.link_record.specs.Records.{link_of, tags_ok, flat_of}

-- The flat result of an answer: kind 0 needs more, 1 is a character, 2 an Escape state, 3 an event, 4 an address, 5 a reply, 6 an error, 7 a
-- restart, 8 a refusal, 9 a control block, 10 execute, 11 a load, 12 a save, 13 load data, 14 an end; what it does not have is 0.
abbrev pub told_with : FlatLink → ℕ → ℕ → ℕ → FlatTold
told_with f kind first n = record { link = f; length = n; kind = kind; first = first; second = 0; third = 0; fourth = 0 }

abbrev pub flat_told : FlatLink → Answer → FlatTold
flat_told f variant.More = told_with f 0 0 0
flat_told f (variant.Character b) = told_with f 1 b 0
flat_told f (variant.Reply n) = told_with f 5 0 n
flat_told f (variant.EscapeState on) = told_with f 2 (cond on 1 0) 0
flat_told f (variant.Event y x a) = record { link = f; length = 0; kind = 3; first = y; second = x; third = a; fourth = 0 }
flat_told f (variant.Address t b3 b2 b1 b0) = record { link = f; length = 0; kind = address_kind (target_for t); first = b3; second = b2; third = b1; fourth = b0 }
flat_told f (variant.Block n) = told_with f 9 0 n
flat_told f (variant.Loaded b) = told_with f 13 b 0
flat_told f (variant.Ended save) = told_with f 14 (cond save 1 0) 0
flat_told f (variant.Error n k) = told_with f 6 n k
flat_told f variant.Restart = told_with f 7 0 0
flat_told f (variant.Refused n) = told_with f 8 n 0

-- the link of the record took a step, and its result is flat
pub record FlatLinkStepped (f : FlatLink) (reply own : List ℕ) (raw : ℕ) (r : FlatTold) (reply-left own-left : List ℕ) : Type 0 where
  pub stepped : Stepped
  pub done : StepDone (link_of f) reply own raw stepped reply-left own-left
  pub is : r ≡ flat_told (flat_of f stepped.link) stepped.answer

-- What `step` promises of the flat link, the lent bytes before and after, the raw byte and the result: a number out of range refuses the byte
-- as a stopped link does, and the record is the one given.
pub record FlatStepDone (f : FlatLink) (reply own : List ℕ) (raw : ℕ) (r : FlatTold) (reply-left own-left : List ℕ) : Type 0 where
  pub known : tags_ok f ≡ true → FlatLinkStepped f reply own raw r reply-left own-left
  pub unknown : tags_ok f ≡ false → (r ≡ flat_told f (variant.Refused (number Stopped))) × (reply-left ≡ reply) × (own-left ≡ own)

-- kind 0 waits, 1 is complete, 2 is refused by number
abbrev pub flat_begun : FlatLink → rules.Begun → FlatBegun
flat_begun f rules.begun = record { link = f; kind = 0; answer = 0 }
flat_begun f rules.complete = record { link = f; kind = 1; answer = 0 }
flat_begun f (rules.denied n) = record { link = f; kind = 2; answer = n }

abbrev pub flat_started : FlatLink → Started → FlatBegun
flat_started f s = flat_begun (flat_of f s.link) (begun_of s.answer)

-- a call was begun on the link of the record, of which `Done` is promised, and its result is flat
pub record FlatStarted (f : FlatLink) (Done : Started → Type 0) (r : FlatBegun) : Type 0 where
  pub started : Started
  pub done : Done started
  pub is : r ≡ flat_started f started

-- What `begin` promises of the flat link, the call's number and out length and the result. A number above the last is a call that is not carried,
-- and one out of range in the record refuses any call as a stopped link does; both leave the record given.
pub record FlatBeginDone (f : FlatLink) (call out : ℕ) (r : FlatBegun) : Type 0 where
  pub known : tags_ok f ≡ true → call ≤ last_call → FlatStarted f (BeginDone (link_of f) (kind_at call out)) r
  pub no_call : tags_ok f ≡ true → last_call < call → FlatStarted f (BeginNoneDone (link_of f)) r × (r.link ≡ f)
  pub unknown : tags_ok f ≡ false → r ≡ flat_begun f (rules.denied 7)
