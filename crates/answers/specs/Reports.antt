-- What each answer stands for in the rules, and what an action with all its bytes tells.
use Rattle.std.specs.Prelude.{ℕ, ◌+◌, ◌-◌, Bool, true, false, cond, not, List, [], eqb, length, take, drop}
use Rattle.serial_rules.specs.Fields.{at}
use Rattle.serial_rules.specs.Link as rules
use Rattle.serial_rules.specs.Record.{passes}
use Rattle.actions.specs.Actions.{target_for}
use Rattle.actions.specs.declared.Target.{Target}
use Rattle.actions.specs.declared.Target.TheVariants.{Set, Execute, Load, Save}
use Rattle.actions.specs.declared.Action.{Action}
use Rattle.actions.specs.declared.Action.TheVariants.{Error, Event, Address, Block}
use Rattle.answers.specs.declared.Answer.{Answer}
use Rattle.answers.specs.declared.Answer.TheVariants as variant

-- each answer's number and values; a finished reply is the first bytes of the lent reply, a control block the first of the other bytes, and an error's
-- text follows its number there
abbrev pub transfer_for : Bool → rules.Transfer
transfer_for save = cond save rules.save rules.load

abbrev pub report_of : Answer → List ℕ → List ℕ → rules.Report
report_of variant.More reply own = rules.need_more
report_of (variant.Character b) reply own = rules.character b
report_of (variant.Reply n) reply own = rules.reply (take n reply)
report_of (variant.EscapeState on) reply own = rules.escape_state on
report_of (variant.Event y x a) reply own = rules.event y x a
report_of (variant.Address t b3 b2 b1 b0) reply own = rules.address (target_for t) b3 b2 b1 b0
report_of (variant.Block n) reply own = rules.block (take n own)
report_of (variant.Loaded b) reply own = rules.loaded b
report_of (variant.Ended save) reply own = rules.ended (transfer_for save)
report_of (variant.Error n k) reply own = rules.error n (take k (drop 1 own))
report_of variant.Restart reply own = rules.restart
report_of (variant.Refused n) reply own = rules.refusal n

-- each report's answer: a finished reply, a control block and an error's text stand in the lent bytes, and the answer has their lengths
abbrev pub target_back : rules.Target → Target
target_back rules.setting = Set
target_back rules.executing = Execute
target_back (rules.opening rules.load) = Load
target_back (rules.opening rules.save) = Save

abbrev pub is_save : rules.Transfer → Bool
is_save rules.load = false
is_save rules.save = true

abbrev pub answer_for : rules.Report → Answer
answer_for rules.need_more = variant.More
answer_for (rules.character b) = variant.Character b
answer_for (rules.reply s) = variant.Reply (length s)
answer_for (rules.escape_state on) = variant.EscapeState on
answer_for (rules.event y x a) = variant.Event y x a
answer_for (rules.address t b3 b2 b1 b0) = variant.Address (target_back t) b3 b2 b1 b0
answer_for (rules.block h) = variant.Block (length h)
answer_for (rules.loaded b) = variant.Loaded b
answer_for (rules.ended t) = variant.Ended (is_save t)
answer_for (rules.error n t) = variant.Error n (length t)
answer_for rules.restart = variant.Restart
answer_for (rules.refusal n) = variant.Refused n

-- what an action with all its bytes tells: n of them and the last one are the first of the bytes lent for its own. "error 0 with empty text is a restart"
abbrev pub failure_for : ℕ → ℕ → Answer
failure_for n k = cond (eqb n 0) (cond (eqb k 0) variant.Restart (variant.Error n k)) (variant.Error n k)

abbrev pub told_by : Action → ℕ → List ℕ → Answer
told_by Error n own = failure_for (at own 0) (n - 1)
told_by Event n own = variant.Event (at own 0) (at own 1) (at own 2)
told_by (Address t) n own = variant.Address t (at own 0) (at own 1) (at own 2) (at own 3)
told_by (Block k) n own = variant.Block (n + 1)

-- Whether an answer ends the loop, which does not ask for the lent bytes.
abbrev pub ends_of : Answer → Bool
ends_of a = not (passes (report_of a [] []))
