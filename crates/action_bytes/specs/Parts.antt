-- What the reader of an action and of its own bytes promises, but for the body of a transfer.
use Rattle.std.specs.Prelude.{ℕ, suc, ◌+◌, ◌≤◌, ◌<◌, ◌≡◌, Bool, true, false, ◌&&◌, List, [], ◌∷◌, ◌++◌, leb, length, take, Result, Ok, Err}
use Rattle.serial_rules.specs.Link as rules
use Rattle.serial_rules.specs.Body.{done}
use Rattle.serial_rules.specs.Reply.{shape_turn}
use Rattle.serial_rules.specs.Record.{Outcome, ran_out, closed}
use Rattle.actions.specs.Actions.{action_for, opens_transfer}
use Rattle.actions.specs.declared.Target.TheVariants.{Set, Execute, Load, Save}
use Rattle.actions.specs.declared.Action.{Action}
use Rattle.actions.specs.declared.Action.TheVariants.{Error, Event, Address, Block}
use Rattle.answers.specs.declared.Answer.{Answer}
use Rattle.answers.specs.declared.Answer.TheVariants as variant
use Rattle.answers.specs.Reports.{report_of, transfer_for, answer_for}
use Rattle.notes.specs.Logs.{data_in}
use Rattle.action_bytes.specs.declared.Halt.{Halt}
use Rattle.action_bytes.specs.declared.Owned as code-owned
use Rattle.action_bytes.specs.declared.Began.{Began}
use Rattle.action_bytes.specs.declared.Began.TheVariants as began
use Rattle.action_bytes.specs.Walk as walk
use Rattle.action_bytes.specs.Walk.{Went, on, halt, Body, Act, Own}

-- an answer that ends the reading: need-more where the recording ran out, else a report, with its bytes in the lent ones
abbrev pub outcome_of : Answer → List ℕ → List ℕ → Outcome
outcome_of variant.More reply own = ran_out
outcome_of (variant.Character b) reply own = closed (report_of (variant.Character b) reply own)
outcome_of (variant.Reply n) reply own = closed (report_of (variant.Reply n) reply own)
outcome_of (variant.EscapeState s) reply own = closed (report_of (variant.EscapeState s) reply own)
outcome_of (variant.Event y x a) reply own = closed (report_of (variant.Event y x a) reply own)
outcome_of (variant.Address t b3 b2 b1 b0) reply own = closed (report_of (variant.Address t b3 b2 b1 b0) reply own)
outcome_of (variant.Block n) reply own = closed (report_of (variant.Block n) reply own)
outcome_of (variant.Loaded b) reply own = closed (report_of (variant.Loaded b) reply own)
outcome_of (variant.Ended s) reply own = closed (report_of (variant.Ended s) reply own)
outcome_of (variant.Error n k) reply own = closed (report_of (variant.Error n k) reply own)
outcome_of variant.Restart reply own = closed (report_of variant.Restart reply own)
outcome_of (variant.Refused n) reply own = closed (report_of (variant.Refused n) reply own)

-- each outcome's answer; need-more where the recording ran out
abbrev pub answer_of : Outcome → Answer
answer_of ran_out = variant.More
answer_of (closed r) = answer_for r

-- What an action or a body that ended the reading answers: nothing of a reply, and the length of an error's text, which is in `own`.
pub record Ends (answer : Answer) (own : List ℕ) : Type 0 where
  pub same : (reply : List ℕ) → outcome_of answer reply own ≡ outcome_of answer [] own
  pub sized : answer ≡ answer_of (outcome_of answer [] own)

-- an action's own bytes: `held` of them and the last one are the first of the lent ones
pub record WholeDone (s : List ℕ) (a : Action) (i : ℕ) (own : List ℕ) (held k : ℕ) : Type 0 where
  pub last : ℕ
  pub says : Own s (action_for a) i [] (walk.whole (take held own) last k)
  pub ends : take (held + 1) own ≡ take held own ++ (last ∷ [])
  pub turn : shape_turn (rules.own_shape (action_for a)) held last ≡ done
  pub most : held < rules.own_most (action_for a)
  pub far : i + held + 1 ≤ k
  pub near : k ≤ length s

pub record HaltedDone (s : List ℕ) (a : Action) (i : ℕ) (own : List ℕ) (answer : Answer) (k : ℕ) : Type 0 where
  pub says : Own s (action_for a) i [] (walk.halt k (outcome_of answer [] own))
  pub ends : Ends answer own
  pub far : i ≤ k
  pub near : k ≤ length s

abbrev pub OwnDone : List ℕ → Action → ℕ → List ℕ → Result code-owned.Owned Halt → Type 0
OwnDone s a i own (Ok w) = WholeDone s a i own w.held w.at
OwnDone s a i own (Err h) = HaltedDone s a i own h.answer h.at

-- an action with all its bytes: what it tells ends the call, goes on, or opens a transfer
abbrev pub finish_of : Action → Answer → ℕ → Result Began Halt
finish_of Error a k = Err (record { answer = a; at = k })
finish_of Event a k = Ok (began.Told a k)
finish_of (Address Set) a k = Ok (began.Told a k)
finish_of (Address Execute) a k = Ok (began.Told a k)
finish_of (Address Load) a k = Ok (began.Opens false a k)
finish_of (Address Save) a k = Ok (began.Opens true a k)
finish_of (Block n) a k = Ok (began.Told a k)

-- An action but for the body of the transfer that it opens. `own` is left with the action's bytes; what it has behind them is free, and all of it where
-- the reading ended without an error.
pub record BeganHalt (s : List ℕ) (d i : ℕ) (w : rules.Meaning) (own : List ℕ) (answer : Answer) (k : ℕ) : Type 0 where
  pub says : Act s d i w [] (halt k (outcome_of answer [] own))
  pub ends : Ends answer own
  pub far : i ≤ k
  pub near : k ≤ length s

pub record BeganTold (s : List ℕ) (d i : ℕ) (w : rules.Meaning) (own : List ℕ) (answer : Answer) (k : ℕ) : Type 0 where
  pub says : Act s d i w (report_of answer [] own ∷ []) (on k)
  pub own_data : (data_in answer ≤ length own) × (data_in answer < 256)
  pub far : i + data_in answer ≤ k
  pub near : k ≤ length s

pub record BeganOpens (s : List ℕ) (d i : ℕ) (w : rules.Meaning) (own : List ℕ) (save : Bool) (answer : Answer) (k : ℕ) : Type 0 where
  pub says : (g : List rules.Report) (v : Went) → Body s (transfer_for save) (suc d) k g v → Act s d i w (report_of answer [] own ∷ g) v
  pub own_data : data_in answer ≡ 0
  pub deep : d < rules.deepest
  pub far : i < k
  pub near : k ≤ length s

abbrev pub BeganDone : List ℕ → ℕ → ℕ → rules.Meaning → List ℕ → Result Began Halt → Type 0
BeganDone s d i w own (Err h) = BeganHalt s d i w own h.answer h.at
BeganDone s d i w own (Ok (began.Told answer k)) = BeganTold s d i w own answer k
BeganDone s d i w own (Ok (began.Opens save answer k)) = BeganOpens s d i w own save answer k

abbrev pub is_fifth : Action → ℕ → Bool
is_fifth a d = opens_transfer a && leb 4 d

-- the end of a transfer is read as outside every transfer; what it does inside one is for the body of that transfer
abbrev pub depth_for : rules.Meaning → ℕ → ℕ
depth_for rules.unknown d = d
depth_for (rules.state x) d = d
depth_for rules.end d = 0
depth_for (rules.starts a) d = d
