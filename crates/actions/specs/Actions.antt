-- The program's actions and marks, as the rules speak of them.
use Rattle.std.specs.Prelude.{Bool, true, false}
use Rattle.serial_rules.specs.Link as rules
use Rattle.actions.specs.declared.Target.{Target}
use Rattle.actions.specs.declared.Target.TheVariants.{Set, Execute, Load, Save}
use Rattle.actions.specs.declared.Action.{Action}
use Rattle.actions.specs.declared.Action.TheVariants.{Error, Event, Address, Block}
use Rattle.actions.specs.declared.Meaning.{Meaning}
use Rattle.actions.specs.declared.Meaning.TheVariants.{Unknown, State, End, Starts}

abbrev pub target_for : Target → rules.Target
target_for Set = rules.setting
target_for Execute = rules.executing
target_for Load = rules.opening rules.load
target_for Save = rules.opening rules.save

abbrev pub action_for : Action → rules.Action
action_for Error = rules.failing
action_for Event = rules.signal
action_for (Address t) = rules.place (target_for t)
action_for (Block n) = rules.control n

abbrev pub meaning_for : Meaning → rules.Meaning
meaning_for Unknown = rules.unknown
meaning_for (State on) = rules.state on
meaning_for End = rules.end
meaning_for (Starts a) = rules.starts (action_for a)

-- whether an action opens a transfer
abbrev pub opens_transfer : Action → Bool
opens_transfer Error = false
opens_transfer Event = false
opens_transfer (Address Set) = false
opens_transfer (Address Execute) = false
opens_transfer (Address Load) = true
opens_transfer (Address Save) = true
opens_transfer (Block n) = false
