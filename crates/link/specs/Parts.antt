-- What a begun call gives, and the records that a raw byte can leave.
use Rattle.link.specs.declared.Wait.{Wait}
use Rattle.link.specs.declared.Wait.TheVariants.{Idle, Waiting}
use Rattle.std.specs.Prelude.{ℕ, true, false, cond, Option, None, Result, Ok, Err}
use Rattle.serial_rules.specs.Link as rules
use Rattle.refusal.specs.declared.Refusal.{Refusal}
use Rattle.refusal.specs.declared.Refusal.TheVariants as refusal
use Rattle.refusal.specs.declared.Refusal.TheVariants.{Stopped}
use Rattle.actions.specs.declared.Action.{Action}
use Rattle.link.specs.declared.Link.{Link}
use Rattle.answers.specs.declared.Answer.{Answer}
use Rattle.answers.specs.declared.Answer.TheVariants as variant
use Rattle.link.specs.declared.Stepped.{Stepped}
use Rattle.link.specs.View.{usable_of, stopped_from}

-- what refuses any call: a stopped link, and another call that waits
abbrev pub none_waits : Wait → Result (Unit {0}) Refusal
none_waits Idle = Ok tt
none_waits (Waiting kind) = Err refusal.Waiting

abbrev pub free_of : Link → Result (Unit {0}) Refusal
free_of l = cond (usable_of l) (none_waits l.wait) (Err Stopped)

-- what a step leaves: the record stopped; an escape seen; the reply at its place; another transfer innermost; or no action and no transfer open
abbrev pub refused_from : Link → ℕ → Stepped
refused_from l n = record { answer = variant.Refused n; link = stopped_from l }

abbrev pub paused_from : Link → Stepped
paused_from l = record { answer = variant.More; link = record l { escape = true; stopped = false } }

abbrev pub going_from : Link → Answer → Option Action → ℕ → Stepped
going_from l a d n = record { answer = a; link = record l { escape = false; doing = d; held = n; stopped = false } }

abbrev pub nesting_from : Link → Answer → ℕ → Stepped
nesting_from l a n = record { answer = a; link = record l { escape = false; doing = None; held = 0; nested = n; stopped = false } }

abbrev pub resting_with : Answer → Wait → ℕ → Stepped
resting_with a w n = record { answer = a; link = record { wait = w; got = n; escape = false; doing = None; held = 0; nested = 0; stopped = false } }

-- the step of the rules, of what the escape layer and the actions make of a raw byte
abbrev pub seen_step : rules.Frame → rules.Seen → rules.Step
seen_step f s = rules.gives (rules.meets f s.token).report (rules.link_at s.next (rules.meets f s.token).next)
