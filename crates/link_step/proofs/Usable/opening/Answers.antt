-- Each arm is what that mark means, whose law says what the record left promises.
use mathlib.Core.Path.{refl}
use Rattle.link_step.proofs.Steps.{start_some, opening, mark_unknown, escape_told}
use Rattle.link_step.proofs.Usable.opening.Goals as goal

pub starting-requires : goal.starting-requires
starting-requires c = start_some c.args.m c.of-meaning.ensures c.in-Starts.is

pub returns-in-Unknown : goal.returns-in-Unknown
returns-in-Unknown c = opening c.args.self.link c.args.m c.of-meaning.ensures c.in-Unknown.is (mark_unknown c.args.self.link refl)

pub returns-in-State : goal.returns-in-State
returns-in-State c = opening c.args.self.link c.args.m c.of-meaning.ensures c.in-State.is (escape_told c.args.self.link c.args.self.usable c.going.ensures)

pub returns-in-End : goal.returns-in-End
returns-in-End c = opening c.args.self.link c.args.m c.of-meaning.ensures c.in-End.is c.closing.ensures

pub returns-in-Starts : goal.returns-in-Starts
returns-in-Starts c = opening c.args.self.link c.args.m c.of-meaning.ensures c.in-Starts.is c.starting.ensures
