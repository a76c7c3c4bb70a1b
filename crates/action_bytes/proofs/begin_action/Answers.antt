-- By what the mark means; one that starts an action has some bytes of its own.
use mathlib.Core.Path.{sym, subst}
use native.Mathlib.Omega.{arith}
use Rattle.serial_rules.proofs.Depth.{HasOwn, has_own}
use Rattle.action_bytes.proofs.Parts.{unknown_begins, state_begins, end_begins}
use Rattle.action_bytes.proofs.begin_action.Goals as goal

pub start-requires : goal.start-requires
start-requires c = (omega arith, subst HasOwn (sym c.in-Starts.ensures) (has_own c.args.mark))

pub returns-in-Unknown : goal.returns-in-Unknown
returns-in-Unknown c = rw (c.min-at.ensures, ← c.in-Unknown.ensures, c.number.ensures) (unknown_begins _ _ _ _ (omega arith))

pub returns-in-State : goal.returns-in-State
returns-in-State c = rw (c.min-at.ensures, ← c.in-State.ensures) (state_begins _ _ _ _ (omega arith) c.in-State.on)

pub returns-in-End : goal.returns-in-End
returns-in-End c = rw (c.min-at.ensures, ← c.in-End.ensures, c.number-in-End.ensures) (end_begins _ _ _ (omega arith))

pub returns-in-Starts : goal.returns-in-Starts
returns-in-Starts c = rw (← c.min-at.ensures, ← c.in-Starts.ensures) c.start.ensures
