-- By what a fresh link says of the call.
use Rattle.std.specs.Prelude.{Ok}
use mathlib.Core.Path.{ap, ◌∙◌}
use Rattle.recorded.proofs.Whole.{begins_fresh, waits_some, complete_read, denied_read}
use Rattle.kind.specs.Kinds.{kind_for}
use Rattle.recorded.proofs.read_recorded.Goals as goal

pub read_waiting-requires : goal.read_waiting-requires
read_waiting-requires c = waits_some (kind_for c.args.kind) (begins_fresh c.new.ensures c.begin-started.ensures (c.in-Ok.is ∙ ap Ok c.in-Waits.is))

pub returns-in-Complete : goal.returns-in-Complete
returns-in-Complete c = rw c.nothing_read.ensures (complete_read (begins_fresh c.new.ensures c.begin-started.ensures (c.in-Ok.is ∙ ap Ok c.in-Complete.is)))

pub returns-in-Err : goal.returns-in-Err
returns-in-Err c = rw (c.nothing_read-in-Err.ensures, c.number.ensures) (denied_read (begins_fresh c.new.ensures c.begin-started.ensures c.in-Err.is))
