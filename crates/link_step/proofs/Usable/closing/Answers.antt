-- With none open an end is refused, else it closes the innermost.
use mathlib.Core.Path.{refl}
use borrow.Author.Rules.{rules}
use Rattle.link_step.proofs.Steps.{end_alone, transfer_ended}
use Rattle.link_step.proofs.Usable.closing.Goals as goal

pub returns-then-nested-eq0 : goal.returns-then-nested-eq0
returns-then-nested-eq0 c = end_alone c.args.self.link (search rules) refl

pub returns : goal.returns
returns c = transfer_ended c.args.self.link c.args.self.usable (search rules) c.nesting.ensures
