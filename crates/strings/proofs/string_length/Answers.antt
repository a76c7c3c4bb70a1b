-- Turn i has passed i bytes of the string, so what is left of the scan is the scan from i on.
use borrow.Author.Rules.{rules}
use mathlib.Core.Path.{sym, ◌∙◌}
use Rattle.strings.proofs.Laws.{ends_here, too_long, goes_on, not_ended}
use Rattle.strings.proofs.string_length.Goals as goal

pub returns-then-b-eq-RETURN : goal.returns-then-b-eq-RETURN
returns-then-b-eq-RETURN c = sym (c.loop-i.invariant ∙ ends_here c.args.tail.now c.loop-i.i (search rules) (search rules))

pub returns-then-i-ge-LIMIT : goal.returns-then-i-ge-LIMIT
returns-then-i-ge-LIMIT c = sym (c.loop-i.invariant ∙ too_long c.args.tail.now c.loop-i.i (search rules) (search rules) (search rules))

pub loop-i-preserved : goal.loop-i-preserved
loop-i-preserved c = c.loop-i.invariant ∙ goes_on c.args.tail.now c.loop-i.i (search rules) (search rules) (search rules)

pub returns : goal.returns
returns c = sym (c.loop-i.invariant ∙ not_ended c.args.tail.now c.loop-i.i (search rules))
