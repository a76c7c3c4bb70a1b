-- Each way out is one outcome of the rule, whose law says what the record left promises. That the mark is a byte bounds its style.
use borrow.Author.Rules.{rules}
use Rattle.request_reader.proofs.Steps.{mark_unknown, mark_whole, mark_begun}
use Rattle.request_reader.proofs.Reader.mark_step.Goals as goal

pub returns-then-not-starts_request : goal.returns-then-not-starts_request
returns-then-not-starts_request c = mark_unknown c.args.self c.args.m (search rules)

pub returns-then-code-eq0 : goal.returns-then-code-eq0
returns-then-code-eq0 c = mark_whole c.args.self c.args.m (search rules) c.if-code-eq0.true (search rules)

pub returns : goal.returns
returns c = mark_begun c.args.self c.args.m (search rules) (search rules) c.if-code-eq0.false c.going.ensures
