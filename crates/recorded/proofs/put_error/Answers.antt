-- The number in the first place, the text behind it.
use borrow.Author.Rules.{rules}
use Rattle.recorded.proofs.Whole.{error_put}
use Rattle.recorded.proofs.put_error.Goals as goal

pub returns : goal.returns
returns c = error_put c.args.number c.args.n 256 256 c.args.own.now c.args.out.now (search rules) (search rules) c.put_first.ensures
