-- A link in the middle of a reply takes its bytes, any other none.
use borrow.Author.Rules.{rules}
use Rattle.link_loop.proofs.Replies.{take_none}
use Rattle.link_loop.proofs.take_reply.Goals as goal

pub returns-in_default : goal.returns-in_default
returns-in_default c = rw c.part_taken.ensures (take_none c.args.link (search rules))
