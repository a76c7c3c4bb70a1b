-- Plain bytes of the reply, stored at once.
use Rattle.recorded.proofs.Whole.{passes_plain}
use Rattle.recorded.proofs.pass.Goals as goal

pub returns : goal.returns
returns c =
    passes_plain c.args.got c.args.last
    c.requires.0 c.requires.1
    c.copy_plain.ensures
