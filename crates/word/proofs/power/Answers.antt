-- Eight times i places to the left, for each i below eight.
use Rattle.word.proofs.Digits.{shifted}
use Rattle.word.proofs.power.Goals as goal

pub returns : goal.returns
returns c = shifted c.args.i c.requires
