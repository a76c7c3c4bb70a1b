-- What bars any call bars this one; where nothing does it is not carried.
use Rattle.link.proofs.Begins.{none_begun}
use Rattle.link.proofs.Link.begin_none.Goals as goal

pub returns : goal.returns
returns c = rw (c.and.ensures, c.free.ensures) (none_begun c.args.self)
