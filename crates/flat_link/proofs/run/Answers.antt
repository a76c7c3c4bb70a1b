-- With the numbers in range this is the loop of the link, flat; with one out of range nothing is touched.
use Rattle.link_record.proofs.Conversions.{link_known, link_unknown}
use Rattle.flat_link.proofs.Links.{ran_known, ran_unknown}
use Rattle.flat_link.proofs.run.Goals as goal

pub returns-in_default : goal.returns-in_default
returns-in_default c = ran_unknown (link_unknown c.args.link c.in_default.ensures) c.unknown.ensures

pub returns : goal.returns
returns c = let l = link_known c.args.link c.in-Some.ensures in ran_known l.0 l.1 c.run.ensures c.flat_ran.ensures
