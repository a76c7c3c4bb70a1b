-- With the numbers in range this is a step of the link, flat, with one out of range the refusal of a stopped one.
use Rattle.link_record.proofs.Conversions.{link_known, link_unknown}
use Rattle.flat_link.proofs.Links.{step_known, step_unknown}
use Rattle.flat_link.proofs.step_unflattened.Goals as goal

pub returns-in_default : goal.returns-in_default
returns-in_default c = step_unknown (link_unknown c.args.link c.in_default.ensures) (rw c.number.ensures at c.flat_told.ensures)

pub returns : goal.returns
returns c = let l = link_known c.args.link c.in-Some.ensures in step_known l.0 l.1 c.step-stepped.ensures c.flattened.ensures c.flat_told-2.ensures
