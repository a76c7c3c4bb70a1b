-- The row computes to its rule's values at each of the 256 bytes.
use borrow.Author.Rules.{rules}
use Rattle.serial_rules.specs.Marks.{starts_request, outward_class, inward_class, outward}
use Rattle.marks.proofs.Table.{class_row_at}
use Rattle.marks.proofs.outward_class.Goals as goal

pub returns : goal.returns
unfolding starts_request outward_class inward_class
returns c = class_row_at outward _ c.args.mark (search rules)
