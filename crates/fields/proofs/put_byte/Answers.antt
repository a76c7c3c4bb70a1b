-- The byte goes to the first place, and where it is the escape to the second too.
use native.Mathlib.Omega.{arith}
use lib.ListN.{length-set}
use Rattle.fields.proofs.Bytes.{one_length, put_one}
use Rattle.fields.proofs.put_byte.Goals as goal

pub bounds-out-0 : goal.bounds-out-0
bounds-out-0 c = omega (arith, one_length c.args.byte)

pub bounds-out-more : goal.bounds-out-more
bounds-out-more c = simp length-set (omega (arith, one_length c.args.byte))

pub returns : goal.returns
returns c = put_one _ c.is_escape-more.ensures.0 c.requires
