-- The action reader where no transfer is open.
use native.Mathlib.Omega.{arith}
use mathlib.Core.Path.{refl}
use Rattle.transfers.proofs.read_action.Goals as goal

pub act-requires : goal.act-requires
act-requires c = (omega arith, λ _. refl)

pub returns : goal.returns
returns c = c.act.ensures
