-- The limit of the number of the open transfers is that of the transfers.
use Prim.Native.Nat.{ℕ}
use mathlib.Core.Path.{◌≡◌, refl, sym}
use mathlib.Core.Bool.{Bool, true, false}
use lib.Dec.{ltb}
use lib.ListN.{length}
use borrow.Author.Tests.{ltb-true, ltb-false}
use Rattle.serial_rules.specs.Link as rules
use Rattle.serial_rules.specs.Nest.{nest_of}
use Rattle.serial_rules.proofs.Nest.{nest_few, nest_full}
use Rattle.actions.specs.Actions.{action_for, opens_transfer}
use Rattle.actions.specs.declared.Target.TheVariants.{Set, Execute, Load, Save}
use Rattle.actions.specs.declared.Action.{Action}
use Rattle.actions.specs.declared.Action.TheVariants.{Error, Event, Address, Block}

few : (n : ℕ) (t : Bool) → ltb n 15 ≡ t → t ≡ ltb (length (nest_of n)) rules.deepest
few n true e = sym (nest_few n (ltb-true n 15 e))
few n false e = sym (nest_full n (ltb-false n 15 e))

-- whether an action that opens a transfer may start where the transfers of number n are open
pub may_open : (n : ℕ) (a : Action) → opens_transfer a ≡ true → ltb n 15 ≡ rules.may_start (action_for a) (nest_of n)
may_open n Error e = cc
may_open n Event e = cc
may_open n (Address Set) e = cc
may_open n (Address Execute) e = cc
may_open n (Address Load) e = few n (ltb n 15) refl
may_open n (Address Save) e = few n (ltb n 15) refl
may_open n (Block k) e = cc
