-- What a usable record keeps to, part by part.
use Rattle.std.specs.Prelude.{Option, Some, None}
use Prim.Native.Nat.{ℕ, ◌≤◌, ◌<◌}
use mathlib.Core.Path.{◌≡◌}
use mathlib.Core.Bool.{Bool, true, false, not, ◌&&◌}
use native.Mathlib.Omega.{arith}
use lib.Dec.{ltb}
use borrow.Author.Tests.{ltb-true, not-true}
use Rattle.serial_rules.proofs.Shapes.{choice}
use Rattle.serial_rules.proofs.Trip.{and_both}
use Rattle.actions.specs.Actions.{opens_transfer}
use Rattle.actions.specs.declared.Action.{Action}
use Rattle.link.specs.declared.Link.{Link}
use Rattle.link.specs.View.{reply_room, own_room, nest_room, usable_of}

module _ (l : Link) (e : usable_of l ≡ true) where
  abbrev r : Bool
  r = ltb l.got (reply_room l.wait)

  abbrev o : Bool
  o = ltb l.held (own_room l.doing)

  abbrev n : Bool
  n = ltb l.nested (nest_room l.doing)

  pub usable_live : l.stopped ≡ false
  unfolding usable_of
  usable_live = not-true l.stopped (and_both (not l.stopped) (r && (o && n)) e).0

  within : (r && (o && n)) ≡ true
  unfolding usable_of
  within = (and_both (not l.stopped) (r && (o && n)) e).1

  pub usable_got : l.got < reply_room l.wait
  usable_got = ltb-true l.got (reply_room l.wait) (and_both r (o && n) within).0

  pub usable_held : l.held < own_room l.doing
  usable_held = ltb-true l.held (own_room l.doing) (and_both o n (and_both r (o && n) within).1).0

  pub usable_nested : l.nested < nest_room l.doing
  usable_nested = ltb-true l.nested (nest_room l.doing) (and_both o n (and_both r (o && n) within).1).1

-- no more than four transfers are open, whatever action is
pub nest_most : (d : Option Action) → nest_room d ≤ 31
nest_most None = omega arith
nest_most (Some a) = choice (λ (n : ℕ). n ≤ 31) (opens_transfer a) (λ _. omega arith) (λ _. omega arith)

pub nested_low : (l : Link) → usable_of l ≡ true → l.nested ≤ 30
nested_low l u = omega (arith, usable_nested l u, nest_most l.doing)
