-- A byte of the reply that a call waits for, as the flat record shows it: what the private functions of `step` promise, which no public
-- contract names.
use Rattle.std.specs.Prelude.{ℕ, ◌+◌, ◌-◌, ◌≤◌, ◌<◌, ◌≡◌, false, cond, eqb, ltb}
use Rattle.serial_rules.specs.Escape.{escape}
use Rattle.serial_rules.specs.Body.{Turn, refused}
use Rattle.serial_rules.specs.Reply.{Shape, shape_of, shape_turn, longest}
use Rattle.kind.specs.Kinds.{kind_for}
use Rattle.flat_kind.specs.Kinds.{kind_at}
use Rattle.link_record.specs.declared.FlatLink.{FlatLink}

-- a call waits and nothing else is under way: no action, no escape, not stopped; and the byte is not the escape
pub record ReplyByte (f : FlatLink) (raw : ℕ) : Type 0 where
  pub waits : 0 < f.wait
  pub known : f.wait ≤ 13
  pub quiet : f.action ≡ 0
  pub none_held : f.held ≡ 0
  pub no_flags : f.flags ≡ 0
  pub not_escape : eqb raw escape ≡ false

-- how the reply that waits ends
abbrev pub shape_in : FlatLink → Shape
shape_in f = shape_of (kind_for (kind_at (f.wait - 1) f.out_length))

-- the turn of its next byte; of a record over its limits there is none
abbrev pub turn_in : FlatLink → ℕ → Turn
turn_in f raw = cond (ltb f.got (longest (shape_in f))) (shape_turn (shape_in f) f.got raw) (refused 7)

-- the record after one more byte of the reply, and after its last
abbrev pub placed_next : FlatLink → FlatLink
placed_next f = record f { got = f.got + 1 }

abbrev pub placed_idle : FlatLink → FlatLink
placed_idle f = record { got = 0; held = 0; wait = 0; out_length = f.out_length; action = 0; flags = 0 }
