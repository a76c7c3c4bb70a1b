-- A link as a flat record, for callers in C: numbers for its enums and bools, with total conversions.
use Rattle.link.specs.declared.Wait.{Wait}
use Rattle.link.specs.declared.Wait.TheVariants.{Idle, Waiting}
use Rattle.std.specs.Prelude.{ℕ, suc, ◌+◌, ◌*◌, ◌-◌, ◌/◌, ◌%◌, Bool, cond, ◌&&◌, ◌||◌, eqb, leb, Option, Some, None}
use Rattle.actions.specs.declared.Target.TheVariants.{Set, Execute, Load, Save}
use Rattle.actions.specs.declared.Action.TheVariants.{Error, Event, Address, Block}
use Rattle.actions.specs.declared.Action.{Action}
use Rattle.link.specs.declared.Link.{Link}
use Rattle.link_record.specs.declared.FlatLink.{FlatLink}
use Rattle.flat_kind.specs.Kinds.{kind_at, kind_number, kind_out}

-- 0 is idle, any other number one more than that of the call that waits
abbrev pub wait_at : ℕ → ℕ → Wait
wait_at n out = cond (eqb n 0) Idle (Waiting (kind_at (n - 1) out))

-- 0 is no action, 1 an error, 2 an event, 3 an address, 4 execute, 5 a load, 6 a save, 128 + n a control block of n bytes
abbrev pub doing_at : ℕ → Option Action
doing_at n =
    cond (eqb n 0) None
    (cond (eqb n 1) (Some Error)
    (cond (eqb n 2) (Some Event)
    (cond (eqb n 3) (Some (Address Set))
    (cond (eqb n 4) (Some (Address Execute))
    (cond (eqb n 5) (Some (Address Load))
    (cond (eqb n 6) (Some (Address Save))
    (Some (Block (n % 128)))))))))

-- the flags: 1 where an escape was seen, 2 where the link is stopped, and 4 times the number of the open transfers
abbrev pub seen_at : ℕ → Bool
seen_at n = eqb (n % 2) 1

abbrev pub stopped_at : ℕ → Bool
stopped_at n = eqb (n / 2 % 2) 1

abbrev pub nested_at : ℕ → ℕ
nested_at n = n / 4

-- the link of a flat record
abbrev pub link_of : FlatLink → Link
link_of f =
    record { wait = wait_at f.wait f.out_length; got = f.got; escape = seen_at f.flags; doing = doing_at f.action; held = f.held; nested = nested_at f.flags; stopped = stopped_at f.flags }

unfoldable pub tags_ok : FlatLink → Bool
tags_ok f = leb f.wait 13 && (leb f.flags 123 && (leb f.action 6 || (leb 129 f.action && leb f.action 255)))

-- the link of a flat record, if its numbers are in range
abbrev pub known_link : FlatLink → Option Link
known_link f = cond (tags_ok f) (Some (link_of f)) None

abbrev pub fresh_link : FlatLink
fresh_link = record { got = 0; held = 0; wait = 0; out_length = 0; action = 0; flags = 0 }

-- The flat record of a link, beside the record given, whose out length stays where no OSWORD waits, so that a link unchanged is a record
-- unchanged.
abbrev pub wait_number : Wait → ℕ
wait_number Idle = 0
wait_number (Waiting kind) = suc (kind_number kind)

abbrev pub wait_out : ℕ → Wait → ℕ
wait_out given Idle = given
wait_out given (Waiting kind) = kind_out given kind

abbrev pub doing_number : Option Action → ℕ
doing_number None = 0
doing_number (Some Error) = 1
doing_number (Some Event) = 2
doing_number (Some (Address Set)) = 3
doing_number (Some (Address Execute)) = 4
doing_number (Some (Address Load)) = 5
doing_number (Some (Address Save)) = 6
doing_number (Some (Block n)) = 128 + n % 128

-- a number of open transfers that no link has counts as stopped
abbrev pub flags_number : Bool → Bool → ℕ → ℕ
flags_number seen stopped nested = cond (leb nested 30) (4 * nested + cond seen 1 0 + cond stopped 2 0) 255

abbrev pub flat_of : FlatLink → Link → FlatLink
flat_of f l =
    record { got = l.got; held = l.held; wait = wait_number l.wait; out_length = wait_out f.out_length l.wait; action = doing_number l.doing; flags = flags_number l.escape l.stopped l.nested }
