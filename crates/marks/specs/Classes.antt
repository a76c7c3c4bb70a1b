-- The program's classes of the rules' numbers of classes, each way.
use Rattle.std.specs.Prelude.{ℕ, cond, eqb}
use Rattle.serial_rules.specs.Marks.{Way, outward, inward, error_mark, escape_mark, event_mark, address_mark, block_mark, end_mark, execute_mark, load_mark, save_mark}
use Rattle.marks.specs.declared.Class.{Class}
use Rattle.marks.specs.declared.Class.TheVariants.{NotCarried, Request, Error, State, Event, Address, Block, End, Execute, Load, Save}

-- outward: 1 starts a request, 0 is not carried
abbrev pub outward_as : ℕ → Class
outward_as n = cond (eqb n 1) Request NotCarried

abbrev pub inward_as : ℕ → Class
inward_as n =
    cond (eqb n error_mark) Error
    (cond (eqb n escape_mark) State
    (cond (eqb n event_mark) Event
    (cond (eqb n address_mark) Address
    (cond (eqb n block_mark) Block
    (cond (eqb n end_mark) End
    (cond (eqb n execute_mark) Execute
    (cond (eqb n load_mark) Load
    (cond (eqb n save_mark) Save
    NotCarried))))))))

-- either way
abbrev pub class_as : Way → ℕ → Class
class_as outward n = outward_as n
class_as inward n = inward_as n
