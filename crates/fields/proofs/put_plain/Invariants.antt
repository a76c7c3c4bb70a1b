-- Turn i has written the first i bytes.
use lib.ListN.{take}
use Rattle.escape.specs.Put.{Put}
use Rattle.fields.proofs.put_plain.Given as goal

abbrev pub invariant-loop-i : goal.invariant-loop-i
invariant-loop-i l = Put (take l.i l.bytes) l.initial.out l.out l.i
