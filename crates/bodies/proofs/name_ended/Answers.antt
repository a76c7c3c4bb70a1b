-- The rule walks to the last byte of a list, and the code reads it by its index.
use mathlib.Core.Path.{sym}
use native.Mathlib.Omega.{arith}
use Rattle.bodies.proofs.Bytes.{ended_none, ended_last}
use Rattle.bodies.proofs.name_ended.Goals as goal

pub returns-in-empty : goal.returns-in-empty
returns-in-empty c = sym (ended_none c.args.s.now (omega arith))

pub returns-in-len1-up : goal.returns-in-len1-up
returns-in-len1-up c = sym (ended_last c.args.s.now (omega arith))
