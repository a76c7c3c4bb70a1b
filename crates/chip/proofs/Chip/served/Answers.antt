-- A side or an offset that does not exist is missing, as is a record that holds more than its places; else the step is the rules' step.
use Rattle.std.proofs.lemmas.Result.{err_from_is_err_and, MatchResult-weaker}
use Rattle.chip.proofs.Ports.{no_side, no_register, both_there}
use Rattle.chip.proofs.Steps.{done_as_ruled, refused_as_ruled, missing_as_ruled}
use Rattle.chip.specs.Promise.{access_of}
use Rattle.chip.specs.Steps.{side_of, register_of}
use Rattle.chip.proofs.Chip.served.Goals as goal

pub returns-in_err-side : goal.returns-in_err-side
returns-in_err-side c =
    let a = c.args in
    let p = err_from_is_err_and c.from_residual.result c.from_residual.ensures.1 in
    rw (p.1, p.2, c.in_err-side.ensures.0) (missing_as_ruled a.self (access_of a.side a.offset a.write a.byte) (no_side (access_of a.side a.offset a.write a.byte) c.in_err-side.ensures.1))

pub returns-in_err-register : goal.returns-in_err-register
returns-in_err-register c =
    let a = c.args in
    let p = err_from_is_err_and c.from_residual-in_err-register.result c.from_residual-in_err-register.ensures.1 in
    rw (p.1, p.2, c.in_err-register.ensures.0) (missing_as_ruled a.self (access_of a.side a.offset a.write a.byte) (no_register (access_of a.side a.offset a.write a.byte) c.in_err-register.ensures.1))

pub returns : goal.returns
returns c =
    let a = c.args in
    let access = access_of a.side a.offset a.write a.byte in
    let v = c.in_ok-chip in
    let x = both_there access c.in_ok-side.side c.in_ok-register.register c.in_ok-side.ensures c.in_ok-register.ensures in
    MatchResult-weaker c.step.result c.step.ensures
    (λ d h. done_as_ruled a.self v.chip.chip access (side_of c.in_ok-side.side) (register_of c.in_ok-register.register) v.ensures v.chip.valid c.in_ok-side.ensures c.in_ok-register.ensures x d.0 d.1.chip d.1.valid h)
    (λ e h. refused_as_ruled a.self v.chip.chip access (side_of c.in_ok-side.side) (register_of c.in_ok-register.register) v.ensures v.chip.valid c.in_ok-side.ensures c.in_ok-register.ensures x e h)
