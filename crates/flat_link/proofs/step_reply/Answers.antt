-- A byte that the reply takes is stored, its last one ends the call; a refused one is a step of the link.
use Rattle.std.specs.Prelude.{Ok}
use native.Mathlib.Omega.{arith}
use mathlib.Core.Path.{sym, ap, ◌∙◌}
use Rattle.turns.specs.declared.Turn.{Turn}
use Rattle.turns.specs.Turns.{turn_of}
use Rattle.flat_link.proofs.Field.{taken, reply_goes, reply_ends}
use Rattle.flat_link.proofs.step_reply.Goals as goal

pub bounds-reply-at : goal.bounds-reply-at
bounds-reply-at c = omega (arith, c.in-Ok.ensures.1 (taken c.in-Ok.turn))

pub bounds-reply-at-in-Done : goal.bounds-reply-at-in-Done
bounds-reply-at-in-Done c = omega (arith, c.in-Ok.ensures.1 (taken c.in-Ok.turn))

pub next_place-requires : goal.next_place-requires
next_place-requires c = c.in-Ok.ensures.1 (taken c.in-Ok.turn)

pub returns-in-More : goal.returns-in-More
returns-in-More c =
    let t = sym c.in-Ok.ensures.0 ∙ ap (λ (t : Turn). turn_of (Ok t)) c.in-More.is in
    let below = c.in-Ok.ensures.1 (taken c.in-Ok.turn) in
    reply_goes c.requires (omega (arith, below)) t c.next_place.ensures c.told.ensures

pub returns-in-Done : goal.returns-in-Done
returns-in-Done c =
    let t = sym c.in-Ok.ensures.0 ∙ ap (λ (t : Turn). turn_of (Ok t)) c.in-Done.is in
    let below = c.in-Ok.ensures.1 (taken c.in-Ok.turn) in
    reply_ends c.requires (omega (arith, below)) t c.idle.ensures c.told-in-Done.ensures
