-- The own bytes so far stand in the lent bytes; what remains falls at each one.
use Rattle.std.specs.Prelude.{Ok, Err}
use native.Mathlib.Omega.{arith}
use mathlib.Core.Path.{refl, sym, ap, ◌∙◌}
use borrow.Author.Rules.{rules}
use Rattle.escape.specs.Units.{unit_for}
use Rattle.escape.proofs.Units.{data_near}
use Rattle.shapes.proofs.Turned.{turned}
use Rattle.action_bytes.proofs.Parts.{own_starts, own_below, own_ran_out, own_marked, own_is_refused, own_is_done, own_goes_on}
use Rattle.action_bytes.proofs.own_bytes.Goals as goal

pub loop-at-init : goal.loop-at-init
loop-at-init c = own_starts c.requires.0 (search rules) c.requires.1

pub returns-in-Gone : goal.returns-in-Gone
returns-in-Gone c = own_ran_out c.loop-at.invariant (sym c.unit_at-unit.ensures ∙ ap unit_for c.in-Gone.is)

pub returns-in-Mark : goal.returns-in-Mark
returns-in-Mark c = rw c.number.ensures (own_marked c.loop-at.invariant (sym c.unit_at-unit.ensures ∙ ap unit_for c.in-Mark.is))

pub returns-in-Err : goal.returns-in-Err
returns-in-Err c =
    rw c.number-in-Err.ensures (own_is_refused c.loop-at.invariant (sym c.unit_at-unit.ensures ∙ ap unit_for c.in-Data.is)
    (turned c.shape.result {t = Err c.in-Err.refusal} c.loop-at.held c.in-Data.b c.shape.ensures c.in-Err.ensures refl))

pub bounds-own-held : goal.bounds-own-held
bounds-own-held c = omega (arith, own_below c.loop-at.invariant)

pub returns-in-Done : goal.returns-in-Done
returns-in-Done c =
    own_is_done c.loop-at.invariant (sym c.unit_at-unit.ensures ∙ ap unit_for c.in-Data.is)
    (turned c.shape.result c.loop-at.held c.in-Data.b c.shape.ensures c.in-Ok.ensures (ap Ok c.in-Done.is))

pub overflow_add-held : goal.overflow_add-held
overflow_add-held c = omega (arith, own_below c.loop-at.invariant)

pub loop-at-smaller : goal.loop-at-smaller
loop-at-smaller c =
    let k = data_near c.args.raw.now c.loop-at.i (sym c.unit_at-unit.ensures ∙ ap unit_for c.in-Data.is) in
    omega arith

pub loop-at-preserved : goal.loop-at-preserved
loop-at-preserved c =
    own_goes_on c.loop-at.invariant (sym c.unit_at-unit.ensures ∙ ap unit_for c.in-Data.is)
    (turned c.shape.result c.loop-at.held c.in-Data.b c.shape.ensures c.in-Ok.ensures (ap Ok c.in-More.is))
