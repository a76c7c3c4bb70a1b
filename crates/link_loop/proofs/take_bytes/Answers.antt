-- Each turn takes a run of plain bytes and the data byte behind it, where there is one.
use Rattle.std.specs.Prelude.{Ok}
use borrow.Author.Rules.{rules}
use native.Mathlib.Omega.{arith}
use mathlib.Core.Path.{sym, ap, ◌∙◌}
use Rattle.escape.specs.Units.{unit_for}
use Rattle.turns.specs.Turns.{turn_of}
use Rattle.shapes.specs.Shapes.{shape_for}
use Rattle.link_loop.proofs.Replies.{taking_none, copy_taken, taking_more, taking_done, taking_stops}
use Rattle.link_loop.proofs.take_bytes.Goals as goal

pub loop-got-init : goal.loop-got-init
loop-got-init c = λ k e. taking_none k c.args.from (search rules) (omega (arith, c.well_formed.1.0))

pub overflow_add-i : goal.overflow_add-i
overflow_add-i c =
    let v = copy_taken (shape_for c.shape-shape.result) (sym c.shape-shape.ensures) (c.loop-got.invariant c.args.kind (sym c.shape-shape.ensures)) c.longest-longest.ensures.0 c.loop-got-test.true c.ahead.ensures c.copy_plain-n.ensures in
    omega (arith, v.0.within)

pub overflow_add-got : goal.overflow_add-got
overflow_add-got c =
    let v = copy_taken (shape_for c.shape-shape.result) (sym c.shape-shape.ensures) (c.loop-got.invariant c.args.kind (sym c.shape-shape.ensures)) c.longest-longest.ensures.0 c.loop-got-test.true c.ahead.ensures c.copy_plain-n.ensures in
    omega (arith, v.0.small)

pub returns-in_default : goal.returns-in_default
returns-in_default c =
    let v = copy_taken (shape_for c.shape-shape.result) (sym c.shape-shape.ensures) (c.loop-got.invariant c.args.kind (sym c.shape-shape.ensures)) c.longest-longest.ensures.0 c.loop-got-test.true c.ahead.ensures c.copy_plain-n.ensures in
    rw c.part_taken.ensures (taking_stops v.0)

pub returns-in_default-turn : goal.returns-in_default-turn
returns-in_default-turn c =
    let v = copy_taken (shape_for c.shape-shape.result) (sym c.shape-shape.ensures) (c.loop-got.invariant c.args.kind (sym c.shape-shape.ensures)) c.longest-longest.ensures.0 c.loop-got-test.true c.ahead.ensures c.copy_plain-n.ensures in
    rw c.part_taken-in_default-turn.ensures (taking_stops v.0)

pub bounds-reply-got : goal.bounds-reply-got
bounds-reply-got c =
    let v = copy_taken (shape_for c.shape-shape.result) (sym c.shape-shape.ensures) (c.loop-got.invariant c.args.kind (sym c.shape-shape.ensures)) c.longest-longest.ensures.0 c.loop-got-test.true c.ahead.ensures c.copy_plain-n.ensures in
    omega (arith, v.1, c.longest-longest.ensures)

pub overflow_add-result : goal.overflow_add-result
overflow_add-result c =
    let v = copy_taken (shape_for c.shape-shape.result) (sym c.shape-shape.ensures) (c.loop-got.invariant c.args.kind (sym c.shape-shape.ensures)) c.longest-longest.ensures.0 c.loop-got-test.true c.ahead.ensures c.copy_plain-n.ensures in
    omega (arith, v.0.small)

pub returns-in-Done : goal.returns-in-Done
returns-in-Done c =
    let v = copy_taken (shape_for c.shape-shape.result) (sym c.shape-shape.ensures) (c.loop-got.invariant c.args.kind (sym c.shape-shape.ensures)) c.longest-longest.ensures.0 c.loop-got-test.true c.ahead.ensures c.copy_plain-n.ensures in
    taking_done (shape_for c.shape-shape.result) (sym c.shape-shape.ensures) v.0 v.1 (sym c.unit_at-unit.ensures ∙ ap unit_for c.in-Data.is) (omega (arith, v.1, c.longest-longest.ensures))
    (sym c.in-Ok.ensures ∙ ap (λ t. turn_of (Ok t)) c.in-Done.is)

pub overflow_add-got-in-More : goal.overflow_add-got-in-More
overflow_add-got-in-More c =
    let v = copy_taken (shape_for c.shape-shape.result) (sym c.shape-shape.ensures) (c.loop-got.invariant c.args.kind (sym c.shape-shape.ensures)) c.longest-longest.ensures.0 c.loop-got-test.true c.ahead.ensures c.copy_plain-n.ensures in
    omega (arith, v.0.small)

pub loop-got-preserved : goal.loop-got-preserved
loop-got-preserved c =
    λ k e.
    let v = copy_taken (shape_for c.shape-shape.result) e (c.loop-got.invariant k e) c.longest-longest.ensures.0 c.loop-got-test.true c.ahead.ensures c.copy_plain-n.ensures in
    taking_more (shape_for c.shape-shape.result) e v.0 v.1 (sym c.unit_at-unit.ensures ∙ ap unit_for c.in-Data.is) (omega (arith, v.1, c.longest-longest.ensures))
    (sym c.in-Ok.ensures ∙ ap (λ t. turn_of (Ok t)) c.in-More.is)
