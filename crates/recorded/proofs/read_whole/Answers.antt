-- Turn i has read the first i raw bytes as the rules' machine does.
use Rattle.std.specs.Prelude.{Ok}
use borrow.Author.Rules.{rules}
use Rattle.turns.specs.declared.Turn.{Turn}
use native.Mathlib.Omega.{arith}
use mathlib.Core.Path.{sym, ap, ◌∙◌}
use lib.ListN.{length-set}
use Rattle.escape.specs.Units.{unit_for}
use Rattle.escape.proofs.Units.{data_near, mark_near}
use Rattle.serial_rules.specs.Reply.{longest}
use Rattle.serial_rules.proofs.Lent.{take_behind}
use Rattle.serial_rules.proofs.Shapes.{more_fits}
use Rattle.turns.specs.Turns.{turn_of}
use Rattle.shapes.specs.Shapes.{shape_for}
use Rattle.recorded.proofs.Whole.{pass_near, reading_starts, reading_room, reading_ran_out, reading_refused, reading_done, reading_halts, reading_goes_on, reading_acts}
use Rattle.recorded.proofs.read_whole.Goals as goal

pub overflow_sub-last : goal.overflow_sub-last
overflow_sub-last c = omega (arith, c.longest-last.ensures.0, ap longest c.shape-shape.ensures, c.requires)

pub loop-b-init : goal.loop-b-init
loop-b-init c =
    reading_starts c.new-log.ensures (omega (
      arith,
      c.longest-last.ensures.0,
      ap longest c.shape-shape.ensures,
      c.requires,
    )) (omega (
      arith,
      c.longest-last.ensures.0,
      ap longest
          c.shape-shape.ensures,
      c.requires,
      c.longest-last.ensures.1,
    ))
    (search rules)

pub shape_of-notes-in-Gone : goal.shape_of-notes-in-Gone
shape_of-notes-in-Gone c = c.loop-b.invariant.notes_size

pub shape_of-content-in-Gone : goal.shape_of-content-in-Gone
shape_of-content-in-Gone c = c.loop-b.invariant.content_size

pub returns-in-Gone : goal.returns-in-Gone
returns-in-Gone c =
    rw c.stopped_at.ensures (reading_ran_out c.loop-b.invariant
    c.args.kind (sym
    c.shape-shape.ensures) (sym c.unit_at-unit.ensures ∙ ap unit_for
    c.in-Gone.is))

pub shape_of-notes-in-Err : goal.shape_of-notes-in-Err
shape_of-notes-in-Err c = c.loop-b.invariant.notes_size

pub shape_of-content-in-Err : goal.shape_of-content-in-Err
shape_of-content-in-Err c = c.loop-b.invariant.content_size

pub returns-in-Err : goal.returns-in-Err
returns-in-Err c =
    rw (c.stopped_at-in-Err.ensures, c.number.ensures) (reading_refused c.loop-b.invariant
    c.args.kind (sym c.shape-shape.ensures) (sym
    c.unit_at-unit.ensures ∙ ap unit_for
    c.in-Data.is) (sym c.in-Err.ensures))

pub bounds-reply-got : goal.bounds-reply-got
bounds-reply-got c = omega (arith, reading_room c.loop-b.invariant, c.loop-b.invariant.reply_size)

pub overflow_add-got : goal.overflow_add-got
overflow_add-got c =
    omega (
      arith,
      reading_room c.loop-b.invariant,
      c.loop-b.invariant.reply_size,
    )

pub shape_of-notes-in-Done : goal.shape_of-notes-in-Done
shape_of-notes-in-Done c = c.loop-b.invariant.notes_size

pub shape_of-content-in-Done : goal.shape_of-content-in-Done
shape_of-content-in-Done c = c.loop-b.invariant.content_size

pub returns-in-Done : goal.returns-in-Done
returns-in-Done c =
    rw c.stopped_at-in-Done.ensures (reading_done c.loop-b.invariant
    c.args.kind
    (sym c.shape-shape.ensures) (sym
    c.unit_at-unit.ensures ∙ ap unit_for
    c.in-Data.is) (sym c.in-Ok.ensures ∙ ap (λ (t : Turn). turn_of (Ok t))
    c.in-Done.is))

pub slice_bounds-pass-count : goal.slice_bounds-pass-count
slice_bounds-pass-count c =
    let k = data_near c.args.raw.now
    c.loop-b.i (sym c.unit_at-unit.ensures ∙
    ap unit_for c.in-Data.is) in k.1

pub slice_bounds-pass-start : goal.slice_bounds-pass-start
slice_bounds-pass-start c =
    let k = data_near c.args.raw.now
    c.loop-b.i (sym c.unit_at-unit.ensures ∙
    ap unit_for c.in-Data.is) in k.1

pub pass-n-requires : goal.pass-n-requires
pass-n-requires c = (
  omega (
    arith,
    more_fits (shape_for
        c.shape-shape.result)
        c.loop-b.got
        c.in-Data.b (sym c.in-Ok.ensures ∙ ap (λ (t : Turn). turn_of (Ok t)) c.in-More.is),
    c.loop-b.invariant.whole,
  ),
  omega (
    arith,
    length-set c.loop-b.reply
        c.loop-b.got
        c.in-Data.b,
    c.loop-b.invariant.reply_size,
    c.loop-b.invariant.most,
  ),
)

pub overflow_add-got-in-More : goal.overflow_add-got-in-More
overflow_add-got-in-More c =
    omega (
      arith,
      c.pass-n.ensures.before,
      c.loop-b.invariant.most,
    )

pub overflow_add-i : goal.overflow_add-i
overflow_add-i c =
    let k = data_near c.args.raw.now c.loop-b.i
    (sym c.unit_at-unit.ensures ∙ ap unit_for
    c.in-Data.is) in omega (
      arith,
      pass_near c.args.raw.now c.in-Data.next k.1
          c.pass-n.ensures,
      c.well_formed.1.0,
    )

pub loop-b-smaller-in-More : goal.loop-b-smaller-in-More
loop-b-smaller-in-More c =
    let k = data_near c.args.raw.now c.loop-b.i
    (sym c.unit_at-unit.ensures ∙ ap unit_for
    c.in-Data.is) in omega (
      arith,
      k.0,
      pass_near c.args.raw.now c.in-Data.next k.1
          c.pass-n.ensures,
    )

pub loop-b-preserved-in-More : goal.loop-b-preserved-in-More
loop-b-preserved-in-More c =
    reading_goes_on c.loop-b.invariant (sym
    c.unit_at-unit.ensures ∙ ap unit_for
    c.in-Data.is) (sym c.in-Ok.ensures ∙ ap (λ (t : Turn). turn_of (Ok t)) c.in-More.is) (rw (take_behind
    c.in-Data.next c.args.raw.now) at c.pass-n.ensures)

pub shape_of-notes-in-Some : goal.shape_of-notes-in-Some
shape_of-notes-in-Some c =
    c.notes-1.given ∙
    c.loop-b.invariant.notes_size

pub shape_of-content-in-Some : goal.shape_of-content-in-Some
shape_of-content-in-Some c =
    c.content-1.given ∙
    c.loop-b.invariant.content_size

pub returns-in-Some : goal.returns-in-Some
returns-in-Some c =
    rw c.stopped_at-in-Some.ensures (reading_halts
    c.loop-b.invariant
    c.args.kind (sym
    c.shape-shape.ensures) (sym
    c.unit_at-unit.ensures ∙ ap
    unit_for c.in-Mark.is)
    c.read_action-w.ensures c.in-Some.is)

pub loop-b-smaller : goal.loop-b-smaller
loop-b-smaller c =
    let k = mark_near c.args.raw.now
    c.loop-b.i (sym
    c.unit_at-unit.ensures ∙ ap unit_for
    c.in-Mark.is) in omega (
      arith,
      k.0,
      c.read_action-w.ensures.far,
      c.read_action-w.ensures.near,
    )

pub loop-b-preserved : goal.loop-b-preserved
loop-b-preserved c =
    reading_acts
    c.loop-b.invariant (sym
    c.unit_at-unit.ensures ∙ ap unit_for
    c.in-Mark.is)
    c.read_action-w.ensures c.in-None.is
    c.notes-1.given c.content-1.given
