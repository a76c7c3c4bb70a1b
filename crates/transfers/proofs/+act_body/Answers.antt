-- The cycle of the action reader and the body of a transfer.
use Rattle.std.specs.Prelude.{Ok, Err}
use native.Mathlib.Omega.{arith}
use mathlib.Core.Path.{refl, sym, ap, ◌∙◌}
use Rattle.escape.specs.Units.{unit_for}
use Rattle.escape.proofs.Units.{data_near, mark_near}
use Rattle.transfers.proofs.Cycle.{begun, act_halts, act_tells, act_opens, walk_starts, end_not, walk_ran_out, walk_saved, walk_loads, walk_ends, walk_acts, walk_halts}
use Rattle.transfers.proofs.+act_body.Goals as goal

pub act-body-requires : goal.act-body-requires
act-body-requires t c =
    let a = c.args in
    let b = begun a.raw.now a.depth a.at a.mark c.begin_action.new.own c.requires.1 (ap Ok c.in-Opens.is) c.in-Ok.ensures in
    (omega (arith, b.far, b.near), (b.near, omega (arith, b.deep)))

pub act-returns-in-Err : goal.act-returns-in-Err
act-returns-in-Err t c =
    let a = c.args in
    rw c.halted.ensures (act_halts (begun a.raw.now a.depth a.at a.mark c.begin_action.new.own {r = Err c.in-Err.halt} c.requires.1 refl c.in-Err.ensures))

pub act-returns-in-Told : goal.act-returns-in-Told
act-returns-in-Told t c =
    let a = c.args in
    rw c.going.ensures (act_tells (omega (arith, c.well_formed.0)) (begun a.raw.now a.depth a.at a.mark c.begin_action.new.own c.requires.1 (ap Ok c.in-Told.is) c.in-Ok.ensures) c.add.ensures)

pub act-returns-in-Opens : goal.act-returns-in-Opens
act-returns-in-Opens t c =
    let a = c.args in
    act_opens (omega (arith, c.well_formed.0)) (begun a.raw.now a.depth a.at a.mark c.begin_action.new.own c.requires.1 (ap Ok c.in-Opens.is) c.in-Ok.ensures) c.add-opened.ensures c.body.ensures

pub body-loop-b-init : goal.body-loop-b-init
body-loop-b-init t c = walk_starts c.requires.0

pub body-returns-in-Gone : goal.body-returns-in-Gone
body-returns-in-Gone t c =
    rw c.halted.ensures (walk_ran_out c.loop-b.invariant (sym c.unit_at-unit.ensures ∙ ap
    unit_for c.in-Gone.is))

pub body-returns-then-save : goal.body-returns-then-save
body-returns-then-save t c =
    rw (c.halted-then-save.ensures, c.number.ensures) (walk_saved c.loop-b.invariant (sym
    c.unit_at-unit.ensures ∙ ap unit_for c.in-Data.is) c.if-save.true)

pub body-load-l-requires : goal.body-load-l-requires
body-load-l-requires t c =
    let k = data_near c.args.raw.now
    c.loop-b.i (sym
    c.unit_at-unit.ensures ∙ ap unit_for
    c.in-Data.is) in (k.1, omega arith)

pub body-loop-b-smaller-in-Data : goal.body-loop-b-smaller-in-Data
body-loop-b-smaller-in-Data t c =
    let k = data_near c.args.raw.now
    c.loop-b.i (sym
    c.unit_at-unit.ensures ∙ ap unit_for
    c.in-Data.is) in omega (
      arith,
      k.0,
      c.load-l.ensures.at,
      c.load-l.ensures.near,
    )

pub body-loop-b-preserved-in-Data : goal.body-loop-b-preserved-in-Data
body-loop-b-preserved-in-Data t c =
    walk_loads c.loop-b.invariant
    (sym c.unit_at-unit.ensures ∙ ap
    unit_for c.in-Data.is)
    c.if-save.false
    c.load-l.ensures c.load-l.auto.notes c.load-l.auto.content

pub body-returns-then-is_end : goal.body-returns-then-is_end
body-returns-then-is_end t c =
    rw c.going.ensures (walk_ends
    c.loop-b.invariant c.of.result (omega (
      arith,
      c.well_formed.0,
    )) (sym
    c.unit_at-unit.ensures ∙ ap unit_for
    c.in-Mark.is)
    c.of.ensures (sym
    c.is_end.ensures ∙
    c.if-is_end.true)
    c.add-last.ensures)

pub body-act-w-requires : goal.body-act-w-requires
body-act-w-requires t c =
    let k = mark_near c.args.raw.now
    c.loop-b.i (sym
    c.unit_at-unit.ensures ∙ ap unit_for
    c.in-Mark.is) in (
      omega (
        arith,
        k.0,
        k.1,
        c.loop-b.invariant.far,
      ),
      (
        c.requires.1,
        λ e. end_not
            c.of.result (sym c.is_end.ensures ∙
            c.if-is_end.false) (c.of.ensures ∙ e),
      ),
    )

pub body-returns-in-Some : goal.body-returns-in-Some
body-returns-in-Some t c =
    walk_halts
    c.loop-b.invariant (sym
    c.unit_at-unit.ensures ∙ ap unit_for
    c.in-Mark.is)
    c.act-w.ensures c.in-Some.is

pub body-loop-b-smaller : goal.body-loop-b-smaller
body-loop-b-smaller t c =
    let k = mark_near c.args.raw.now
    c.loop-b.i (sym
    c.unit_at-unit.ensures ∙ ap unit_for
    c.in-Mark.is) in
    omega (
      arith,
      k.0,
      k.1,
      c.act-w.ensures.far,
      c.act-w.ensures.near,
    )

pub body-loop-b-preserved : goal.body-loop-b-preserved
body-loop-b-preserved t c =
    walk_acts
    c.loop-b.invariant (sym
    c.unit_at-unit.ensures ∙ ap unit_for
    c.in-Mark.is)
    c.act-w.ensures c.in-None.is
    c.act-w.auto.notes c.act-w.auto.content
