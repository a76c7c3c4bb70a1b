-- Turn i has passed over the reports of the first i raw bytes, and their notes and data stand in the lent bytes, where those of all would fit.
use Prim.Native.Nat.{◌+◌}
use native.Mathlib.Omega.{arith}
use mathlib.Core.Path.{refl, sym, ap, ◌∙◌}
use borrow.Author.Rules.{rules}
use borrow.Author.Tests.{not-false}
use Rattle.link.specs.declared.Link.{Link}
use Rattle.refusal.specs.declared.Refusal.TheVariants.{NoRoom}
use Rattle.refusal.specs.Refusals.{number}
use Rattle.answers.specs.declared.Answer.TheVariants as variant
use Rattle.link_loop.specs.Parts.{ended_from}
use Rattle.link_loop.proofs.Notes.{ends_lent, ends_reply, room_length, content_length, taken_part, taken_within, loads_over, loads_within, begins, no_room, all_read, whole_reply, counts, one_more, ended, step_low}
use Rattle.link_loop.proofs.Plains.{still_usable}
use Rattle.link_loop.proofs.run.Goals as goal

pub returns-then-lacks_room : goal.returns-then-lacks_room
returns-then-lacks_room c =
    no_room (sym c.lacks_room.ensures ∙ c.if-lacks_room.true)
    (rw c.number.ensures at c.ended.ensures ∙ ap (ended_from c.args.link (variant.Refused (number NoRoom)) 0) c.new.ensures)

pub loop-at-init : goal.loop-at-init
loop-at-init c = (omega arith, rw c.new-log.ensures (begins _ _ _ _ _))

pub slice_bounds-take_reply-count : goal.slice_bounds-take_reply-count
slice_bounds-take_reply-count c = omega (arith, c.loop-at.invariant.0)

pub slice_bounds-take_reply-start : goal.slice_bounds-take_reply-start
slice_bounds-take_reply-start c = c.loop-at.invariant.0

pub overflow_add-i : goal.overflow_add-i
overflow_add-i c =
    omega (arith, (taken_within c.args.raw.now c.loop-at.i c.loop-at.invariant.0 c.take_reply-taken.ensures), c.well_formed.1.0)

pub shape_of-room-then-taken : goal.shape_of-room-then-taken
shape_of-room-then-taken c = room_length c.loop-at.invariant.1

pub shape_of-content-then-taken : goal.shape_of-content-then-taken
shape_of-content-then-taken c = content_length c.loop-at.invariant.1

pub returns-then-taken : goal.returns-then-taken
returns-then-taken c =
    whole_reply c.args.raw.now c.loop-at.i (sym c.lacks_room.ensures ∙ c.if-lacks_room.false) c.loop-at.invariant.0 c.loop-at.invariant.1
    c.take_reply-taken.ensures c.if-taken.true
    (c.ended-then-taken.ensures ∙ ap
    (λ (l : Link). ended_from l (variant.Reply c.take_reply-taken.result.got) (c.loop-at.i + c.take_reply-taken.result.used) c.loop-at.log)
    c.new-then-taken.ensures)

pub with_got-next-requires : goal.with_got-next-requires
with_got-next-requires c = c.take_reply-taken.ensures.small

pub shape_of-room-then-raw-i : goal.shape_of-room-then-raw-i
shape_of-room-then-raw-i c = room_length c.loop-at.invariant.1

pub shape_of-content-then-raw-i : goal.shape_of-content-then-raw-i
shape_of-content-then-raw-i c = content_length c.loop-at.invariant.1

pub returns-then-raw-i : goal.returns-then-raw-i
returns-then-raw-i c =
    all_read c.args.raw.now (c.loop-at.i + c.take_reply-taken.result.used) (sym c.lacks_room.ensures ∙ c.if-lacks_room.false)
    (taken_within c.args.raw.now c.loop-at.i c.loop-at.invariant.0 c.take_reply-taken.ensures)
    (taken_part c.args.raw.now c.loop-at.i c.loop-at.invariant.1 c.take_reply-taken.ensures c.if-taken.false c.with_got-next.ensures)
    (omega (arith, (taken_within c.args.raw.now c.loop-at.i c.loop-at.invariant.0 c.take_reply-taken.ensures), c.if-raw-i.true))
    c.ended-then-raw-i.ensures

pub overflow_add-i-in-loop-at : goal.overflow_add-i-in-loop-at
overflow_add-i-in-loop-at c =
    omega (arith, c.if-raw-i.false, c.well_formed.1.0)

pub shape_of-room-then-ends : goal.shape_of-room-then-ends
shape_of-room-then-ends c =
    room_length c.loop-at.invariant.1

pub shape_of-content-then-ends : goal.shape_of-content-then-ends
shape_of-content-then-ends c =
    content_length c.loop-at.invariant.1

pub returns-then-ends : goal.returns-then-ends
returns-then-ends c =
    ended c.args.raw.now (c.loop-at.i + c.take_reply-taken.result.used) (sym c.lacks_room.ensures ∙ c.if-lacks_room.false)
    (taken_within c.args.raw.now c.loop-at.i c.loop-at.invariant.0 c.take_reply-taken.ensures)
    (taken_part c.args.raw.now c.loop-at.i c.loop-at.invariant.1 c.take_reply-taken.ensures c.if-taken.false c.with_got-next.ensures)
    c.if-raw-i.false c.step-s.ensures c.step-s.result.answer refl (sym c.ends.ensures ∙ c.if-ends.true) c.ended-then-ends.ensures

pub pass_load-log-requires : goal.pass_load-log-requires
pass_load-log-requires c =
    still_usable c.step-s.ensures (not-false _ (ends_lent c.step-s.result.answer _ _ ∙ (sym c.ends.ensures ∙ c.if-ends.false)))

pub overflow_sub-i : goal.overflow_sub-i
overflow_sub-i c = c.pass_load-log.ensures.grows

pub overflow_add-i-in_default : goal.overflow_add-i-in_default
overflow_add-i-in_default c =
    omega (
      arith,
      (loads_within c.args.raw.now ((c.loop-at.i + c.take_reply-taken.result.used) + 1)
          (step_low c.args.raw.now (c.loop-at.i + c.take_reply-taken.result.used) c.if-raw-i.false) c.pass_load-log.ensures),
      c.well_formed.1.0,
    )

pub loop-at-smaller : goal.loop-at-smaller
loop-at-smaller c =
    omega (
      arith,
      (loads_within c.args.raw.now ((c.loop-at.i + c.take_reply-taken.result.used) + 1)
          (step_low c.args.raw.now (c.loop-at.i + c.take_reply-taken.result.used) c.if-raw-i.false) c.pass_load-log.ensures),
      c.if-raw-i.false,
    )

pub loop-at-preserved : goal.loop-at-preserved
loop-at-preserved c =
    let raw = c.args.raw.now in
    let i = c.loop-at.i in
    let j = i + c.take_reply-taken.result.used in
    let fits = sym c.lacks_room.ensures ∙ c.if-lacks_room.false in
    let near = taken_within raw i c.loop-at.invariant.0 c.take_reply-taken.ensures in
    let here = taken_part raw i c.loop-at.invariant.1 c.take_reply-taken.ensures c.if-taken.false c.with_got-next.ensures in
    let room = counts raw j fits near here c.if-raw-i.false c.step-s.ensures (omega (arith, c.well_formed.1.0)) (omega (arith, c.well_formed.1.1.1.1.1.0))
    (search rules) in
    let told = one_more raw j fits near here c.if-raw-i.false c.step-s.ensures (sym c.ends.ensures ∙ c.if-ends.false) room c.add-noted.ensures in
    (loads_within raw (j + 1) (step_low raw j c.if-raw-i.false) c.pass_load-log.ensures, loads_over raw (j + 1) told c.pass_load-log.ensures)

pub shape_of-room-in-loop-at : goal.shape_of-room-in-loop-at
shape_of-room-in-loop-at c = room_length c.loop-at.invariant.1

pub shape_of-content-in-loop-at : goal.shape_of-content-in-loop-at
shape_of-content-in-loop-at c = content_length c.loop-at.invariant.1

pub returns-in-loop-at : goal.returns-in-loop-at
returns-in-loop-at c =
    ended c.args.raw.now (c.loop-at.i + c.take_reply-taken.result.used) (sym c.lacks_room.ensures ∙ c.if-lacks_room.false)
    (taken_within c.args.raw.now c.loop-at.i c.loop-at.invariant.0 c.take_reply-taken.ensures)
    (taken_part c.args.raw.now c.loop-at.i c.loop-at.invariant.1 c.take_reply-taken.ensures c.if-taken.false c.with_got-next.ensures)
    c.if-raw-i.false c.step-s.ensures (variant.Reply c.in-Reply.length) c.in-Reply.is (ends_reply c.in-Reply.length) c.ended-in-loop-at.ensures
