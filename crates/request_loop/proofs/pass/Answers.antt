-- Outside a request, or with an escape seen, no byte is passed over; else the bytes copied are plain and in the middle of a field, where the
-- limits leave room for them.
use Prim.Native.Nat.{◌+◌, ◌-◌}
use native.Mathlib.Omega.{arith}
use borrow.Author.Rules.{rules}
use Rattle.request_reader.proofs.Steps.{inside_room}
use Rattle.request_loop.proofs.Plains.{passes_none, inside_keeps, ahead_of, passes_plain, end_fits}
use Rattle.request_loop.proofs.pass.Goals as goal

pub shared_ref_as_front-ahead : goal.shared_ref_as_front-ahead
shared_ref_as_front-ahead c =
    let room = inside_room c.args.reader (inside_keeps c.args.reader c.in-Inside.is c.requires) in omega arith

pub overflow_add-count : goal.overflow_add-count
overflow_add-count c =
    let r = c.args.reader in
    let lent = c.args.body.now in
    let ok = inside_keeps r c.in-Inside.is c.requires in
    let a = ahead_of r lent ok c.told-body (c.fits-body 1) c.ahead-most.ensures in
    omega (arith, end_fits r lent c.ahead-most.result ok c.told-body a)

pub slice_bounds-copy_plain-end : goal.slice_bounds-copy_plain-end
slice_bounds-copy_plain-end c =
    let r = c.args.reader in
    let lent = c.args.body.now in
    let ok = inside_keeps r c.in-Inside.is c.requires in
    let a = ahead_of r lent ok c.told-body (c.fits-body 1) c.ahead-most.ensures in
    omega (arith, end_fits r lent c.ahead-most.result ok c.told-body a)

pub returns-in-Inside : goal.returns-in-Inside
returns-in-Inside c =
    let r = c.args.reader in
    let lent = c.args.body.now in
    let n = c.ahead-most.result in
    let ok = inside_keeps r c.in-Inside.is c.requires in
    let a = ahead_of r lent ok c.told-body (c.fits-body 1) c.ahead-most.ensures in
    passes_plain r c.in-Inside.is ok (search rules) lent n (r.count + n - r.count) a (omega arith) c.told-body c.copy_plain.ensures

pub returns-in_default : goal.returns-in_default
returns-in_default c = passes_none c.args.reader c.args.body.now c.args.raw.now

pub returns-in_default-2 : goal.returns-in_default-2
returns-in_default-2 c = passes_none c.args.reader c.args.body.now c.args.raw.now
