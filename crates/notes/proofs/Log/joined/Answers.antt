-- The last note has room for the bytes of the run.
use native.Mathlib.Omega.{arith}
use lib.ListN.{length}
use Rattle.notes.proofs.Laws.{join_facts, run_within}
use mathlib.Core.Path.{sym}
use lib.Seq.{length-take-le}
use Rattle.notes.proofs.Log.joined.Goals as goal

pub overflow_sub-left : goal.overflow_sub-left
overflow_sub-left c =
    omega (arith, (join_facts c.args.self (length c.args.raw.now) c.requires).2)

pub slice_bounds-put_data-end : goal.slice_bounds-put_data-end
slice_bounds-put_data-end c =
    sym (length-take-le _ c.args.raw.now (run_within c.args.self c.args.raw.now c.data_ahead-n.ensures).1)

pub grown-requires : goal.grown-requires
grown-requires c =
    let f = join_facts c.args.self (length c.args.raw.now) c.requires in let w = run_within c.args.self c.args.raw.now
    c.data_ahead-n.ensures in (f.0, omega (arith, w.0, f.2), omega (arith, w.1, f.3))
