-- No byte is an escape, or the first that is one is looked for.
use native.Mathlib.Omega.{arith}
use mathlib.Core.Path.{sym, ◌∙◌}
use Prim.Native.Nat.{◌≤◌}
use lib.ListN.{length}
use lib.Seq.{length-take-le}
use Rattle.turns.specs.Plain.{is_data}
use Rattle.turns.proofs.Plain.{run_clear, run_is, run_within}
use Rattle.turns.proofs.data_ahead.Goals as goal

pub returns-then-not-has_escape : goal.returns-then-not-has_escape
returns-then-not-has_escape c =
    let raw = c.args.raw.now in
    let h : c.min.result ≤ length raw = omega (arith, c.min.ensures) in
    length-take-le c.min.result raw h ∙ run_clear c.min.result raw h c.has_escape.ensures c.if-not-has_escape.true
    ∙ (rw c.min.ensures (run_within is_data c.args.most raw))

pub returns : goal.returns
returns c =
    let raw = c.args.raw.now in
    c.before_escape.ensures ∙ sym (run_is is_data c.min.result raw) ∙ (rw c.min.ensures (run_within is_data c.args.most raw))
