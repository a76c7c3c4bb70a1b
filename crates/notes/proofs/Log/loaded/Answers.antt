-- A note that goes on has room for one byte more.
use native.Mathlib.Omega.{arith}
use mathlib.Core.Path.{sym, ◌∙◌}
use Rattle.notes.proofs.Laws.{goes_facts}
use Rattle.notes.proofs.Log.loaded.Goals as goal

pub grown-requires : goal.grown-requires
grown-requires c =
    let f = goes_facts c.args.self (sym c.goes_on.ensures ∙ c.if-goes_on.true) in (f.0, omega (arith, f.2), omega (arith, c.requires.1))
