-- In a load the bytes join the last note, else none does.
use mathlib.Core.Path.{sym, ◌∙◌}
use Rattle.link_loop.proofs.Loads.{load_none, load_joined}
use Rattle.link_loop.proofs.pass_load.Goals as goal

pub returns-then-in_load : goal.returns-then-in_load
returns-then-in_load c =
    load_joined c.args.link c.requires (sym c.in_load.ensures ∙ c.if-in_load.true) c.add_run.ensures

pub returns : goal.returns
returns c = load_none c.args.link
