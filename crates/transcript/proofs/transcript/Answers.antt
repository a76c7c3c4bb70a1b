-- The text of the results that the player stored is the script's text, and all of them fit.
use Rattle.transcript.proofs.Laws.{joined}
use mathlib.Core.Path.{refl}
use Rattle.transcript.proofs.transcript.Goals as goal

pub returns : goal.returns
returns c =
    joined c.args.chip c.args.script.now _ c.play-end.result _ refl c.play-end.ensures c.args.out.now _ c.write_text.result c.write_text.ensures
