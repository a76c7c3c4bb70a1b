-- One store is a text of one byte.
use Rattle.script_text.proofs.Writers.{wrote_byte}
use Rattle.script_text.proofs.put_byte.Goals as goal

pub returns : goal.returns
returns c = wrote_byte _ _ _ c.requires
