-- A body that ends inside the block has no name.
use mathlib.Core.Path.{sym}
use Rattle.strings.proofs.Laws.{no_name}
use Rattle.strings.proofs.file_name.Goals as goal

pub returns-then-body-lt-FILE_BLOCK : goal.returns-then-body-lt-FILE_BLOCK
returns-then-body-lt-FILE_BLOCK c = sym (no_name c.args.body.now c.if-body-lt-FILE_BLOCK.true)
