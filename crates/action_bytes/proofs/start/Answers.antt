-- A fifth transfer is refused before its own bytes are read.
use mathlib.Core.Path.{sym, ◌∙◌}
use borrow.Author.Rules.{rules}
use Rattle.std.proofs.lemmas.Result.{err_from_is_err_and}
use Rattle.action_bytes.proofs.Parts.{fifth_starts, halted_starts, whole_starts}
use Rattle.action_bytes.proofs.start.Goals as goal

pub returns-then-is_fifth : goal.returns-then-is_fifth
returns-then-is_fifth c = rw c.number.ensures (fifth_starts c.args.action c.args.depth c.requires.0 (sym c.is_fifth.ensures ∙ c.if-is_fifth.true))

pub returns-in_err-owned : goal.returns-in_err-owned
returns-in_err-owned c =
    let p = err_from_is_err_and c.from_residual.result c.from_residual.ensures.1 in
    rw (p.1, p.2) (halted_starts c.args.action c.args.depth (sym c.is_fifth.ensures ∙ c.if-is_fifth.false) c.in_err-owned.ensures)

pub returns : goal.returns
returns c = rw (c.finish.ensures, c.told_by.ensures) (whole_starts c.args.depth (search rules) c.args.action (sym c.is_fifth.ensures ∙ c.if-is_fifth.false) c.in_ok-owned.ensures)
