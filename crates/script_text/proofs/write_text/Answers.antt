-- The room is tested exactly before the first byte is written; the lines and the last line, written one after the other, are the text.
use native.Mathlib.Omega.{arith}
use Rattle.script_text.proofs.Writers.{wrote_then}
use Rattle.script_text.proofs.Done.{held, enough, short, full}
use Rattle.script_text.proofs.write_text.Goals as goal

pub put_lines-at-requires-clause-room : goal.put_lines-at-requires-clause-room
put_lines-at-requires-clause-room c =
    let a = c.args in
    let h = enough a.results.now a.played a.answer a.out.now c.text_fits.ensures c.if-text_fits.true in
    omega arith

pub put_end-requires : goal.put_end-requires
put_end-requires c =
    let a = c.args in
    let h = enough a.results.now a.played a.answer a.out.now c.text_fits.ensures c.if-text_fits.true in
    omega arith

pub returns-then-text_fits : goal.returns-then-text_fits
returns-then-text_fits c =
    let a = c.args in
    full _ _ _ _ (λ i. omega (arith, c.type_inv.results i)) (omega arith)
    (held a.results.now a.played a.answer a.out.now c.text_fits.ensures c.if-text_fits.true)
    (wrote_then c.put_lines-at.ensures c.put_end.ensures)

pub returns : goal.returns
returns c = short _ _ _ _ (λ i. omega (arith, c.type_inv.results i)) (omega arith) c.text_fits.ensures c.if-text_fits.false
