-- One digit, or the digits of the number without its last, and the last.
use native.Mathlib.Omega.{arith}
use lib.ListN.{length, length-append}
use mathlib.Core.Path.{ap}
use Rattle.script_text.proofs.Writers.{wrote_then}
use Rattle.script_lines.proofs.Decimal.{decimal_few, decimal_more}
use Rattle.script_text.proofs.+put_digits.Goals as goal

pub put_byte-requires : goal.put_byte-requires
put_byte-requires t c = omega (arith, ap length (decimal_few c.args.n (omega arith)))

pub returns-then-n-lt10 : goal.returns-then-n-lt10
returns-then-n-lt10 t c = rw (decimal_few c.args.n (omega arith)) c.put_byte.ensures

pub put_digits-a-requires : goal.put_digits-a-requires
put_digits-a-requires t c = omega (arith, simp length-append at (ap length (decimal_more c.args.n (omega arith) (omega arith))))

pub put_byte-requires-2 : goal.put_byte-requires-2
put_byte-requires-2 t c = omega (arith, simp length-append at (ap length (decimal_more c.args.n (omega arith) (omega arith))))

pub returns : goal.returns
returns t c = rw (decimal_more c.args.n (omega arith) (omega arith)) (wrote_then c.put_digits-a.ensures c.put_byte-2.ensures)
