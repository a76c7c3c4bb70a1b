-- One digit, or one more than the number without its last has; never more than twenty.
use native.Mathlib.Omega.{arith}
use mathlib.Core.Path.{ap}
use lib.ListN.{length, length-append}
use Rattle.script_lines.proofs.Decimal.{decimal_few, decimal_more, digits_most}
use Rattle.script_lines.proofs.+digit_count.Goals as goal

pub returns-then-n-lt10 : goal.returns-then-n-lt10
returns-then-n-lt10 t c = let e = ap length (decimal_few c.args.n (omega arith)) in record { digits = omega arith; most = omega arith }

pub returns-else-n-lt10 : goal.returns-else-n-lt10
returns-else-n-lt10 t c =
    let e = simp length-append at (ap length (decimal_more c.args.n (omega arith) (omega arith))) in
    let m = digits_most 19 20 c.args.n (omega arith) in
    record { digits = omega arith; most = omega arith }
