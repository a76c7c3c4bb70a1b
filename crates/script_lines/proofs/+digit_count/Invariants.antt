-- The recursion counts the digits from the last, n falling.
use Rattle.script_lines.proofs.+digit_count.Given as goal

abbrev pub decreases-digit_count : goal.decreases-digit_count
decreases-digit_count l = l.n
