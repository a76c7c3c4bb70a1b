-- After the checks only the room is left to test.
use Rattle.std.proofs.Common.{arith, rules}
use Rattle.request_writer.proofs.Answers.{encoded}
use Rattle.request_writer.proofs.write_request.Goals as goal

pub returns : goal.returns
returns c =
    let a = c.args in
    encoded a.carrier a.style a.call a.block.now a.text.now a.out.now (omega arith) c.length_byte.ensures c.row_of-row.ensures c.given_ok.ensures (search rules)
    c.write_row.ensures
