-- A call goes by its kind; a number that is none is refused before the first byte.
use Rattle.flat_kind.proofs.Numbers.{kind_known, kind_unknown}
use Rattle.flat_recorded.proofs.Recordings.{called, not_called_lem}
use Rattle.flat_recorded.proofs.read_recorded.Goals as goal

pub returns-in-Some : goal.returns-in-Some
returns-in-Some c =
    let k = kind_known c.args.call c.args.out_length c.in-Some.ensures in
    called k.0 k.1 c.read_recorded.ensures c.flat_recorded.ensures

pub returns-in-None : goal.returns-in-None
returns-in-None c = not_called_lem (kind_unknown c.args.call c.args.out_length c.in-None.ensures) (rw c.number.ensures at c.flat_recorded-in-None.ensures)
