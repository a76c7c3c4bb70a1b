-- What a byte does, as the rules speak of it.
use Rattle.std.specs.Prelude.{Result, Ok, Err}
use Rattle.serial_rules.specs.Body as body
use Rattle.refusal.specs.declared.Refusal.{Refusal}
use Rattle.refusal.specs.Refusals.{number}
use Rattle.turns.specs.declared.Turn.{Turn}
use Rattle.turns.specs.declared.Turn.TheVariants.{More, Done}

abbrev pub turn_of : Result Turn Refusal → body.Turn
turn_of (Ok More) = body.more
turn_of (Ok Done) = body.done
turn_of (Err r) = body.refused (number r)
