-- The worked cases (document 01: bench cases), joined from the crates of the rules.
use Rattle.std.specs.Prelude.{List, map, ◌++◌}
use Rattle.chip_rules.specs.Cases as chip
use Rattle.serial_rules.specs.Cases as serial

pub data Case : Type 0 where
  chip_case : chip.Case → Case
  request_case : serial.Case → Case
  reply_case : serial.ReplyCase → Case

-- the case as the rules work it
unfoldable pub worked : Case → Case
worked (chip_case k) = chip_case (chip.worked k)
worked (request_case k) = request_case (serial.worked k)
worked (reply_case k) = reply_case (serial.reply_worked k)

-- C1 to C8; C9, C11, C12, C13's request, C14; C10, C13's reply, C15
unfoldable pub table : List Case
table = map chip_case chip.cases ++ (map request_case serial.cases ++ map reply_case serial.reply_cases)
