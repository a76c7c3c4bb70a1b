-- A code of no arm is none of the table.
use Rattle.std.proofs.Common.{rules}
use Rattle.serial_rules.specs.Reply.{kind_in}
use Rattle.serial_rules.proofs.Codes.{unlisted_code}
use Rattle.kind.proofs.CallKind.of_request.Goals as goal

pub returns-in_default : goal.returns-in_default
unfolding kind_in
returns-in_default c = rw (unlisted_code c.args.code (record { not_00 = search rules; not_02 = search rules; not_04 = search rules; not_06 = search rules; not_08 = search rules; not_0A = search rules; not_0C = search rules; not_0E = search rules; not_10 = search rules; not_12 = search rules; not_14 = search rules; not_16 = search rules }))
