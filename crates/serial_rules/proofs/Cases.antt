-- The worked cases of requests and replies, by computation.
use mathlib.Core.Path.{◌≡◌, refl}
use mathlib.Core.List.{map}
use Rattle.serial_rules.specs.Marks.{starts_request, inward_class}
use Rattle.serial_rules.specs.Body.{ended, body_turn}
use Rattle.serial_rules.specs.Reader.{step}
use Rattle.serial_rules.specs.Stream.{feed}
use Rattle.serial_rules.specs.Reply.{shape_turn, reply_read}
use Rattle.serial_rules.specs.Fields.{fields_of, asked_by}
use Rattle.serial_rules.specs.Link as link
use Rattle.serial_rules.specs.Session.{tells}
use Rattle.serial_rules.specs.Record.{passes, recorded, recorded_reply}
use Rattle.serial_rules.specs.Cases.{worked, cases, reply_worked, reply_cases, transfer_worked, transfer_cases, session_worked, session_cases}

pub every_case : map worked cases ≡ cases
unfolding starts_request ended body_turn step feed fields_of asked_by worked cases
every_case = refl

pub every_reply : map reply_worked reply_cases ≡ reply_cases
unfolding inward_class fields_of shape_turn reply_read link.meaning_of link.look link.meets link.step link.enters link.begin tells reply_worked reply_cases
every_reply = refl

pub every_transfer : map transfer_worked transfer_cases ≡ transfer_cases
unfolding inward_class shape_turn link.meaning_of link.look link.meets link.step link.enters link.begin passes recorded recorded_reply transfer_worked transfer_cases
every_transfer = refl

pub every_session : map session_worked session_cases ≡ session_cases
unfolding inward_class shape_turn link.meaning_of link.look link.meets link.step link.enters link.begin tells session_worked session_cases
every_session = refl
