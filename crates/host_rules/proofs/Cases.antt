-- The worked cases of the host end, by computation.
use mathlib.Core.Path.{◌≡◌, refl}
use mathlib.Core.Bool.{false}
use mathlib.Core.List.{[], ◌∷◌, map}
use Rattle.serial_rules.specs.Escape.{escaped}
use Rattle.serial_rules.specs.Marks.{inward_class}
use Rattle.serial_rules.specs.Reply.{shape_turn}
use Rattle.serial_rules.specs.Link as link
use Rattle.serial_rules.specs.Session.{has_zero, tells}
use Rattle.serial_rules.specs.Cases.{loads}
use Rattle.host_rules.specs.Actions.{sent_raw, sent_ok, sent_number}
use Rattle.host_rules.specs.Streams.{raw_of, stands}
use Rattle.host_rules.specs.Streams as streams
use Rattle.host_rules.specs.Cases.{action_worked, action_cases, stream_worked, stream_cases, told_of, fifth, fifth_told, torn_told}

pub every_action : map action_worked action_cases ≡ action_cases
unfolding escaped has_zero sent_raw sent_ok sent_number action_worked action_cases
every_action = refl

pub every_stream : map stream_worked stream_cases ≡ stream_cases
unfolding escaped inward_class shape_turn link.meaning_of link.look link.meets link.step link.enters link.begin tells sent_raw raw_of stands streams.closes stream_worked stream_cases
every_stream = refl

-- N5 a fifth stands nowhere, and is 13
pub fifth_stands_nowhere : stands [] fifth ≡ false
unfolding stands
fifth_stands_nowhere = refl

pub fifth_refused : fifth_told ≡ told_of (loads ∷ loads ∷ loads ∷ loads ∷ link.refusal 13 ∷ [])
unfolding inward_class shape_turn link.meaning_of link.look link.meets link.step link.enters link.begin tells
fifth_refused = refl

-- N1 the reply comes at the second escape, and the Escape state is never told
pub torn_not_told : torn_told ≡ told_of (link.reply (0x9B ∷ []) ∷ link.character 0x81 ∷ [])
unfolding inward_class shape_turn link.meaning_of link.look link.meets link.step link.enters link.begin tells
torn_not_told = refl
