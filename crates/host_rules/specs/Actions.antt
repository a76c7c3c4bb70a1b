-- The actions that a host sends inward (document 02, R-3): their bytes, and the answers of their writer.
use Rattle.std.specs.Prelude.{ℕ, Bool, true, false, cond, not, ◌&&◌, ◌||◌, List, [], ◌∷◌, ◌++◌, eqb, ltb, length, drop}
use Rattle.serial_rules.specs.Escape.{escape, escaped}
use Rattle.serial_rules.specs.Call.{string_limit}
use Rattle.serial_rules.specs.Fields.{at}
use Rattle.serial_rules.specs.Link.{Target, setting, executing, opening, load, save}
use Rattle.serial_rules.specs.Session as session
use Rattle.serial_rules.specs.Session.{Part, has_zero}

-- "error, restart, Escape state, event, set address, and those of R-1". The bytes of a control block and the text of an error stand beside the action.
pub data Sent : Type 0 where
  failing : ℕ → Sent
  restarting : Sent
  escape_state : Bool → Sent
  event : ℕ → ℕ → ℕ → Sent
  address : Target → ℕ → ℕ → ℕ → ℕ → Sent
  control : Sent
  ending : Sent

-- The mark behind the escape: "Ignored low bits are sent as 0". The Escape state is bit 0 of its mark, and a control block's mark is its length.
abbrev pub target_sent : Target → ℕ
target_sent setting = 0xC0
target_sent executing = 0xD0
target_sent (opening load) = 0xE0
target_sent (opening save) = 0xF0

abbrev pub state_sent : Bool → ℕ
state_sent on = cond on 0x81 0x80

abbrev pub sent_mark : Sent → List ℕ → ℕ
sent_mark (failing n) b = 0x00
sent_mark restarting b = 0x00
sent_mark (escape_state on) b = state_sent on
sent_mark (event y x a) b = 0x90
sent_mark (address t b3 b2 b1 b0) b = target_sent t
sent_mark control b = length b
sent_mark ending b = 0xB0

-- Its own bytes, with the block b and the text t. "Error 0 without text is the restart."
abbrev pub sent_own : Sent → List ℕ → List ℕ → List ℕ
sent_own (failing n) b t = n ∷ (t ++ (0 ∷ []))
sent_own restarting b t = 0 ∷ 0 ∷ []
sent_own (escape_state on) b t = []
sent_own (event y x a) b t = y ∷ x ∷ a ∷ []
sent_own (address g b3 b2 b1 b0) b t = b3 ∷ b2 ∷ b1 ∷ b0 ∷ []
sent_own control b t = b
sent_own ending b t = []

unfoldable pub sent_raw : Sent → List ℕ → List ℕ → List ℕ
sent_raw a b t = escape ∷ sent_mark a b ∷ escaped (sent_own a b t)

-- "A control block is 1 to 127 bytes, else 9." Another action has none; only an error has a text.
abbrev pub block_fits : Sent → ℕ → Bool
block_fits (failing n) k = eqb k 0
block_fits restarting k = eqb k 0
block_fits (escape_state on) k = eqb k 0
block_fits (event y x a) k = eqb k 0
block_fits (address t b3 b2 b1 b0) k = eqb k 0
block_fits control k = not (eqb k 0) && ltb k 0x80
block_fits ending k = eqb k 0

abbrev pub has_text : Sent → Bool
has_text (failing n) = true
has_text restarting = false
has_text (escape_state on) = false
has_text (event y x a) = false
has_text (address t b3 b2 b1 b0) = false
has_text control = false
has_text ending = false

-- "Error text with a &00 in it is 9"
unfoldable pub sent_ok : Sent → List ℕ → List ℕ → Bool
sent_ok a b t = block_fits a (length b) && ((has_text a || eqb (length t) 0) && not (has_zero t))

-- The number of the writer's answer where `room` bytes are lent: text "over 255 bytes is 6, order 6, 9, 8".
unfoldable pub sent_number : Sent → List ℕ → List ℕ → ℕ → ℕ
sent_number a b t room =
    cond (ltb string_limit (length t)) 6
    (cond (not (sent_ok a b t)) 9
    (cond (ltb room (length (sent_raw a b t))) 8 0))

-- the part of a client's stream that an action is
abbrev pub part_of : Sent → List ℕ → List ℕ → Part
part_of (failing n) b t = session.error n t
part_of restarting b t = session.error 0 []
part_of (escape_state on) b t = session.state (state_sent on)
part_of (event y x a) b t = session.event 0x90 y x a
part_of (address g b3 b2 b1 b0) b t = session.address g (target_sent g) b3 b2 b1 b0
part_of control b t = session.block (at b 0) (drop 1 b)
part_of ending b t = session.ending 0xB0
