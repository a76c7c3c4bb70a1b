-- The program's actions as the rules speak of them, and their parts.
use Rattle.std.specs.Prelude.{ℕ, Bool, cond, not, ◌&&◌, ◌||◌, List, [], ◌∷◌, ◌++◌, eqb, ltb, length, take}
use Rattle.serial_rules.specs.Session.{has_zero}
use Rattle.host_rules.specs.Actions as rules
use Rattle.host_rules.specs.Actions.{target_sent, state_sent}
use Rattle.actions.specs.Actions.{target_for}
use Rattle.action_parts.specs.declared.Sent.{Sent}
use Rattle.action_parts.specs.declared.Sent.TheVariants.{Error, Restart, EscapeState, Event, Address, Block, End}
use Rattle.fields.specs.declared.few.Few.{Few}
use Rattle.fields.specs.declared.middle.Middle.TheVariants.{Nothing, Block as a_block, Text}
use Rattle.fields.specs.Few.{few}
use Rattle.fields.specs.Middle.{middle_in, is_block, is_text}
use Rattle.action_parts.specs.declared.Parts.{Parts}

abbrev pub sent_for : Sent → rules.Sent
sent_for (Error n) = rules.failing n
sent_for Restart = rules.restarting
sent_for (EscapeState on) = rules.escape_state on
sent_for (Event y x a) = rules.event y x a
sent_for (Address t b3 b2 b1 b0) = rules.address (target_for t) b3 b2 b1 b0
sent_for Block = rules.control
sent_for End = rules.ending

-- the parts of an action of numbers alone
abbrev pub numbers_of : ℕ → Few 4 → Parts
numbers_of mark head = record { mark = mark; middle = Nothing; head = head; tail = few 1 [] }

-- the parts of an action whose block has k bytes: its numbers stand in arrays of four places and of one
unfoldable pub parts_of : rules.Sent → ℕ → Parts
parts_of (rules.failing n) k = record { mark = 0x00; middle = Text; head = few 4 (n ∷ []); tail = few 1 (0 ∷ []) }
parts_of rules.restarting k = numbers_of 0x00 (few 4 (0 ∷ 0 ∷ []))
parts_of (rules.escape_state on) k = numbers_of (state_sent on) (few 4 [])
parts_of (rules.event y x a) k = numbers_of 0x90 (few 4 (y ∷ x ∷ a ∷ []))
parts_of (rules.address t b3 b2 b1 b0) k = numbers_of (target_sent t) (few 4 (b3 ∷ b2 ∷ b1 ∷ b0 ∷ []))
parts_of rules.control k = record { mark = k; middle = a_block; head = few 4 []; tail = few 1 [] }
parts_of rules.ending k = numbers_of 0xB0 (few 4 [])

-- the own bytes of parts, with the block b and the text t
abbrev pub parts_own : Parts → List ℕ → List ℕ → List ℕ
parts_own p b t = take p.head.count p.head.bytes ++ (middle_in p.middle b t ++ take p.tail.count p.tail.bytes)

-- "A control block is 1 to 127 bytes"
abbrev pub block_fit : Bool → ℕ → Bool
block_fit carried k = cond carried (not (eqb k 0) && ltb k 0x80) (eqb k 0)

unfoldable pub parts_fit : Parts → List ℕ → List ℕ → Bool
parts_fit p b t = block_fit (is_block p.middle) (length b) && ((is_text p.middle || eqb (length t) 0) && not (has_zero t))
