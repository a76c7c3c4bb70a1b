-- The bytes of one channel over a history, told by the accesses and their replies alone.
use Rattle.std.specs.Prelude.{ℕ, ◌-◌, ◌≡◌, Bool, true, false, cond, not, ◌&&◌, List, [], ◌∷◌, ◌++◌, length, eqb}
use Rattle.chip_rules.specs.State.{Channel, empty, held, fed, toward, chan, Access, Reply}
use Rattle.chip_rules.specs.Rules.{Request, decode, room, bit, clears, is_control}
use Rattle.chip_rules.specs.History.{View, sound, broken, Event, accessed, was_reset, says}

-- The bytes held at the start, those taken since and those removed since; all three start anew at a reset or clear.
pub record Ledger : Type 0 where
  pub start : List ℕ
  pub taken : List ℕ
  pub removed : List ℕ

abbrev pub opened : Channel → Ledger
opened l = record { start = l; taken = []; removed = [] }

-- the request of a side is a data write to channel c; a data read of it; the clear
abbrev pub feeds : ℕ → Request → ℕ → Bool
feeds side q c = q.is_data && (q.write && eqb (fed side q.register) c)

abbrev pub drains : ℕ → Request → ℕ → Bool
drains side q c = q.is_data && (not q.write && eqb (toward side q.register) c)

abbrev pub is_clear : ℕ → Request → Bool
is_clear side q = is_control side q && clears q.byte

-- What a request with its reply adds to the ledger of channel c: a data write done is a byte taken, a data read done a byte removed.
abbrev pub entered : ℕ → Ledger → ℕ → Request → Reply → Ledger
entered c b side q r =
    cond (feeds side q c) (record { start = b.start; taken = b.taken ++ (q.byte ∷ []); removed = b.removed })
    (cond (drains side q c) (record { start = b.start; taken = b.taken; removed = b.removed ++ (r.byte ∷ []) }) b)

unfoldable pub entry : ℕ → Ledger → ℕ → Request → Reply → Ledger
entry c b side q r = cond (eqb r.answer 0) (cond (is_clear side q) (opened empty) (entered c b side q r)) b

-- the ledger of channel c after a history with these replies
abbrev pub ledger : ℕ → Ledger → List Event → List Reply → Ledger
ledger c b [] rs = b
ledger c b (was_reset ∷ es) rs = ledger c (opened empty) es rs
ledger c b (accessed a ∷ es) [] = b
ledger c b (accessed a ∷ es) (r ∷ rs) = ledger c (entry c b a.side (decode a) r) es rs

module _ {K : Type 0} where
  -- the bytes that channel c holds; of a record that holds more than its places nothing can be read
  abbrev pub holds : View K → ℕ → Channel
  holds (sound s) c = chan s c
  holds (broken k) c = empty

  -- the state has its eight channels
  abbrev pub Eight : View K → Type 0
  Eight (sound s) = length s.channels ≡ 8
  Eight (broken k) = Unit

  -- a reset, or the clear where it is done
  abbrev pub empties : View K → Event → Bool
  empties v was_reset = true
  empties v (accessed a) = eqb (says v a).answer 0 && is_clear a.side (decode a)

-- Held at the start, then taken, equal removed, then held: l is the ledger and h what the channel holds at the end
abbrev pub InOrder : Ledger → Channel → Type 0
InOrder l h = l.start ++ l.taken ≡ l.removed ++ h

-- since the last reset or clear the bytes removed, then those held, are the bytes taken, in order (the customer's demand 2)
pub record Since (l : Ledger) (h : Channel) : Type 0 where
  pub start : l.start ≡ []
  pub order : l.taken ≡ l.removed ++ h

-- the status read, by the same side, of the register that a data access names
abbrev pub status_read : Access → Access
status_read a = record { side = a.side; offset = a.offset - 1; write = false; byte = 0 }

-- the channel that a data write feeds has room
abbrev pub room_for : {K : Type 0} → View K → Access → Bool
room_for (sound s) a = room s.flags (fed a.side (decode a).register) (held (chan s (fed a.side (decode a).register)))
room_for (broken k) a = false

-- a data write not refused with 1 is taken exactly when there is room (the customer's demand 2), which bit 6 of the status said beforehand
pub record TakenWhenRoom {K : Type 0} (v : View K) (a : Access) : Type 0 where
  pub answer : (says v a).answer ≡ cond (room_for v a) 0 2
  pub said : bit (says v (status_read a)).byte 64 ≡ room_for v a
