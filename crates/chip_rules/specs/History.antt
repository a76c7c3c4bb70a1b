-- Histories: accesses and resets from any chip record, and the swaps of neighbours that do not conflict.
use Rattle.std.specs.Prelude.{ℕ, ◌≡◌, Bool, false, cond, List, [], ◌∷◌, eqb}
use Rattle.chip_rules.specs.State.{State, host, parasite, Access, Reply}
use Rattle.chip_rules.specs.Rules.{perform, reset, lines}
use Rattle.chip_rules.specs.Conflict.{conflict}

-- What is compared of a chip record K: its state, or, while it holds more than its places, the record itself.
pub data View (K : Type 0) : Type 0 where
  sound : State → View K
  broken : K → View K

pub data Event : Type 0 where
  accessed : Access → Event
  was_reset : Event

module _ {K : Type 0} where
  -- the reply to an access; 1: "an access to a chip record holding more than its places"
  abbrev pub says : View K → Access → Reply
  says (sound s) a = (perform s a).reply
  says (broken k) a = record { answer = 1; byte = 0 }

  -- the view of the record that an access leaves
  abbrev pub after : View K → Access → View K
  after (sound s) a = sound (perform s a).state
  after (broken k) a = broken k

  -- "its line value is 0" of a record that holds more than its places
  abbrev pub line_value : View K → ℕ
  line_value (sound s) = lines s
  line_value (broken k) = 0

  abbrev pub conflict_at : View K → Access → Access → Bool
  conflict_at (sound s) h p = conflict s h p
  conflict_at (broken k) h p = false

-- The replies to the accesses of one side, in order, out of those to all accesses. A reset has no reply.
abbrev pub of_side : ℕ → List Event → List Reply → List Reply
of_side side [] rs = []
of_side side (was_reset ∷ es) rs = of_side side es rs
of_side side (accessed a ∷ es) [] = []
of_side side (accessed a ∷ es) (r ∷ rs) = cond (eqb a.side side) (r ∷ of_side side es rs) (of_side side es rs)

-- `repaired`: what a reset leaves of a record that holds more than its places
module _ {K : Type 0} (repaired : K → View K) where
  abbrev pub cleared : View K → View K
  cleared (sound s) = sound (reset s)
  cleared (broken k) = repaired k

  abbrev pub next : View K → Event → View K
  next v (accessed a) = after v a
  next v was_reset = cleared v

  -- "Each access or reset gets the chip that the last one left": where a history ends, and the replies to its accesses
  abbrev pub run : View K → List Event → View K
  run v [] = v
  run v (e ∷ es) = run (next v e) es

  abbrev pub replies : View K → List Event → List Reply
  replies v [] = []
  replies v (was_reset ∷ es) = replies (cleared v) es
  replies v (accessed a ∷ es) = says v a ∷ replies (after v a) es

  -- "A swap exchanges two neighbours, one host and one parasite access in either order, that do not meet at the state just before the pair"
  pub data Swap : View K → List Event → List Event → Type 0 where
    host_first : {v : View K} {h p : Access} {es : List Event} → h.side ≡ host → p.side ≡ parasite → conflict_at v h p ≡ false
        → Swap v (accessed h ∷ accessed p ∷ es) (accessed p ∷ accessed h ∷ es)
    parasite_first : {v : View K} {h p : Access} {es : List Event} → h.side ≡ host → p.side ≡ parasite → conflict_at v h p ≡ false
        → Swap v (accessed p ∷ accessed h ∷ es) (accessed h ∷ accessed p ∷ es)
    later : {v : View K} {e : Event} {es fs : List Event} → Swap (next v e) es fs → Swap v (e ∷ es) (e ∷ fs)

  -- "the next swap works on the list so made"
  pub data Swaps (v : View K) : List Event → List Event → Type 0 where
    none : {es : List Event} → Swaps v es es
    more : {es fs gs : List Event} → Swap v es fs → Swaps v fs gs → Swaps v es gs
