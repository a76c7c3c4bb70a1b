-- Pairs that conflict, each at a state where the two orders are told apart: one or more for each of document 01's three cases.
use Rattle.std.specs.Prelude.{ℕ, Bool, not, ◌&&◌, List, [], ◌∷◌, set, eqb}
use Rattle.chip_rules.specs.State.{Flags, State, host, parasite, R1, R2, R3, fed, Access, Reply}
use Rattle.chip_rules.specs.Rules.{perform, no_flags, emptied}
use Rattle.chip_rules.specs.Conflict.{conflict}
use Rattle.chip_rules.specs.Cases.{host_reads, host_writes, parasite_reads, parasite_writes}

pub record Met : Type 0 where
  pub state : State
  pub host : Access
  pub parasite : Access

abbrev same_reply : Reply → Reply → Bool
same_reply r q = eqb r.answer q.answer && eqb r.byte q.byte

-- the two accesses conflict, and one side is answered otherwise in the other order
unfoldable pub differs : Met → Bool
differs m =
    conflict m.state m.host m.parasite
    && not (same_reply (perform m.state m.host).reply (perform (perform m.state m.parasite).state m.host).reply
    && same_reply (perform (perform m.state m.host).state m.parasite).reply (perform m.state m.parasite).reply)

abbrev at : Flags → ℕ → List ℕ → State
at f c l = record { channels = set emptied c l; flags = f }

abbrev met : State → Access → Access → Met
met s h p = record { state = s; host = h; parasite = p }

unfoldable pub pairs : List Met
pairs =
    -- one channel, written and read: empty, then just full
    met (at no_flags (fed host R2) []) (host_writes 3 7) (parasite_reads 3)
    ∷ met (at no_flags (fed parasite R2) (7 ∷ [])) (host_reads 3) (parasite_writes 3 8)
    -- a status and its register's data, read or written by the other side
    ∷ met (at no_flags (fed host R2) (7 ∷ [])) (host_reads 2) (parasite_reads 3)
    ∷ met (at no_flags (fed parasite R2) (7 ∷ [])) (host_reads 3) (parasite_reads 2)
    -- the clear; control and an R1 status read; control and R3
    ∷ met (at no_flags (fed host R2) (7 ∷ [])) (host_writes 0 0xC0) (parasite_reads 3)
    ∷ met (at no_flags (fed host R1) []) (host_writes 0 0x81) (parasite_reads 0)
    ∷ met (at no_flags (fed host R3) (7 ∷ [])) (host_writes 0 0x90) (parasite_reads 4)
    ∷ met (at no_flags (fed parasite R3) (7 ∷ [])) (host_writes 0 0x90) (parasite_writes 5 8)
    ∷ []
