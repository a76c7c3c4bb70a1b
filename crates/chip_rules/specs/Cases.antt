-- The worked cases (document 01: bench cases) C1 to C8, each from a fresh chip: the accesses, what each is answered, the line value
-- after it, and the state at the end. Then cases of the rules that C1 to C8 leave untested.
use Rattle.std.specs.Prelude.{ℕ, Bool, true, false, List, [], ◌∷◌, set}
use Rattle.chip_rules.specs.State.{Channel, Flags, State, host, parasite, R1, R3, fed, Access}
use Rattle.chip_rules.specs.Rules.{perform, lines, fresh, emptied, no_flags}

pub record Row : Type 0 where
  pub access : Access
  pub answer : ℕ
  pub byte : ℕ
  pub lines : ℕ

pub record Case : Type 0 where
  pub rows : List Row
  pub end : State

-- the rows of a case as the rules answer them, and the case with the state that they leave
unfoldable pub answered : State → List Row → List Row
answered s [] = []
answered s (x ∷ xs) =
    record {
      access = x.access;
      answer = (perform s x.access).reply.answer;
      byte = (perform s x.access).reply.byte;
      lines = lines (perform s x.access).state;
    }
    ∷ answered (perform s x.access).state xs

unfoldable pub ended : State → List Row → State
ended s [] = s
ended s (x ∷ xs) = ended (perform s x.access).state xs

unfoldable pub worked : Case → Case
worked k = record { rows = answered fresh k.rows; end = ended fresh k.rows }

-- the accesses by name; `gets` puts an access and what it is answered into a row
abbrev pub host_reads : ℕ → Access
host_reads o = record { side = host; offset = o; write = false; byte = 0 }

abbrev pub host_writes : ℕ → ℕ → Access
host_writes o b = record { side = host; offset = o; write = true; byte = b }

abbrev pub parasite_reads : ℕ → Access
parasite_reads o = record { side = parasite; offset = o; write = false; byte = 0 }

abbrev pub parasite_writes : ℕ → ℕ → Access
parasite_writes o b = record { side = parasite; offset = o; write = true; byte = b }

abbrev gets : Access → ℕ → ℕ → ℕ → Row
gets a n b l = record { access = a; answer = n; byte = b; lines = l }

-- flags by the names of those that are set
abbrev six_flags : Bool → Bool → Bool → Bool → Bool → Bool → Flags
six_flags p v m j i q = record { p = p; v = v; m = m; j = j; i = i; q = q }

-- every channel empty but those written down
abbrev with : Flags → List Channel → State
with f l = record { channels = l; flags = f }

abbrev only_v : Flags
only_v = six_flags false true false false false false

-- C1 fresh host R1 status &40.
abbrev pub c1 : Case
c1 = record { rows = gets (host_reads 0) 0 0x40 0 ∷ []; end = with no_flags emptied }

-- C2 fresh host R2 status &7F.
abbrev pub c2 : Case
c2 = record { rows = gets (host_reads 2) 0 0x7F 0 ∷ []; end = with no_flags emptied }

-- C3 host writes R1 data: parasite R1 status &C0, host &00.
abbrev pub c3 : Case
c3 =
    record {
      rows = gets (host_writes 1 0x2A) 0 0 0 ∷ gets (parasite_reads 0) 0 0xC0 0 ∷ gets (host_reads 0) 0 0x00 0 ∷ [];
      end = with no_flags (set emptied (fed host R1) (0x2A ∷ []));
    }

-- C4 V = 1, host writes R3 once: parasite R3 status &7F; twice: &FF.
abbrev pub c4 : Case
c4 =
    record {
      rows =
          gets (host_writes 0 0x90) 0 0 0
          ∷ gets (host_writes 5 1) 0 0 0
          ∷ gets (parasite_reads 4) 0 0x7F 0
          ∷ gets (host_writes 5 2) 0 0 0
          ∷ gets (parasite_reads 4) 0 0xFF 0
          ∷ [];
      end = with only_v (set emptied (fed host R3) (1 ∷ 2 ∷ []));
    }

-- C5 ten parasite R1 writes taken, the eleventh 2.
abbrev pub c5 : Case
c5 =
    record {
      rows =
          gets (parasite_writes 1 1) 0 0 0
          ∷ gets (parasite_writes 1 2) 0 0 0
          ∷ gets (parasite_writes 1 3) 0 0 0
          ∷ gets (parasite_writes 1 4) 0 0 0
          ∷ gets (parasite_writes 1 5) 0 0 0
          ∷ gets (parasite_writes 1 6) 0 0 0
          ∷ gets (parasite_writes 1 7) 0 0 0
          ∷ gets (parasite_writes 1 8) 0 0 0
          ∷ gets (parasite_writes 1 9) 0 0 0
          ∷ gets (parasite_writes 1 10) 0 0 0
          ∷ gets (parasite_writes 1 11) 2 0 0
          ∷ [];
      end = with no_flags (set emptied (fed parasite R1) (1 ∷ 2 ∷ 3 ∷ 4 ∷ 5 ∷ 6 ∷ 7 ∷ 8 ∷ 9 ∷ 10 ∷ []));
    }

-- C6 V = 1, host writes two R3 bytes, V cleared: host write 2; after one read still 2; after two, taken.
abbrev pub c6 : Case
c6 =
    record {
      rows =
          gets (host_writes 0 0x90) 0 0 0
          ∷ gets (host_writes 5 1) 0 0 0
          ∷ gets (host_writes 5 2) 0 0 0
          ∷ gets (host_writes 0 0x10) 0 0 0
          ∷ gets (host_writes 5 3) 2 0 0
          ∷ gets (parasite_reads 5) 0 1 0
          ∷ gets (host_writes 5 3) 2 0 0
          ∷ gets (parasite_reads 5) 0 2 0
          ∷ gets (host_writes 5 3) 0 0 0
          ∷ [];
      end = with no_flags (set emptied (fed host R3) (3 ∷ []));
    }

-- C7 control &81 then &01: Q set, then clear.
abbrev pub c7 : Case
c7 =
    record {
      rows =
          gets (host_writes 0 0x81) 0 0 0
          ∷ gets (host_reads 0) 0 0x41 0
          ∷ gets (host_writes 0 0x01) 0 0 0
          ∷ gets (host_reads 0) 0 0x40 0
          ∷ [];
      end = with no_flags emptied;
    }

-- C8 control &C3: I and Q set, channels empty. A byte in each of the eight channels first.
abbrev pub c8 : Case
c8 =
    record {
      rows =
          gets (host_writes 1 1) 0 0 0
          ∷ gets (parasite_writes 1 2) 0 0 0
          ∷ gets (host_writes 3 3) 0 0 0
          ∷ gets (parasite_writes 3 4) 0 0 0
          ∷ gets (host_writes 5 5) 0 0 0
          ∷ gets (parasite_writes 5 6) 0 0 0
          ∷ gets (host_writes 7 7) 0 0 0
          ∷ gets (parasite_writes 7 8) 0 0 0
          ∷ gets (host_writes 0 0xC3) 0 0 0
          ∷ [];
      end = with (six_flags false false false false true true) ([] ∷ [] ∷ [] ∷ [] ∷ [] ∷ [] ∷ [] ∷ [] ∷ []);
    }

unfoldable pub cases : List Case
cases = c1 ∷ c2 ∷ c3 ∷ c4 ∷ c5 ∷ c6 ∷ c7 ∷ c8 ∷ []

-- Host IRQ: the example of document 01, 'The script program'.
abbrev host_interrupt : Case
host_interrupt =
    record {
      rows = gets (host_writes 0 0x81) 0 0 0 ∷ gets (parasite_writes 7 0x2A) 0 0 1 ∷ gets (host_reads 7) 0 42 0 ∷ [];
      end = with (six_flags false false false false false true) emptied;
    }

-- Parasite IRQ by I and R1 alone, then by J and R4 alone.
abbrev parasite_interrupt : Case
parasite_interrupt =
    record {
      rows =
          gets (host_writes 0 0x82) 0 0 0
          ∷ gets (host_writes 7 9) 0 0 0
          ∷ gets (host_writes 1 8) 0 0 2
          ∷ gets (host_writes 0 0x02) 0 0 0
          ∷ gets (host_writes 0 0x84) 0 0 2
          ∷ gets (parasite_reads 7) 0 9 0
          ∷ [];
      end = with (six_flags false false false true false false) (set emptied (fed host R1) (8 ∷ []));
    }

-- Parasite NMI by M and N, and parasite reset by P: with V clear one byte asserts NMI, with V set two.
abbrev parasite_others : Case
parasite_others =
    record {
      rows =
          gets (host_writes 0 0x88) 0 0 0
          ∷ gets (host_writes 5 1) 0 0 4
          ∷ gets (host_writes 0 0xB0) 0 0 8
          ∷ gets (host_writes 5 2) 0 0 12
          ∷ gets (host_writes 0 0x08) 0 0 8
          ∷ [];
      end = with (six_flags true true false false false false) (set emptied (fed host R3) (1 ∷ 2 ∷ []));
    }

-- Bit 6 of a control byte alone does nothing, and no other status write changes anything.
abbrev status_writes : Case
status_writes =
    record {
      rows =
          gets (host_writes 1 7) 0 0 0
          ∷ gets (host_writes 0 0x40) 0 0 0
          ∷ gets (host_writes 2 0xFF) 0 0 0
          ∷ gets (parasite_writes 0 0xFF) 0 0 0
          ∷ gets (parasite_reads 1) 0 7 0
          ∷ gets (parasite_reads 1) 3 0 0
          ∷ [];
      end = with no_flags emptied;
    }

-- A side or offset that does not exist.
abbrev missing : Case
missing =
    record {
      rows = gets (record { side = 2; offset = 0; write = false; byte = 0 }) 1 0 0 ∷ gets (host_writes 8 1) 1 0 0 ∷ gets (parasite_reads 255) 1 0 0 ∷ [];
      end = with no_flags emptied;
    }

unfoldable pub further_cases : List Case
further_cases = host_interrupt ∷ parasite_interrupt ∷ parasite_others ∷ status_writes ∷ missing ∷ []
