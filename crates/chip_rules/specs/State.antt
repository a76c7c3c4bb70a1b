-- What the chip's rules speak of: the state, an access with its reply, and the numbers of sides, registers and channels.
-- "State is the eight byte lists and the flags; where a byte is stored does not count."
use Rattle.std.specs.Prelude.{ℕ, ◌+◌, ◌-◌, ◌*◌, Bool, List, [], length, get_or, set}

-- a channel: the bytes held, oldest first
abbrev pub Channel : Type 0
Channel = List ℕ

abbrev pub empty : Channel
empty = []

abbrev pub held : Channel → ℕ
held l = length l

-- the flags by 001's names; all of the state that is no channel
pub record Flags : Type 0 where
  pub p : Bool
  pub v : Bool
  pub m : Bool
  pub j : Bool
  pub i : Bool
  pub q : Bool

pub record State : Type 0 where
  pub channels : List Channel
  pub flags : Flags

-- The two sides that exist.
abbrev pub host : ℕ
host = 0

abbrev pub parasite : ℕ
parasite = 1

-- The four registers.
abbrev pub R1 : ℕ
R1 = 0

abbrev pub R2 : ℕ
R2 = 1

abbrev pub R3 : ℕ
R3 = 2

abbrev pub R4 : ℕ
R4 = 3

-- Channels are numbered register by register, host-to-parasite first: 0 is host-to-parasite R1, 1 parasite-to-host R1, .., 7 parasite-to-host R4.
-- "A host data write feeds the host-to-parasite channel of that register, a parasite data write the other":
-- the channel of register r that a side feeds
abbrev pub fed : ℕ → ℕ → ℕ
fed side r = 2 * r + side

-- "a data read removes the oldest byte from the channel towards the reader": the channel of register r towards a side
abbrev pub toward : ℕ → ℕ → ℕ
toward side r = 2 * r + (1 - side)

abbrev pub chan : State → ℕ → Channel
chan s c = get_or s.channels c empty

abbrev pub put : State → ℕ → Channel → State
put s c l = record { channels = set s.channels c l; flags = s.flags }

-- One access as the program is given it: any side number, any offset, read or write, any byte (a read ignores it).
pub record Access : Type 0 where
  pub side : ℕ
  pub offset : ℕ
  pub write : Bool
  pub byte : ℕ

-- what the caller is told: the number of the answer and the byte
pub record Reply : Type 0 where
  pub answer : ℕ
  pub byte : ℕ

pub record Outcome : Type 0 where
  pub reply : Reply
  pub state : State

-- answer 0, done, with a byte and the state left
abbrev pub done : ℕ → State → Outcome
done b s = record { reply = record { answer = 0; byte = b }; state = s }

-- "chip unchanged, byte 0": a refusal with answer n
abbrev pub refused : ℕ → State → Outcome
refused n s = record { reply = record { answer = n; byte = 0 }; state = s }
