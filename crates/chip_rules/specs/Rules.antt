-- The chip's rules in the order of document 01, 'The chip'; each definition stands under its sentence.
use Rattle.std.specs.Prelude.{ℕ, ◌+◌, ◌/◌, ◌%◌, Bool, false, cond, not, ◌&&◌, ◌||◌, List, [], ◌∷◌, ◌++◌, get_or, replicate, eqb, ltb, leb}
use Rattle.chip_rules.specs.State.{Channel, empty, held, Flags, State, host, parasite, R1, R3, R4, fed, toward, chan, put, Access, Reply, Outcome, done, refused}

-- "Offsets 0, 2, 4, 6 are status and 1, 3, 5, 7 data of R1 to R4"
pub record Request : Type 0 where
  pub register : ℕ
  pub is_data : Bool
  pub write : Bool
  pub byte : ℕ

abbrev pub decode : Access → Request
decode a = record { register = a.offset / 2; is_data = eqb (a.offset % 2) 1; write = a.write; byte = a.byte }

-- answer 1: "side or offset that does not exist (offset above 7)"
abbrev pub exists : Access → Bool
exists a = leb a.side 1 && leb a.offset 7

-- "parasite-to-host R1 holds 10"; "R3 has two places each way. Every other channel holds 1." (document 01: places)
abbrev pub capacities : List ℕ
capacities = 1 ∷ 10 ∷ 1 ∷ 1 ∷ 2 ∷ 2 ∷ 1 ∷ 1 ∷ []

unfoldable pub capacity : ℕ → ℕ
capacity c = get_or capacities c 0

-- "Room in R3: flag V = 0, only when empty; V = 1, when it holds fewer than two."; "Elsewhere room means fewer bytes than places."
-- A write to channel c is taken while fewer bytes than this are held. "Clearing V with two bytes held loses nothing: both can be read, and
-- there is no room until both have gone" (theorem `no_room_until_empty`).
abbrev pub limit : Flags → ℕ → ℕ
limit f c = cond (eqb (c / 2) R3 && not f.v) 1 (capacity c)

-- channel c has room where it holds n bytes
unfoldable pub room : Flags → ℕ → ℕ → Bool
room f c n = ltb n (limit f c)

-- "N: for V = 0 host-to-parasite R3 is not empty, for V = 1 it holds two", where it holds n bytes
unfoldable pub n_flag : Flags → ℕ → Bool
n_flag f n = cond f.v (eqb n 2) (ltb 0 n)

-- "bit 7 = the channel towards the reader of the status is not empty"; "The one exception is bit 7 of the parasite's R3 status, N",
-- where that channel holds n bytes
unfoldable pub ready : Flags → ℕ → ℕ → ℕ → Bool
ready f side r n = cond (eqb side parasite && eqb r R3) (n_flag f n) (ltb 0 n)

-- the weight w of a bit that is set, else 0
abbrev pub weigh : Bool → ℕ → ℕ
weigh b w = cond b w 0

abbrev pub flag_bits : Flags → ℕ
flag_bits f = weigh f.p 32 + weigh f.v 16 + weigh f.m 8 + weigh f.j 4 + weigh f.i 2 + weigh f.q 1

-- "R1 status shows P V M J I Q in bits 5 to 0 on both sides. Bits 5 to 0 of the others read as 1"
unfoldable pub low : Flags → ℕ → ℕ
low f r = cond (eqb r R1) (flag_bits f) 63

-- the status of register r for a side, where n bytes are held towards it and m in the channel that it feeds:
-- "bit 6 = a data write by that side would now be taken"
unfoldable pub status : Flags → ℕ → ℕ → ℕ → ℕ → ℕ
status f side r n m = weigh (ready f side r n) 128 + weigh (room f (fed side r) m) 64 + low f r

abbrev pub status_of : State → ℕ → ℕ → ℕ
status_of s side r = status s.flags side r (held (chan s (toward side r))) (held (chan s (fed side r)))

-- the bit of weight w of a byte
abbrev pub bit : ℕ → ℕ → Bool
bit b w = eqb (b / w % 2) 1

-- "bit 7 = 1 sets, bit 7 = 0 clears, each flag whose bit among 5 to 0 is 1"
abbrev pub switched : ℕ → ℕ → Bool → Bool
switched b w old = cond (bit b w) (bit b 128) old

unfoldable pub control : ℕ → Flags → Flags
control b f =
    record {
      p = switched b 32 f.p;
      v = switched b 16 f.v;
      m = switched b 8 f.m;
      j = switched b 4 f.j;
      i = switched b 2 f.i;
      q = switched b 1 f.q;
    }

-- "With bits 7 and 6 both 1, all eight channels are then emptied"; "such a write, and no other, is the clear"
unfoldable pub clears : ℕ → Bool
clears b = bit b 128 && bit b 64

unfoldable pub emptied : List Channel
emptied = replicate 8 empty

abbrev pub controlled : ℕ → State → State
controlled b s = record { channels = cond (clears b) emptied s.channels; flags = control b s.flags }

-- "Control, a host write to offset 0"
abbrev pub is_control : ℕ → Request → Bool
is_control side q = not q.is_data && (q.write && (eqb side host && eqb q.register R1))

-- "Reset clears the flags and empties all channels"; "making a chip counts as a reset"
abbrev pub no_flags : Flags
no_flags = record { p = false; v = false; m = false; j = false; i = false; q = false }

unfoldable pub fresh : State
fresh = record { channels = emptied; flags = no_flags }

abbrev pub reset : State → State
reset s = fresh

-- "Lines, asserted exactly when: host IRQ (1): Q and parasite-to-host R4 not empty.
abbrev pub host_irq : State → Bool
host_irq s = s.flags.q && ltb 0 (held (chan s (fed parasite R4)))

-- Parasite IRQ (2): I and host-to-parasite R1 not empty, or J and host-to-parasite R4 not empty.
abbrev pub parasite_irq : State → Bool
parasite_irq s = (s.flags.i && ltb 0 (held (chan s (fed host R1)))) || (s.flags.j && ltb 0 (held (chan s (fed host R4))))

-- Parasite NMI (4): M and N.
abbrev pub parasite_nmi : State → Bool
parasite_nmi s = s.flags.m && n_flag s.flags (held (chan s (fed host R3)))

-- Parasite reset (8): P. The sum of the numbers is the line value. A line is a fact about the state, never remembered."
unfoldable pub lines : State → ℕ
lines s = weigh (host_irq s) 1 + weigh (parasite_irq s) 2 + weigh (parasite_nmi s) 4 + weigh s.flags.p 8

-- What a data access does to its channel: the reply and the bytes left.
pub record Moved : Type 0 where
  pub reply : Reply
  pub channel : Channel

-- "a data read removes the oldest byte"; 3: "data read of an empty channel"
unfoldable pub take_oldest : Channel → Moved
take_oldest [] = record { reply = record { answer = 3; byte = 0 }; channel = [] }
take_oldest (x ∷ xs) = record { reply = record { answer = 0; byte = x }; channel = xs }

-- a data write of b; 2: "data write to a channel without room". "A successful write answers byte 0."
unfoldable pub append : (ℕ → Bool) → ℕ → Channel → Moved
append fits b l =
    cond (fits (held l))
    (record { reply = record { answer = 0; byte = 0 }; channel = l ++ (b ∷ []) })
    (record { reply = record { answer = 2; byte = 0 }; channel = l })

-- the channel of a data access, and what the access does to it
abbrev pub channel_of : ℕ → Request → ℕ
channel_of side q = cond q.write (fed side q.register) (toward side q.register)

abbrev pub move : Flags → ℕ → Request → Channel → Moved
move f side q = cond q.write (append (room f (fed side q.register)) q.byte) take_oldest

abbrev pub on : State → ℕ → (Channel → Moved) → Outcome
on s c f = record { reply = (f (chan s c)).reply; state = put s c (f (chan s c)).channel }

-- One access of a side that exists to an offset that exists.
-- "Every other status write is done and changes nothing."
abbrev pub step : State → ℕ → Request → Outcome
step s side q =
    cond q.is_data
    (on s (channel_of side q) (move s.flags side q))
    (cond q.write
    (done 0 (cond (is_control side q) (controlled q.byte s) s))
    (done (status_of s side q.register) s))

-- One access, any numbers. "Access: 1, then 2 or 3."
unfoldable pub perform : State → Access → Outcome
perform s a = cond (exists a) (step s a.side (decode a)) (refused 1 s)
