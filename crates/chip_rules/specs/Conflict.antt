-- When a host access and a parasite access conflict (document 01: two accesses meet): "in these cases and no others".
-- Some listed pairs never differ in either order (control with a parasite R3 data read or R3 status write, the clear with a
-- parasite status write); they stand here because document 01 lists them, and no theorem needs them.
use Rattle.std.specs.Prelude.{ℕ, zero, suc, Bool, true, not, ◌&&◌, ◌||◌, eqb}
use Rattle.std.specs.Bool.{xor}
use Rattle.chip_rules.specs.State.{held, State, host, parasite, R1, R3, chan, Access}
use Rattle.chip_rules.specs.Rules.{Request, decode, exists, room, clears, is_control, channel_of}

-- a channel of n bytes "is empty, or has no room and would have room with one byte fewer"
unfoldable pub tight : (ℕ → Bool) → ℕ → Bool
tight fits zero = true
tight fits (suc n) = not (fits (suc n)) && fits n

abbrev pub tight_at : State → ℕ → Bool
tight_at s c = tight (room s.flags c) (held (chan s c))

abbrev pub reads_status : Request → Bool
reads_status q = not q.is_data && not q.write

-- "both are data accesses of one channel, one writing and one reading, and the channel is empty, or has no room and
-- would have room with one byte fewer"
abbrev pub data_conflict : State → Request → Request → Bool
data_conflict s h p =
    (h.is_data && p.is_data && xor h.write p.write) && (eqb (channel_of host h) (channel_of parasite p) && tight_at s (channel_of host h))

-- "one reads the status of a register and the other reads or writes that register's data"
abbrev pub status_conflict : Request → Request → Bool
status_conflict h p = (reads_status h && p.is_data || h.is_data && reads_status p) && eqb h.register p.register

-- "the parasite's access is an R1 status read or any access to R3"
abbrev pub sees_flags : Request → Bool
sees_flags p = reads_status p && eqb p.register R1 || eqb p.register R3

-- "the host writes control, and it is the clear, or the parasite's access is an R1 status read or any access to R3"
abbrev pub control_conflict : Request → Request → Bool
control_conflict h p = is_control host h && (clears h.byte || sees_flags p)

-- the host's h and the parasite's p, both to offsets that exist
unfoldable pub requests_conflict : State → Request → Request → Bool
requests_conflict s h p = data_conflict s h p || (status_conflict h p || control_conflict h p)

-- "An access refused with 1 meets nothing."
abbrev pub conflict : State → Access → Access → Bool
conflict s h p = exists h && exists p && requests_conflict s (decode h) (decode p)
