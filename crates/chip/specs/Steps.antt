-- What the private parts of the chip's functions promise.
use Rattle.std.specs.Prelude.{ℕ, suc, ◌<◌, ◌≡◌, Bool, [], ◌∷◌, ◌++◌}
use Rattle.chip.specs.declared.Chip.{Chip}
use Rattle.chip.specs.declared.Port.{Port}
use Rattle.chip.specs.declared.Register.{Register}
use Rattle.chip.specs.declared.Register.TheVariants.{R1, R2, R3, R4}
use Rattle.chip.specs.declared.Side.{Side}
use Rattle.chip.specs.declared.Side.TheVariants.{Host, Parasite}
use Rattle.chip.specs.Record.{places, byte_of, state_of}
use Rattle.chip.specs.Promise.{UnusedKept}
use Rattle.chip_rules.specs.State.{chan, put, done, Outcome}
use Rattle.chip_rules.specs.Rules.{Request, controlled}
use Rattle.word.specs.Word.{Replaced}

-- the rules' numbers of a side and of a register
abbrev pub side_of : Side → ℕ
side_of Host = 0
side_of Parasite = 1

abbrev pub register_of : Register → ℕ
register_of R1 = 0
register_of R2 = 1
register_of R3 = 2
register_of R4 = 3

abbrev pub request_of : Port → Bool → Bool → ℕ → Request
request_of port is_data write byte =
    record { register = register_of port.register; is_data = is_data; write = write; byte = byte }

-- the rules' outcome is done, with this byte and this record left
pub record StepDone (chip : Chip) (o : Outcome) (byte : ℕ) (next : Chip) : Type 0 where
  pub outcome : o ≡ done byte (state_of next)
  pub free : UnusedKept chip next

-- the byte i behind the oldest of channel c is b
pub record Stored (chip : Chip) (c i b : ℕ) (r : Chip) : Type 0 where
  pub at : byte_of r c i ≡ b
  pub others : (j m : ℕ) → m < places j → (j ≡ c → m ≡ i → ⊥) → byte_of r j m ≡ byte_of chip j m
  pub held : r.held ≡ chip.held
  pub flags : r.flags ≡ chip.flags

-- each of the n oldest bytes of channel c is the one behind it
pub record MovedDown (chip : Chip) (c n : ℕ) (r : Chip) : Type 0 where
  pub moved : (i : ℕ) → i < n → byte_of r c i ≡ byte_of chip c (suc i)
  pub others : (j m : ℕ) → m < places j → (j ≡ c → m < n → ⊥) → byte_of r j m ≡ byte_of chip j m
  pub held : r.held ≡ chip.held
  pub flags : r.flags ≡ chip.flags

-- channel c counted as holding n bytes
pub record Counted (chip : Chip) (c n : ℕ) (r : Chip) : Type 0 where
  pub held : Replaced chip.held c n r.held
  pub bytes : byte_of r ≡ byte_of chip
  pub flags : r.flags ≡ chip.flags

-- one byte more in channel c
pub record PutDone (chip : Chip) (c b : ℕ) (r : Chip) : Type 0 where
  pub state : state_of r ≡ put (state_of chip) c (chan (state_of chip) c ++ (b ∷ []))
  pub free : UnusedKept chip r

-- the control byte x
pub record ControlDone (chip : Chip) (x : ℕ) (r : Chip) : Type 0 where
  pub state : state_of r ≡ controlled x (state_of chip)
  pub free : UnusedKept chip r
