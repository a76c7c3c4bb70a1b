-- How the chip record stores the state that the rules speak of: the one place where its layout shows.
use Rattle.std.specs.Prelude.{ℕ, zero, suc, Bool, cond, eqb, leb}
use Rattle.word.specs.Word.{digit}
use Rattle.flags.specs.Flags.{flags_of}
use Rattle.chip.specs.declared.Chip.{Chip}
use Rattle.chip.specs.Each.{each, every}
use Rattle.chip_rules.specs.State.{Channel, State, parasite, R1, fed}
use Rattle.chip_rules.specs.Rules.{capacity, fresh}
use Rattle.chip_rules.specs.History.{View, sound, broken}

-- how many bytes of channel c a record stores, held or not: two, and all ten of parasite-to-host R1
unfoldable pub places : ℕ → ℕ
places c = cond (eqb c (fed parasite R1)) 10 2

-- the byte i behind the oldest of channel c, by the words that store it; only parasite-to-host R1 has a third
unfoldable pub byte_in : ℕ → ℕ → ℕ → ℕ → ℕ → ℕ
byte_in oldest next later c zero = digit oldest c
byte_in oldest next later c (suc zero) = digit next c
byte_in oldest next later c (suc (suc i)) = digit later i

abbrev pub byte_of : Chip → ℕ → ℕ → ℕ
byte_of chip = byte_in chip.oldest chip.next chip.later

-- how many bytes channel c holds
abbrev pub count_of : Chip → ℕ → ℕ
count_of chip c = digit chip.held c

-- the bytes that channel c holds, oldest first
abbrev pub contents : Chip → ℕ → Channel
contents chip c = each (byte_of chip c) (count_of chip c)

-- The abstraction function: the state that a record stands for.
abbrev pub state_of : Chip → State
state_of chip = record { channels = each (contents chip) 8; flags = flags_of chip.flags }

-- "a chip record holding more than its places" is one of which this is false
unfoldable pub valid_of : Chip → Bool
valid_of chip = every (λ (c : ℕ). leb (count_of chip c) (capacity c)) 8

-- What is compared of a record: its state, or, while it holds more than its places, the record itself.
abbrev pub view : Chip → View Chip
view chip = cond (valid_of chip) (sound (state_of chip)) (broken chip)

-- a fresh chip
abbrev pub blank : Chip
blank = record { oldest = 0; next = 0; later = 0; held = 0; flags = 0 }

-- what a reset leaves of a record that holds more than its places
abbrev pub repaired : Chip → View Chip
repaired chip = sound fresh
