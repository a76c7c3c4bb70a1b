-- The parts of a reply make up its bytes, and fit a kind where the reply does.
use Prim.Native.Nat.{ℕ}
use mathlib.Core.Path.{◌≡◌, refl}
use mathlib.Core.List.{List, append-nil}
use lib.Dec.{eqb}
use lib.ListN.{length}
use mathlib.Core.Bool.{not, ◌&&◌}
use Rattle.serial_rules.specs.Call.{has_return}
use Rattle.serial_rules.specs.Reply.{Kind, Reply, carry_a, ack, byte, carry_yx, block, escaped_line, read_line, a_block, plain, block_carry_a, reply_bytes, reply_ok}
use Rattle.fields.proofs.Wrote.{no_string}
use Rattle.reply_parts.specs.Parts.{parts_bytes, parts_ok, parts_of}

pub parts_bytes_lem : (r : Reply) (b t : List ℕ) → parts_bytes (parts_of r) b t ≡ reply_bytes r b t
unfolding parts_of reply_bytes
parts_bytes_lem (carry_a c a) b t = refl
parts_bytes_lem (ack k) b t = refl
parts_bytes_lem (byte x) b t = refl
parts_bytes_lem (carry_yx c y x) b t = refl
parts_bytes_lem block b t = append-nil b
parts_bytes_lem escaped_line b t = refl
parts_bytes_lem read_line b t = refl
parts_bytes_lem (a_block a) b t = rw append-nil
parts_bytes_lem plain b t = refl
parts_bytes_lem (block_carry_a c a) b t = refl

pub parts_ok_lem : (k : Kind) (r : Reply) (b t : List ℕ) → parts_ok k (parts_of r) b t ≡ reply_ok k r b t
unfolding parts_of parts_ok reply_ok
parts_ok_lem k (carry_a c a) b t = refl
parts_ok_lem k (ack s) b t = refl
parts_ok_lem k (byte x) b t = refl
parts_ok_lem k (carry_yx c y x) b t = refl
parts_ok_lem k block b t = refl
parts_ok_lem k escaped_line b t = refl
parts_ok_lem k read_line b t = refl
parts_ok_lem k (a_block a) b t = refl
parts_ok_lem k plain b t = refl
parts_ok_lem k (block_carry_a c a) b t = refl

-- a string that a reply does not have is empty, and then holds no return
pub no_string_given : (t : List ℕ) → eqb (length t) 0 ≡ (eqb (length t) 0 && not (has_return t))
no_string_given t = no_string t

pub ruleset fitting = (no_string_given)
