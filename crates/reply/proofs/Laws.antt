-- The fields of a reply in its bytes.
use Prim.Native.Nat.{ℕ}
use mathlib.Core.Path.{◌≡◌}
use mathlib.Core.List.{List}
use Rattle.serial_rules.specs.Reply as rules
use Rattle.reply.specs.Promise.{Given, given_in, GivenDone}

-- what was read is the reply
pub given_is : {s : List ℕ} {g : rules.Given} {r : Given} → GivenDone s g r → given_in r s ≡ g
given_is d = rw (d.reply_is, d.block_at.bytes_are, d.text_at.bytes_are)
