-- A reply read on the parallel side: each byte as `take_byte` promises, on the count and the lent bytes that the last one left.
use Rattle.std.specs.Prelude.{ℕ, List, [], ◌∷◌}
use Rattle.serial_rules.specs.Body.{Turn}
use Rattle.turns.specs.Turns.{turn_of}
use Rattle.kind.specs.declared.CallKind.{CallKind}
use Rattle.reply_reader.specs.declared.Taken.{Taken}
use Rattle.reply_reader.specs.Promise.{TakeDone}

-- from a count and the lent reply, over bytes, with their turns, to the count and the lent reply left
pub data Takes (kind : CallKind) : ℕ → List ℕ → List ℕ → List Turn → ℕ → List ℕ → Type 0 where
  stop : {n : ℕ} {lent : List ℕ} → Takes kind n lent [] [] n lent
  took : {n m b : ℕ} {lent left end l : List ℕ} {o : Taken} {turns : List Turn}
      → TakeDone kind n b lent o left → Takes kind o.count left l turns m end → Takes kind n lent (b ∷ l) (turn_of o.turn ∷ turns) m end
