-- What a byte of a reply on the parallel side promises.
use Rattle.std.specs.Prelude.{ℕ, ◌+◌, ◌≡◌, cond, List, ltb, take}
use Rattle.serial_rules.specs.Body as body
use Rattle.serial_rules.specs.Lent.{turn_lent}
use Rattle.serial_rules.specs.Reply.{Shape, shape_turn, longest, reply_turn}
use Rattle.turns.specs.Turns.{turn_of}
use Rattle.kind.specs.Kinds.{kind_for}
use Rattle.kind.specs.declared.CallKind.{CallKind}
use Rattle.reply_reader.specs.declared.Taken.{Taken}

-- how many bytes of the reply there are after a byte: a refused one is not counted
abbrev pub count_after : ℕ → body.Turn → ℕ
count_after n body.more = n + 1
count_after n body.done = n + 1
count_after n (body.refused k) = n

-- The byte did what the turn says, behind the first n of the lent bytes.
pub record TurnDone (turn : body.Turn) (n b : ℕ) (lent : List ℕ) (r : Taken) (left : List ℕ) : Type 0 where
  pub turn_is : turn_of r.turn ≡ turn
  pub count_is : r.count ≡ count_after n turn
  pub bytes : left ≡ turn_lent lent n b turn

-- What `take_byte` promises of the kind, the count, the byte, the lent reply before and after, and the result, for every one of them.
abbrev pub TakeDone : CallKind → ℕ → ℕ → List ℕ → Taken → List ℕ → Type 0
TakeDone kind n b lent r left = TurnDone (reply_turn (kind_for kind) (take n lent) b) n b lent r left

-- the same by the shape of the reply, of which n bytes are there
abbrev pub shape_reply : Shape → ℕ → ℕ → body.Turn
shape_reply s n b = cond (ltb n (longest s)) (shape_turn s n b) (body.refused 7)

abbrev pub ShapeDone : Shape → ℕ → ℕ → List ℕ → Taken → List ℕ → Type 0
ShapeDone s n b lent r left = TurnDone (shape_reply s n b) n b lent r left
