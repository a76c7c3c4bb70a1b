-- Actions by number, for callers in C: what writing one promises.
use Rattle.std.specs.Prelude.{ℕ, ◌≡◌, Option, Some, None, Err, cond, not, List, eqb, ltb, length}
use Rattle.serial_rules.specs.Escape.{escaped}
use Rattle.serial_rules.specs.Call.{string_limit}
use Rattle.refusal.specs.declared.Refusal.TheVariants.{TooLong, BadField}
use Rattle.fields.specs.Promise.{Written, Encoded}
use Rattle.actions.specs.declared.Target.TheVariants.{Set, Execute, Load, Save}
use Rattle.action_parts.specs.declared.Sent.{Sent}
use Rattle.action_parts.specs.declared.Sent.TheVariants.{Error, Restart, EscapeState, Event, Address, Block, End}
use Rattle.action_writer.specs.Promise.{ActionWritten}
use Rattle.flat.specs.declared.FlatWritten.{FlatWritten}
use Rattle.flat.specs.Flat.{flat_written, unwritten_with}

-- the action that a link tells under a number, with the numbers that it has; the Escape state is on where its number is not 0
unfoldable pub action_at : ℕ → ℕ → ℕ → ℕ → ℕ → Option Sent
action_at n first second third fourth =
    cond (eqb n 2) (Some (EscapeState (not (eqb first 0))))
    (cond (eqb n 3) (Some (Event first second third))
    (cond (eqb n 4) (Some (Address Set first second third fourth))
    (cond (eqb n 6) (Some (Error first))
    (cond (eqb n 7) (Some Restart)
    (cond (eqb n 9) (Some Block)
    (cond (eqb n 10) (Some (Address Execute first second third fourth))
    (cond (eqb n 11) (Some (Address Load first second third fourth))
    (cond (eqb n 12) (Some (Address Save first second third fourth))
    (cond (eqb n 14) (Some End)
    None)))))))))

-- A number that no action has is a field that breaks its rule, 9, behind 6.
abbrev pub no_action_number : ℕ → ℕ
no_action_number k = cond (ltb string_limit k) 6 9

-- What the writer answers of the action that was named.
pub record NamedDone (named : Option Sent) (b t out : List ℕ) (r : Written) (left : List ℕ) : Type 0 where
  pub known : (action : Sent) → named ≡ Some action → ActionWritten action b t out r left
  pub no_action : named ≡ None → (r ≡ Err (cond (ltb string_limit (length t)) TooLong BadField)) × (left ≡ out)

-- The result is the flat form of what the writer answers.
pub record FlatActionWritten (action : Sent) (b t out : List ℕ) (r : FlatWritten) (left : List ℕ) : Type 0 where
  pub written : Written
  pub done : ActionWritten action b t out written left
  pub is : r ≡ flat_written written

-- What `write_action` promises of the action that was named, the lent bytes before and after, and the result.
pub record FlatActionDone (named : Option Sent) (b t out : List ℕ) (r : FlatWritten) (left : List ℕ) : Type 0 where
  pub known : (action : Sent) → named ≡ Some action → FlatActionWritten action b t out r left
  pub no_action : named ≡ None → (r ≡ unwritten_with (no_action_number (length t))) × (left ≡ out)

-- What `write_data` promises of the bytes, the lent bytes before and after, and the result.
pub record FlatDataDone (bytes out : List ℕ) (r : FlatWritten) (left : List ℕ) : Type 0 where
  pub written : Written
  pub done : Encoded (escaped bytes) out written left
  pub is : r ≡ flat_written written
