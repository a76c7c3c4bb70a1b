-- Calls by number for callers in C.
use Rattle.std.specs.Prelude.{ℕ, ◌≤◌, ◌<◌, ◌≡◌, Option, Some, None, Err, cond, List, eqb, leb, ltb, length}
use Rattle.serial_rules.specs.Call.{string_limit}
use Rattle.carrier.specs.Carriers.{carrier_of, carrier_at, last_carrier}
use Rattle.calls.specs.declared.Call.{Call}
use Rattle.calls.specs.declared.Call.TheVariants.{Osrdch, Oscli, OsbyteLow, OsbyteHigh, Osword, Osword0, Osargs, Osbget, Osbput, OsfindClose, OsfindOpen, Osfile, Osgbpb}
use Rattle.refusal.specs.declared.Refusal.TheVariants.{NotCarried, TooLong, BadField}
use Rattle.fields.specs.Promise.{Written}
use Rattle.request_writer.specs.Promise.{RequestDone}
use Rattle.flat.specs.declared.FlatWritten.{FlatWritten}
use Rattle.flat.specs.Flat.{flat_written, unwritten_with}
use Rattle.flat_kind.specs.Kinds.{last_call}

-- the calls in the order of the request table, from 0
abbrev pub call_at : ℕ → ℕ → ℕ → ℕ → ℕ → Call
call_at n x y a outLength =
    cond (eqb n 0) Osrdch
    (cond (eqb n 1) Oscli
    (cond (eqb n 2) (OsbyteLow x a)
    (cond (eqb n 3) (OsbyteHigh x y a)
    (cond (eqb n 4) (Osword a outLength)
    (cond (eqb n 5) Osword0
    (cond (eqb n 6) (Osargs y a)
    (cond (eqb n 7) (Osbget y)
    (cond (eqb n 8) (Osbput y a)
    (cond (eqb n 9) (OsfindClose y)
    (cond (eqb n 10) (OsfindOpen a)
    (cond (eqb n 11) (Osfile a)
    (Osgbpb a))))))))))))

-- the call of a number, none above the last
abbrev pub call_from : ℕ → ℕ → ℕ → ℕ → ℕ → Option Call
call_from n x y a outLength = cond (leb n last_call) (Some (call_at n x y a outLength)) None

-- What the request writer answers on the carrier of that number and for the call that a number names.
pub record NumberedDone (carrier style : ℕ) (named : Option Call) (b t out : List ℕ) (r : Written) (left : List ℕ) : Type 0 where
  pub known : (call : Call) → named ≡ Some call → carrier ≤ last_carrier → RequestDone (carrier_of (carrier_at carrier)) style call b t out r left
  pub no_call : named ≡ None → (r ≡ Err NotCarried) × (left ≡ out)
  pub no_carrier : (call : Call) → named ≡ Some call → last_carrier < carrier → (r ≡ Err (cond (ltb string_limit (length t)) TooLong BadField)) × (left ≡ out)

-- The result is the flat form of what the request writer answers on the carrier of that number.
pub record FlatRequestWritten (carrier style : ℕ) (call : Call) (b t out : List ℕ) (r : FlatWritten) (left : List ℕ) : Type 0 where
  pub written : Written
  pub done : RequestDone (carrier_of (carrier_at carrier)) style call b t out written left
  pub is : r ≡ flat_written written

-- What `write_request` promises, of the numbers of the carrier and of the call, and of that call. A number above the last call is first of all
-- 4, "mark or request code not carried"; one above the last carrier is a field that breaks its rule, 9, behind 6.
pub record FlatRequestDone (carrier style n : ℕ) (call : Call) (b t out : List ℕ) (r : FlatWritten) (left : List ℕ) : Type 0 where
  pub known : n ≤ last_call → carrier ≤ last_carrier → FlatRequestWritten carrier style call b t out r left
  pub no_call : last_call < n → (r ≡ unwritten_with 4) × (left ≡ out)
  pub no_carrier : n ≤ last_call → last_carrier < carrier → (r ≡ unwritten_with (cond (ltb string_limit (length t)) 6 9)) × (left ≡ out)
