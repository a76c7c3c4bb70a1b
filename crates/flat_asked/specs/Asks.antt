-- The fields of a request as a flat record.
use Rattle.std.specs.Prelude.{ℕ, ◌≡◌, Option, Some, None, List}
use Rattle.calls.specs.declared.Call.{Call}
use Rattle.calls.specs.declared.Call.TheVariants.{Osrdch, Oscli, OsbyteLow, OsbyteHigh, Osword, Osword0, Osargs, Osbget, Osbput, OsfindClose, OsfindOpen, Osfile, Osgbpb}
use Rattle.flat_kind.specs.Kinds.{no_call_number}
use Rattle.request.specs.Promise.{Asked, IsRequestRead}
use Rattle.flat_asked.specs.declared.FlatAsked.{FlatAsked}

abbrev pub asked_with : Asked → ℕ → ℕ → ℕ → ℕ → ℕ → FlatAsked
asked_with r call x y a out =
    record { block_start = r.block.start; block_length = r.block.length; text_start = r.text.start; text_length = r.text.length; call = call; x = x; y = y; a = a; out_length = out }

-- the calls in the order of the request table, from 0; a number that the call lacks is 0
abbrev pub asked_as : Asked → Call → FlatAsked
asked_as r Osrdch = asked_with r 0 0 0 0 0
asked_as r Oscli = asked_with r 1 0 0 0 0
asked_as r (OsbyteLow x a) = asked_with r 2 x 0 a 0
asked_as r (OsbyteHigh x y a) = asked_with r 3 x y a 0
asked_as r (Osword a out) = asked_with r 4 0 0 a out
asked_as r Osword0 = asked_with r 5 0 0 0 0
asked_as r (Osargs y a) = asked_with r 6 0 y a 0
asked_as r (Osbget y) = asked_with r 7 0 y 0 0
asked_as r (Osbput y a) = asked_with r 8 0 y a 0
asked_as r (OsfindClose y) = asked_with r 9 0 y 0 0
asked_as r (OsfindOpen a) = asked_with r 10 0 0 a 0
asked_as r (Osfile a) = asked_with r 11 0 0 a 0
asked_as r (Osgbpb a) = asked_with r 12 0 0 a 0

-- the flat form of what was read; of no call everything else is 0
abbrev pub flat_asked : Option Asked → FlatAsked
flat_asked (Some r) = asked_as r r.said
flat_asked None = record { block_start = 0; block_length = 0; text_start = 0; text_length = 0; call = no_call_number; x = 0; y = 0; a = 0; out_length = 0 }

-- What `read_request` promises of the code, the body and the result: it is the flat form of what the reading below it gives.
pub record FlatAskedDone (code : ℕ) (s : List ℕ) (r : FlatAsked) : Type 0 where
  pub read : Option Asked
  pub done : IsRequestRead code s read
  pub is : r ≡ flat_asked read
