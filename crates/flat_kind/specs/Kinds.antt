-- The kinds of call by number, and what `kind_of` promises.
use Rattle.std.specs.Prelude.{ℕ, ◌≡◌, cond, List, eqb, leb, Option, Some, None}
use Rattle.serial_rules.specs.Reply.{kind_in}
use Rattle.kind.specs.Kinds.{found_for}
use Rattle.kind.specs.declared.CallKind.{CallKind}
use Rattle.kind.specs.declared.CallKind.TheVariants.{Osrdch, Oscli, OsbyteLow, OsbyteHigh, Osword, Osword0, Osargs, Osbget, Osbput, OsfindClose, OsfindOpen, Osfile, Osgbpb}
use Rattle.flat_kind.specs.declared.FlatKind.{FlatKind}

-- the kinds in the order of the request table, from 0; OSWORD has its out length. A number above the last falls to the last.
abbrev pub kind_at : ℕ → ℕ → CallKind
kind_at n out =
    cond (eqb n 0) Osrdch
    (cond (eqb n 1) Oscli
    (cond (eqb n 2) OsbyteLow
    (cond (eqb n 3) OsbyteHigh
    (cond (eqb n 4) (Osword out)
    (cond (eqb n 5) Osword0
    (cond (eqb n 6) Osargs
    (cond (eqb n 7) Osbget
    (cond (eqb n 8) Osbput
    (cond (eqb n 9) OsfindClose
    (cond (eqb n 10) OsfindOpen
    (cond (eqb n 11) Osfile
    Osgbpb)))))))))))

abbrev pub last_call : ℕ
last_call = 12

-- the kind of a number, if a call has it
abbrev pub known_kind : ℕ → ℕ → Option CallKind
known_kind n out = cond (leb n last_call) (Some (kind_at n out)) None

abbrev pub kind_number : CallKind → ℕ
kind_number Osrdch = 0
kind_number Oscli = 1
kind_number OsbyteLow = 2
kind_number OsbyteHigh = 3
kind_number (Osword n) = 4
kind_number Osword0 = 5
kind_number Osargs = 6
kind_number Osbget = 7
kind_number Osbput = 8
kind_number OsfindClose = 9
kind_number OsfindOpen = 10
kind_number Osfile = 11
kind_number Osgbpb = 12

-- OSWORD's out length; a kind without one keeps the number given
abbrev pub kind_out : ℕ → CallKind → ℕ
kind_out given Osrdch = given
kind_out given Oscli = given
kind_out given OsbyteLow = given
kind_out given OsbyteHigh = given
kind_out given (Osword n) = n
kind_out given Osword0 = given
kind_out given Osargs = given
kind_out given Osbget = given
kind_out given Osbput = given
kind_out given OsfindClose = given
kind_out given OsfindOpen = given
kind_out given Osfile = given
kind_out given Osgbpb = given

-- no call has a number of its own
abbrev pub no_call_number : ℕ
no_call_number = 255

-- the flat form of a kind found: only OSWORD has an out length
abbrev pub flat_found : Option CallKind → FlatKind
flat_found (Some kind) = record { call = kind_number kind; out_length = kind_out 0 kind }
flat_found None = record { call = no_call_number; out_length = 0 }

-- What `kind_of` promises of the code and the body of a request, and the result: it is the flat form of what was found.
pub record FlatKindDone (code : ℕ) (body : List ℕ) (r : FlatKind) : Type 0 where
  pub found : Option CallKind
  pub done : found_for found ≡ kind_in code body
  pub is : r ≡ flat_found found
