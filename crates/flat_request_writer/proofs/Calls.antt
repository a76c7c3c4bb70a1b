-- What the request writer promises by numbers, in its flat form.
use Prim.Native.Nat.{ℕ}
use mathlib.Core.Path.{◌≡◌, ap, ◌∙◌}
use mathlib.Core.List.{List}
use borrow.Author.Tests.{le-leb, lt-leb}
use lib.Dec.{ltb}
use lib.ListN.{length}
use Rattle.serial_rules.specs.Call.{string_limit}
use Rattle.fields.specs.Promise.{Written}
use Rattle.flat.specs.declared.FlatWritten.{FlatWritten}
use Rattle.flat.specs.Flat.{flat_written}
use Rattle.flat.proofs.Flags.{refused}
use Rattle.flat_kind.specs.Kinds.{last_call}
use Rattle.flat_request_writer.specs.Calls.{call_at, call_from, NumberedDone, FlatRequestDone}

-- the flat form of what was written by numbers
module _ {carrier style : ℕ} (n x y a o : ℕ) {b t out left : List ℕ} {r : Written} {f : FlatWritten} where
  pub flat : NumberedDone carrier style (call_from n x y a o) b t out r left → f ≡ flat_written r → FlatRequestDone carrier style n (call_at n x y a o) b t out f left
  flat d e =
      let call = call_at n x y a o in
      record {
        known = λ k on. record { written = r; done = d.known call (rw (le-leb n last_call k)) on; is = e };
        no_call = λ above. let w = d.no_call (rw (lt-leb n last_call above)) in (rw w.0 at e, w.1);
        no_carrier = λ k above. let w = d.no_carrier call (rw (le-leb n last_call k)) above in (e ∙ ap flat_written w.0 ∙ refused (ltb string_limit (length t)), w.1);
      }
