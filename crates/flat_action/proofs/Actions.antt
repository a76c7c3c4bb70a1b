-- What the writer of actions promises by numbers, in its flat form.
use Prim.Native.Nat.{ℕ}
use mathlib.Core.Path.{◌≡◌, ap, ◌∙◌}
use mathlib.Core.List.{List}
use lib.Dec.{ltb}
use lib.ListN.{length}
use Rattle.std.specs.Prelude.{Option}
use Rattle.serial_rules.specs.Call.{string_limit}
use Rattle.fields.specs.Promise.{Written}
use Rattle.action_parts.specs.declared.Sent.{Sent}
use Rattle.flat.specs.declared.FlatWritten.{FlatWritten}
use Rattle.flat.specs.Flat.{flat_written}
use Rattle.flat.proofs.Flags.{refused}
use Rattle.flat_action.specs.Actions.{NamedDone, FlatActionDone}

pub flat : {named : Option Sent} {b t out left : List ℕ} {r : Written} {f : FlatWritten} → NamedDone named b t out r left → f ≡ flat_written r
    → FlatActionDone named b t out f left
flat {t = t} {r = r} d e =
    record {
      known = λ a k. record { written = r; done = d.known a k; is = e };
      no_action = λ k. let w = d.no_action k in (e ∙ ap flat_written w.0 ∙ refused (ltb string_limit (length t)), w.1);
    }
