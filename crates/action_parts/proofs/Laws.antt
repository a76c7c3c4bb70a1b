-- The parts of an action make up its bytes, and fit where the action does.
use Prim.Native.Nat.{ℕ}
use mathlib.Core.Path.{◌≡◌, refl}
use mathlib.Core.Bool.{true, not, ◌&&◌}
use mathlib.Core.List.{List, ◌∷◌, append-nil}
use native.Mathlib.Omega.{arith}
use lib.Dec.{eqb, ltb}
use lib.ListN.{length}
use borrow.Author.Tests.{ltb-true, le-leb}
use Rattle.serial_rules.specs.Escape.{escape, escaped}
use Rattle.serial_rules.specs.Session.{has_zero}
use Rattle.serial_rules.proofs.Trip.{and_both}
use Rattle.host_rules.specs.Actions.{Sent, failing, restarting, escape_state, event, address, control, ending, sent_raw, sent_ok, block_fits}
use Rattle.calls.specs.Rows.{length_byte}
use Rattle.fields.proofs.Wrote.{no_text}
use Rattle.action_parts.specs.Parts.{parts_of, parts_own, parts_fit}

pub parts_fit_lem : (a : Sent) (k : ℕ) (b t : List ℕ) → parts_fit (parts_of a k) b t ≡ sent_ok a b t
unfolding parts_of parts_fit sent_ok
parts_fit_lem (failing n) k b t = refl
parts_fit_lem restarting k b t = refl
parts_fit_lem (escape_state on) k b t = refl
parts_fit_lem (event y x a) k b t = refl
parts_fit_lem (address g b3 b2 b1 b0) k b t = refl
parts_fit_lem control k b t = refl
parts_fit_lem ending k b t = refl

-- a text that an action does not have is empty, and then holds no byte that ends one
pub no_text_given : (t : List ℕ) → eqb (length t) 0 ≡ (eqb (length t) 0 && not (has_zero t))
no_text_given t = no_text t

pub parts_raw_lem : (a : Sent) (b t : List ℕ) → sent_ok a b t ≡ true → escape ∷ (parts_of a (length_byte (length b))).mark ∷ escaped (parts_own (parts_of a (length_byte (length b))) b t) ≡ sent_raw a b t
unfolding parts_of sent_raw sent_ok
parts_raw_lem (failing n) b t h = refl
parts_raw_lem restarting b t h = refl
parts_raw_lem (escape_state on) b t h = refl
parts_raw_lem (event y x a) b t h = refl
parts_raw_lem (address g b3 b2 b1 b0) b t h = refl
parts_raw_lem control b t h =
    let k = and_both (block_fits control (length b)) (eqb (length t) 0 && not (has_zero t)) h in
    let l = ltb-true (length b) 0x80 (and_both (not (eqb (length b) 0)) (ltb (length b) 0x80) k.0).1 in
    rw (le-leb (length b) 255 (omega (arith, l)), append-nil b) refl
parts_raw_lem ending b t h = refl
