-- What the writer promises of each of its answers.
use Prim.Native.Nat.{ℕ, ◌≤◌, ◌<◌}
use mathlib.Core.Path.{◌≡◌, refl, sym, ◌∙◌}
use mathlib.Core.Bool.{Bool, true, false, cond, not, ◌&&◌}
use mathlib.Core.List.{List}
use borrow.Author.Tests.{lt-ltb, le-ltb, not-true, not-false}
use lib.Dec.{ltb}
use lib.ListN.{length}
use Rattle.std.specs.Prelude.{Err}
use Rattle.serial_rules.specs.Call.{Carrier, string_limit, call_ok, style_ok, encoding_of, writer_number}
use Rattle.serial_rules.specs.Call as rules
use Rattle.serial_rules.proofs.Trip.{and_both}
use Rattle.carrier.specs.declared.Carrier as program
use Rattle.carrier.specs.Carriers.{carrier_of}
use Rattle.refusal.specs.declared.Refusal.TheVariants.{TooLong, BadField}
use Rattle.fields.specs.Promise.{Written, Encoded}
use Rattle.calls.specs.declared.Call.{Call}
use Rattle.calls.specs.declared.Row.{Row}
use Rattle.calls.specs.Calls.{call_of}
use Rattle.calls.specs.Rows.{length_byte, given_ok, row_of, row_raw, Writable}
use Rattle.calls.proofs.Rows.{rules_same, row_code, row_encoding}
use Rattle.request_writer.specs.Promise.{RequestDone}

-- The number of the answer after each check.
module _ (carrier : Carrier) (style : ℕ) (call : rules.Call) (b t : List ℕ) (room : ℕ) where
  long_number : string_limit < length t → writer_number carrier style call b t room ≡ 6
  unfolding writer_number
  long_number h = simp (lt-ltb _ _ h)

  bad_number : length t ≤ string_limit → style_ok carrier style && call_ok call b t ≡ false → writer_number carrier style call b t room ≡ 9
  unfolding writer_number
  bad_number h ok = simp (le-ltb _ _ h, ok)

  Accepted : length t ≤ string_limit → style_ok carrier style && call_ok call b t ≡ true
      → writer_number carrier style call b t room ≡ cond (ltb room (length (encoding_of carrier style call b t))) 8 0
  unfolding writer_number
  Accepted h ok = simp (le-ltb _ _ h, ok)

pub too_long : (carrier : Carrier) (style : ℕ) (call : Call) (b t out : List ℕ) → string_limit < length t → RequestDone carrier style call b t out (Err TooLong) out
too_long carrier style call b t out h = rw (long_number carrier style (call_of call) b t (length out) h) (record { answer = refl; written = refl; bytes = refl })

-- After the first check, with the call's row and what was found of all that is given.
module _ (carrier : program.Carrier) (style : ℕ) (call : Call) (b t out : List ℕ) {n : ℕ} {row : Row} {ok : Bool} (short : length t ≤ string_limit)
    (byte : n ≡ length_byte (length b)) (d : row ≡ row_of (call_of call) n) (e : ok ≡ (style_ok (carrier_of carrier) style && given_ok row b t)) where
  judged : ok ≡ (style_ok (carrier_of carrier) style && call_ok (call_of call) b t)
  judged = rw (d, byte, rules_same (call_of call) b t) at e

  pub bad_field : not ok ≡ true → RequestDone (carrier_of carrier) style call b t out (Err BadField) out
  bad_field h =
      rw (bad_number (carrier_of carrier) style (call_of call) b t (length out) short (sym judged ∙ not-true ok h)) (record { answer = refl; written = refl; bytes = refl })

  module _ (h : not ok ≡ false) where
    all_ok : style_ok (carrier_of carrier) style && call_ok (call_of call) b t ≡ true
    all_ok = sym judged ∙ not-false ok h

    kept : (style_ok (carrier_of carrier) style ≡ true) × (call_ok (call_of call) b t ≡ true)
    kept = and_both (style_ok (carrier_of carrier) style) (call_ok (call_of call) b t) all_ok

    pub writable : Writable carrier style row
    writable = rw d (record { style_kept = kept.0; code_small = row_code (call_of call) n })

    pub encoded : {w : Written} {left : List ℕ} → Encoded (row_raw carrier style row b t) out w left → RequestDone (carrier_of carrier) style call b t out w left
    encoded w =
        rw (Accepted (carrier_of carrier) style (call_of call) b t (length out) short all_ok)
        (rw (d, byte, row_encoding (call_of call) b t carrier style kept.1) at w)

-- what the writer needs
pub ruleset answers = (too_long, bad_field, writable)
