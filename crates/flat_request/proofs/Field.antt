-- A plain byte in the middle of a field is a step that needs more, on the flat record as it is.
use Prim.Native.Nat.{ℕ, ◌≤◌, ◌<◌}
use native.Mathlib.Omega.{arith}
use mathlib.Core.Path.{◌≡◌, refl, sym, ap, ◌∙◌}
use mathlib.Core.Bool.{true}
use mathlib.Core.List.{List}
use lib.Dec.{leb}
use lib.ListN.{length, get_or, take, set}
use lib.Seq.{length-take-le, get_or-take}
use borrow.Author.Tests.{lt-ltb}
use Rattle.serial_rules.specs.Call.{style_ok}
use Rattle.serial_rules.specs.Body.{longest_body}
use Rattle.serial_rules.proofs.Trip.{and_both}
use Rattle.middles.specs.Ahead.{ahead_in}
use Rattle.middles.proofs.Middle.{ahead_holds}
use Rattle.request_reader.specs.declared.Answer.TheVariants.{More}
use Rattle.carrier.specs.Carriers.{carrier_of, carrier_at, last_carrier}
use Rattle.request_reader.specs.View.{body_room, inside_limits}
use Rattle.request_loop.proofs.Plains.{plain_step}
use Rattle.flat_reader.specs.declared.FlatReader.{FlatReader}
use Rattle.flat_reader.specs.declared.FlatRead.{FlatRead}
use Rattle.flat_reader.specs.Readers.{reader_of, tags_ok, flat_read, FlatDone}
use Rattle.flat_request.specs.Field.{InField, placed_next}
use Rattle.flat_request.proofs.Readers.{flat_back, read_known}

module _ {f : FlatReader} {lent : List ℕ} {raw : ℕ} (d : InField f lent raw) where
  styles : (leb f.carrier last_carrier ≡ true) × (style_ok (carrier_of (carrier_at f.carrier)) f.style ≡ true)
  styles = and_both (leb f.carrier last_carrier) (style_ok (carrier_of (carrier_at f.carrier)) f.style) d.style

  tagged : tags_ok f ≡ true
  unfolding tags_ok
  tagged = rw d.inside (simp styles.0)

  -- the bytes so far, and that the count is below the limits
  held : length (take f.count lent) ≡ f.count
  held = length-take-le f.count lent (omega (arith, d.place))

  byte : 2 ≤ length (take f.count lent) → get_or (take f.count lent) 1 0 < 256
  byte two = omega (arith, held, d.second, get_or-take f.count lent 1 0 (omega (arith, held)))

  limited : inside_limits (reader_of f) ≡ true
  unfolding inside_limits
  limited =
      let a = ahead_holds f.code (take f.count lent) byte in
      let low : f.count < longest_body f.code = omega (arith, held, a.below d.ahead) in
      simp (styles.1, lt-ltb f.count (longest_body f.code) low)

  pub field_read : {g : FlatReader} {o : FlatRead} → length lent ≡ body_room → g ≡ placed_next f → o ≡ flat_read g More → FlatDone f lent raw o (set lent f.count raw)
  field_read whole n e =
      let a = ahead_holds f.code (take f.count lent) byte in
      let s = plain_step (reader_of f) (rw d.inside) limited (rw d.shut) lent raw (ahead_in f.code (take f.count lent)) a d.ahead whole d.byte in
      read_known tagged refl s (e ∙ ap (λ (q : FlatReader). flat_read q More) (n ∙ ap placed_next (sym (flat_back f tagged))))
