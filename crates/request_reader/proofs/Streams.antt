-- What the program's reader gives on a whole stream is what the rules' reader gives: so the theorems on streams speak of it.
use Prim.Native.Nat.{ℕ, ◌≤◌}
use mathlib.Core.Path.{◌≡◌, refl, ap₂, ◌∙◌}
use mathlib.Core.Bool.{true, false}
use mathlib.Core.List.{List, ◌∷◌, ◌++◌}
use lib.ListN.{length}
use Rattle.serial_rules.specs.Call as call
use Rattle.serial_rules.specs.Reader as rules
use Rattle.serial_rules.specs.Stream.{reader_after, answers, finished, opened, Accepted, FirstAnswer}
use Rattle.serial_rules.proofs.Stream.{stream_kept}
use Rattle.serial_rules.proofs.Trip.{written_then_read}
use Rattle.carrier.specs.declared.Carrier.{Carrier}
use Rattle.carrier.specs.Carriers.{carrier_of}
use Rattle.request_reader.specs.declared.Reader.{Reader}
use Rattle.request_reader.specs.View.{view_of, fresh}
use Rattle.request_reader.specs.Read.{Read, stop, took}

-- the carrier of a reader stays, and the answers and the end are the rules'
pub record AsRuled (r : Reader) (lent raw : List ℕ) (gave : List rules.Answer) (q : Reader) (end : List ℕ) : Type 0 where
  pub told : gave ≡ answers (carrier_of r.carrier) (view_of r lent) raw
  pub left : view_of q end ≡ reader_after (carrier_of r.carrier) (view_of r lent) raw
  pub carrier : q.carrier ≡ r.carrier

pub as_ruled : {r q : Reader} {lent raw end : List ℕ} {gave : List rules.Answer} → Read r lent raw gave q end → AsRuled r lent raw gave q end
unfolding answers reader_after
as_ruled stop = record { told = refl; left = refl; carrier = refl }
as_ruled (took {r = r} {lent = lent} {x = x} {raw = raw} {o = o} d t) =
    let a = as_ruled t in
    record {
      told = ap₂ (λ (z : rules.Answer) (l : List rules.Answer). z ∷ l) d.answer (a.told ∙ ap₂ (λ (k : Carrier) (v : rules.Reader). answers (carrier_of k) v raw) d.carrier d.next);
      left = a.left ∙ ap₂ (λ (k : Carrier) (v : rules.Reader). reader_after (carrier_of k) v raw) d.carrier d.next;
      carrier = a.carrier ∙ d.carrier;
    }

-- Writing then reading: over the encoding of a request and whatever follows, a fresh reader needs more until the last byte of the encoding,
-- which finishes that request.
pub reads_request : {q : Reader} {lent end : List ℕ} {gave : List rules.Answer} (carrier : Carrier) (style : ℕ) (c : call.Call) (b t r : List ℕ)
    → call.style_ok (carrier_of carrier) style ≡ true → call.call_ok c b t ≡ true → length t ≤ 255
    → Read (fresh carrier) lent (call.encoding_of (carrier_of carrier) style c b t ++ r) gave q end
    → (gave ≡ answers (carrier_of carrier) (rules.outside false) (call.encoding_of (carrier_of carrier) style c b t ++ r))
    × FirstAnswer (carrier_of carrier) (rules.outside false) (call.encoding_of (carrier_of carrier) style c b t ++ r)
    (rules.request style (call.code_of c) (call.body_of c b t)) (rules.outside false) r
reads_request carrier style c b t r s ok h d = ((as_ruled d).told, written_then_read (carrier_of carrier) style c b t r s ok h)

-- Reading then writing, over any stream: the encodings of what was finished, joined, then the raw bytes of the part that is open, are
-- the bytes taken, as long as none is refused.
pub stream_read : {q : Reader} {lent raw end : List ℕ} {gave : List rules.Answer} (carrier : Carrier) → Read (fresh carrier) lent raw gave q end → Accepted gave
    → raw ≡ finished (carrier_of carrier) gave ++ opened (carrier_of carrier) (view_of q end)
stream_read {raw = raw} carrier d h =
    let a = as_ruled d in
    rw (a.told, a.left) (stream_kept (carrier_of carrier) (rules.outside false) raw (rw a.told at h))
