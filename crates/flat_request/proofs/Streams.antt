-- A stream read through flat records is one read by the reader that they stand for: so what is proved of streams is said of the exports.
use Prim.Native.Nat.{ℕ}
use mathlib.Core.Path.{◌≡◌, refl, sym, ap, subst, ◌∙◌}
use mathlib.Core.Bool.{true}
use mathlib.Core.List.{List}
use lib.Dec.{leb}
use Rattle.serial_rules.specs.Reader as rules
use Rattle.carrier.proofs.Numbers.{carrier_back, carrier_tag}
use Rattle.request_reader.specs.declared.Phase.{Phase}
use Rattle.request_reader.specs.declared.Phase.TheVariants.{Outside, Inside, Stopped}
use Rattle.request_reader.specs.declared.Reader.{Reader}
use Rattle.request_reader.specs.declared.Answer.{Answer}
use Rattle.request_reader.specs.declared.Answer.TheVariants.{More, Character, Request, Refused}
use Rattle.request_reader.specs.Read.{Read}
use Rattle.request_reader.specs.Read as reads
use Rattle.flat.proofs.Flags.{flag_back}
use Rattle.flat_reader.specs.declared.FlatReader.{FlatReader}
use Rattle.flat_reader.specs.declared.FlatRead.{FlatRead}
use Rattle.flat_reader.specs.Readers.{phase_at, phase_number, reader_of, tags_ok, flat_of, flat_read, FlatDone}
use Rattle.flat_request.specs.Streams.{FlatReads, stop, took}

-- a reader comes back from its flat record, whose numbers are in range
phase_back : (p : Phase) → phase_at (phase_number p) ≡ p
phase_back Outside = refl
phase_back Inside = refl
phase_back Stopped = refl

phase_tag : (p : Phase) → leb (phase_number p) 2 ≡ true
phase_tag Outside = refl
phase_tag Inside = refl
phase_tag Stopped = refl

reader_back : (e : ℕ) (r : Reader) → reader_of (flat_of e r) ≡ r
reader_back e r = rw (carrier_back r.carrier, phase_back r.phase, flag_back e r.escape)

tags_back : (e : ℕ) (r : Reader) → tags_ok (flat_of e r) ≡ true
unfolding tags_ok
tags_back e r = rw (carrier_tag r.carrier, phase_tag r.phase)

reader_is : (f : FlatReader) (a : Answer) → (flat_read f a).reader ≡ f
reader_is f More = refl
reader_is f (Character b) = refl
reader_is f (Request style code n) = refl
reader_is f (Refused n) = refl

-- the record that a byte leaves is in range again, and stands for the reader that the step left
module _ {f : FlatReader} {lent left : List ℕ} {x : ℕ} {o : FlatRead} (ok : tags_ok f ≡ true) (d : FlatDone f lent x o left) where
  next_is : o.reader ≡ flat_of f.escape (d.known ok).stepped.reader
  next_is = let k = d.known ok in ap (λ (r : FlatRead). r.reader) k.is ∙ reader_is (flat_of f.escape k.stepped.reader) k.stepped.answer

  pub still_tagged : tags_ok o.reader ≡ true
  still_tagged = subst (λ (g : FlatReader). tags_ok g ≡ true) (sym next_is) (tags_back f.escape (d.known ok).stepped.reader)

  next_reader : reader_of o.reader ≡ (d.known ok).stepped.reader
  next_reader = ap reader_of next_is ∙ reader_back f.escape (d.known ok).stepped.reader

pub as_read : {f q : FlatReader} {lent raw end : List ℕ} {gave : List FlatRead} {answers : List rules.Answer} → FlatReads f lent raw gave answers q end
    → Read (reader_of f) lent raw answers (reader_of q) end
as_read stop = reads.stop
as_read (took {q = q} {left = left} {end = end} {raw = raw} {answers = answers} ok d t) =
    reads.took (d.known ok).done (subst (λ (r : Reader). Read r left raw answers (reader_of q) end) (next_reader ok d) (as_read t))
