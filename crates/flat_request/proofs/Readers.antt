-- A flat record comes back from its reader, and what `read` and `feed` promise follows from what the reader's own step and loop do.
use Prim.Native.Nat.{ℕ, zero, suc}
use native.Mathlib.Omega.{arith}
use mathlib.Core.Path.{◌≡◌, refl, sym, subst, ◌∙◌}
use mathlib.Core.Bool.{true, false, true≢false}
use mathlib.Core.List.{List}
use borrow.Author.Tests.{leb-true, eq-eqb, ne_eqb}
use lib.Dec.{leb}
use lib.ListN.{length}
use Rattle.serial_rules.proofs.Trip.{and_both}
use Rattle.carrier.specs.Carriers.{last_carrier}
use Rattle.carrier.proofs.Numbers.{carrier_same}
use Rattle.request_reader.specs.declared.Reader.{Reader}
use Rattle.request_reader.specs.declared.Answer.TheVariants.{More, Refused}
use Rattle.request_reader.specs.declared.Stepped.{Stepped}
use Rattle.request_reader.specs.View.{StepDone}
use Rattle.refusal.specs.declared.Refusal.TheVariants.{Stopped}
use Rattle.request_loop.specs.declared.Fed.{Fed}
use Rattle.request_loop.specs.Feed.{FeedDone}
use Rattle.flat.proofs.Flags.{flag_same}
use Rattle.flat_reader.specs.declared.FlatReader.{FlatReader}
use Rattle.flat_reader.specs.declared.FlatRead.{FlatRead}
use Rattle.flat_reader.specs.Readers.{phase_at, phase_number, reader_of, tags_ok, flat_of, flat_read, FlatDone}
use Rattle.flat_request.specs.Feeds.{FlatFeedDone}

-- from a flat record and back
phase_same : (n : ℕ) → leb n 2 ≡ true → phase_number (phase_at n) ≡ n
phase_same zero h = refl
phase_same (suc zero) h = refl
phase_same (suc (suc zero)) h = refl
phase_same (suc (suc (suc n))) h = absurd (omega (arith, leb-true (suc (suc (suc n))) 2 h))

pub flat_back : (f : FlatReader) → tags_ok f ≡ true → flat_of f.escape (reader_of f) ≡ f
unfolding tags_ok
flat_back f ok =
    let p = and_both (leb f.carrier last_carrier) (leb f.phase 2) ok in
    rw (carrier_same f.carrier p.0, phase_same f.phase p.1, flag_same f.escape)

-- a record whose numbers are in range: its reader's step, and its reader's loop
module _ {f : FlatReader} {p : Reader} {lent left : List ℕ} (ok : tags_ok f ≡ true) (u : p ≡ reader_of f) where
  pub read_known : {x : ℕ} {r : Stepped} {o : FlatRead} → StepDone p lent x r left → o ≡ flat_read (flat_of f.escape r.reader) r.answer → FlatDone f lent x o left
  read_known {x} {r} d e =
      record {
        known = λ _. record { stepped = r; done = subst (λ (q : Reader). StepDone q lent x r left) u d; is = e };
        unknown = λ out. absurd (true≢false (sym ok ∙ out));
      }

  pub fed_known : {raw : List ℕ} {r : Fed} {o : FlatRead} → FeedDone p lent raw r left → o ≡ flat_read (flat_of f.escape r.reader) r.answer
      → FlatFeedDone f lent raw (record { read = o; used = r.used }) left
  fed_known {raw} {r} d e =
      record {
        known = λ _. record { fed = r; done = subst (λ (q : Reader). FeedDone q lent raw r left) u d; is = rw e };
        unknown = λ out. absurd (true≢false (sym ok ∙ out));
      }

-- one with a number out of range
module _ {f : FlatReader} {lent : List ℕ} (out : tags_ok f ≡ false) where
  pub read_unknown : {x : ℕ} {o : FlatRead} → o ≡ flat_read f (Refused Stopped) → FlatDone f lent x o lent
  read_unknown e = record { known = λ ok. absurd (true≢false (sym ok ∙ out)); unknown = λ _. (e, refl) }

  pub fed_none : {raw : List ℕ} {o : FlatRead} → length raw ≡ 0 → o ≡ flat_read f More → FlatFeedDone f lent raw (record { read = o; used = 0 }) lent
  fed_none {raw} none e = record { known = λ ok. absurd (true≢false (sym ok ∙ out)); unknown = λ _. (rw (eq-eqb (length raw) 0 none, e), refl) }

  pub fed_unknown : {raw : List ℕ} {o : FlatRead} → (length raw ≡ 0 → ⊥) → o ≡ flat_read f (Refused Stopped) → FlatFeedDone f lent raw (record { read = o; used = 1 }) lent
  fed_unknown {raw} some e = record { known = λ ok. absurd (true≢false (sym ok ∙ out)); unknown = λ _. (rw (ne_eqb (length raw) 0 some, e), refl) }
