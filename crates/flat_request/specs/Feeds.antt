-- A slice of raw bytes read through flat records: what the reader's own loop gives, flat.
use Rattle.std.specs.Prelude.{ℕ, ◌≡◌, true, false, cond, List, eqb, length}
use Rattle.request_reader.specs.declared.Answer.TheVariants.{More, Refused}
use Rattle.refusal.specs.declared.Refusal.TheVariants.{Stopped}
use Rattle.request_loop.specs.declared.Fed.{Fed}
use Rattle.request_loop.specs.Feed.{FeedDone}
use Rattle.flat_reader.specs.declared.FlatReader.{FlatReader}
use Rattle.flat_reader.specs.Readers.{reader_of, tags_ok, flat_of, flat_read}
use Rattle.flat_request.specs.declared.FlatFed.{FlatFed}

-- the flat result of the loop, beside the record given
abbrev pub flat_fed : FlatReader → Fed → FlatFed
flat_fed f o = record { read = flat_read (flat_of f.escape o.reader) o.answer; used = o.used }

-- of a record with a number out of range, given so many raw bytes: no bytes need more, else the first is refused as by a stopped reader; the
-- record is the one given
abbrev pub flat_unfed : FlatReader → ℕ → FlatFed
flat_unfed f n = cond (eqb n 0) (record { read = flat_read f More; used = 0 }) (record { read = flat_read f (Refused Stopped); used = 1 })

-- the loop ran on the reader of the record, and its result is flat
pub record IsFlatFed (f : FlatReader) (lent raw : List ℕ) (r : FlatFed) (left : List ℕ) : Type 0 where
  pub fed : Fed
  pub done : FeedDone (reader_of f) lent raw fed left
  pub is : r ≡ flat_fed f fed

-- What `feed` promises of the flat reader, the lent body before and after, the raw bytes and the result.
pub record FlatFeedDone (f : FlatReader) (lent raw : List ℕ) (r : FlatFed) (left : List ℕ) : Type 0 where
  pub known : tags_ok f ≡ true → IsFlatFed f lent raw r left
  pub unknown : tags_ok f ≡ false → (r ≡ flat_unfed f (length raw)) × (left ≡ lent)
