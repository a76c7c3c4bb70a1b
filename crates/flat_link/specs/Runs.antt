-- What the loop over raw bytes promises of flat records.
use Rattle.std.specs.Prelude.{ℕ, ◌≡◌, true, false, cond, List, eqb, length}
use Rattle.refusal.specs.declared.Refusal.TheVariants.{Stopped, NoRoom}
use Rattle.refusal.specs.Refusals.{number}
use Rattle.answers.specs.declared.Answer.TheVariants as variant
use Rattle.link_loop.specs.declared.Ran.{Ran}
use Rattle.link_loop.specs.Run.{lacks_room, RunDone}
use Rattle.link_record.specs.declared.FlatLink.{FlatLink}
use Rattle.flat_link.specs.declared.FlatTold.{FlatTold}
use Rattle.flat_link.specs.declared.FlatRan.{FlatRan}
use Rattle.link_record.specs.Records.{link_of, tags_ok, flat_of}
use Rattle.flat_link.specs.Links.{flat_told}

-- the flat result of the loop, beside the record given
abbrev pub flat_ran : FlatLink → Ran → FlatRan
flat_ran f o = record { told = flat_told (flat_of f o.link) o.answer; used = o.used; noted = o.noted; stored = o.stored }

-- of a record with a number out of range: so many raw bytes with so much room and content. Too little of them comes first, no bytes need more, and
-- else the first byte is refused as by a stopped link; the record is the one given.
abbrev pub ran_with : FlatTold → ℕ → FlatRan
ran_with r used = record { told = r; used = used; noted = 0; stored = 0 }

unfoldable pub flat_unknown : FlatLink → ℕ → ℕ → ℕ → FlatRan
flat_unknown f n room content =
    cond (lacks_room f.held n room content) (ran_with (flat_told f (variant.Refused (number NoRoom))) 0)
    (cond (eqb n 0) (ran_with (flat_told f variant.More) 0)
    (ran_with (flat_told f (variant.Refused (number Stopped))) 1))

-- the loop ran on the link of the record, and its result is flat
pub record IsFlatRan (f : FlatLink) (reply own raw room content : List ℕ) (r : FlatRan) (reply-left own-left room-left content-left : List ℕ) : Type 0 where
  pub ran : Ran
  pub done : RunDone (link_of f) reply own raw room content ran reply-left own-left room-left content-left
  pub is : r ≡ flat_ran f ran

-- What `run` promises of the flat link, the lent bytes before and after, the raw bytes and the result.
pub record FlatRunDone (f : FlatLink) (reply own raw room content : List ℕ) (r : FlatRan) (reply-left own-left room-left content-left : List ℕ) : Type 0 where
  pub known : tags_ok f ≡ true → IsFlatRan f reply own raw room content r reply-left own-left room-left content-left
  pub unknown : tags_ok f ≡ false → (r ≡ flat_unknown f (length raw) (length room) (length content)) × (reply-left ≡ reply) × (own-left ≡ own) × (room-left ≡ room) × (content-left ≡ content)
