-- What a host sends to a call that waits, by its programs, and slices of it that a client's loop reads.
use Rattle.std.specs.Prelude.{ℕ, ◌≡◌, List, [], ◌∷◌, ◌++◌, map, take}
use Rattle.serial_rules.specs.Escape.{escaped}
use Rattle.serial_rules.specs.Link as rules
use Rattle.host_rules.specs.Streams.{Item, replying, loading, acting}
use Rattle.fields.specs.Promise.{Written}
use Rattle.fields.specs.Promise.{number, count, Encoded}
use Rattle.action_parts.specs.declared.Sent.{Sent}
use Rattle.action_parts.specs.Parts.{sent_for}
use Rattle.action_writer.specs.Promise.{ActionWritten}
use Rattle.link.specs.declared.Link.{Link}
use Rattle.link_loop.specs.Run.{Runs}

-- Items and their raw bytes, one behind the other: an action and load data as `write_action` and `fields::write_data` left them where their answer is 0; data bytes of
-- the reply, which is cut between any two of them.
pub data Sends : List Item → List ℕ → Type 0 where
  stop : Sends [] []
  acts : {out left raw : List ℕ} {r : Written} {is : List Item} (action : Sent) (b t : List ℕ)
      → ActionWritten action b t out r left → number r ≡ 0 → Sends is raw → Sends (acting (sent_for action) b t ∷ is) (take (count r) left ++ raw)
  loads : {out left raw : List ℕ} {r : Written} {is : List Item} (bytes : List ℕ)
      → Encoded (escaped bytes) out r left → number r ≡ 0 → Sends is raw → Sends (map loading bytes ++ is) (take (count r) left ++ raw)
  cuts : {raw : List ℕ} {is : List Item} (bytes : List ℕ) → Sends is raw → Sends (map replying bytes ++ is) (escaped bytes ++ raw)

-- Raw bytes in slices, each as far as `run` read it, on what the last one left.
pub data Slices : Link → List ℕ → List ℕ → List ℕ → List rules.Report → Link → List ℕ → List ℕ → Type 0 where
  stop : {l : Link} {reply own : List ℕ} → Slices l reply own [] [] l reply own
  ran : {l m q : Link} {reply own reply-left own-left reply-end own-end raw others : List ℕ} {reports told : List rules.Report}
      → Runs l reply own raw reports m reply-left own-left → Slices m reply-left own-left others told q reply-end own-end
      → Slices l reply own (raw ++ others) (reports ++ told) q reply-end own-end
