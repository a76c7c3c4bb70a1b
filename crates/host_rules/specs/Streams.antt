-- A host's stream to a call that waits (document 02, R-3): where actions and load data may stand in the reply, and what a client's link is to tell of it.
use Rattle.std.specs.Prelude.{ℕ, ◌≡◌, Bool, true, false, cond, not, ◌&&◌, ◌||◌, List, [], ◌∷◌, ◌++◌, map, eqb, leb, length}
use Rattle.serial_rules.specs.Escape.{escaped}
use Rattle.serial_rules.specs.Call.{string_limit}
use Rattle.serial_rules.specs.Link as link
use Rattle.serial_rules.specs.Link.{Transfer, load, save, Report, need_more, character, reply, loaded, ended, refusal, failure, place, may_start}
use Rattle.serial_rules.specs.Session as session
use Rattle.serial_rules.specs.Session.{Input, Told, report, answer, tells, link_after, Part, byte, some_open, takes_data, open_after, fill, behind, spread, inside}
use Rattle.host_rules.specs.Actions.{Sent, failing, restarting, escape_state, event, address, control, ending, sent_raw, sent_ok, part_of}

-- What a host sends, one behind the other: a data byte of the reply, a byte of load data, an action with its block and its text. So nothing stands
-- "inside a doubled escape".
pub data Item : Type 0 where
  replying : ℕ → Item
  loading : ℕ → Item
  acting : Sent → List ℕ → List ℕ → Item

abbrev pub part_for : Item → Part
part_for (replying b) = byte b
part_for (loading b) = byte b
part_for (acting a b t) = part_of a b t

-- its raw bytes
abbrev pub item_raw : Item → List ℕ
item_raw (replying b) = escaped (b ∷ [])
item_raw (loading b) = escaped (b ∷ [])
item_raw (acting a b t) = sent_raw a b t

unfoldable pub raw_of : List Item → List ℕ
raw_of [] = []
raw_of (i ∷ is) = item_raw i ++ raw_of is

-- an action that the writer takes, where there is room
abbrev pub sendable : Item → Bool
sendable (replying b) = true
sendable (loading b) = true
sendable (acting a b t) = leb (length t) string_limit && sent_ok a b t

unfoldable pub all_sendable : List Item → Bool
all_sendable [] = true
all_sendable (i ∷ is) = sendable i && all_sendable is

-- "no end stands with none open", "at most four are open": where the transfers of o are open, innermost first
abbrev pub may_act : List Transfer → Sent → Bool
may_act o (failing n) = true
may_act o restarting = true
may_act o (escape_state on) = true
may_act o (event y x a) = true
may_act o (address t b3 b2 b1 b0) = may_start (place t) o
may_act o control = true
may_act o ending = some_open o

-- "Each load or save put there is closed .. before the next reply byte"; "data stands only where a load is innermost"
abbrev pub may_stand : List Transfer → Item → Bool
may_stand o (replying b) = not (some_open o)
may_stand o (loading b) = some_open o && takes_data o
may_stand o (acting a b t) = may_act o a

unfoldable pub stands : List Transfer → List Item → Bool
stands o [] = true
stands o (i ∷ is) = may_stand o i && stands (open_after o (part_for i)) is

-- "Actions may be put before any data byte of a reply": none behind the last
abbrev pub replies : Item → Bool
replies (replying b) = true
replies (loading b) = false
replies (acting a b t) = false

unfoldable pub closes : List Item → Bool
closes [] = false
closes (i ∷ []) = replies i
closes (i ∷ j ∷ is) = closes (j ∷ is)

-- the reply's bytes
unfoldable pub reply_in : List Item → List ℕ
reply_in [] = []
reply_in (replying b ∷ is) = b ∷ reply_in is
reply_in (loading b ∷ is) = reply_in is
reply_in (acting a b t ∷ is) = reply_in is

-- What a link tells of an action: an error or restart, "the same actions", an end with what it closed.
abbrev pub closing : List Transfer → Report
closing [] = refusal 5
closing (t ∷ o) = ended t

abbrev pub telling : List Transfer → Sent → List ℕ → List ℕ → Report
telling o (failing n) b t = failure n t
telling o restarting b t = link.restart
telling o (escape_state on) b t = link.escape_state on
telling o (event y x a) b t = link.event y x a
telling o (address g b3 b2 b1 b0) b t = link.address g b3 b2 b1 b0
telling o control b t = link.block b
telling o ending b t = closing o

-- the actions and load data of a stream, as they are to be told
unfoldable pub sent_in : List Transfer → List Item → List Report
sent_in o [] = []
sent_in o (replying b ∷ is) = sent_in o is
sent_in o (loading b ∷ is) = loaded b ∷ sent_in o is
sent_in o (acting a b t ∷ is) = telling o a b t ∷ sent_in (open_after o (part_of a b t)) is

-- an error or restart ends the call; the reply's bytes behind the first one
abbrev pub ends_call : Sent → Bool
ends_call (failing n) = true
ends_call restarting = true
ends_call (escape_state on) = false
ends_call (event y x a) = false
ends_call (address t b3 b2 b1 b0) = false
ends_call control = false
ends_call ending = false

unfoldable pub fails_in : List Item → Bool
fails_in [] = false
fails_in (replying b ∷ is) = fails_in is
fails_in (loading b ∷ is) = fails_in is
fails_in (acting a b t ∷ is) = ends_call a || fails_in is

unfoldable pub behind_error : List Item → List ℕ
behind_error [] = []
behind_error (replying b ∷ is) = behind_error is
behind_error (loading b ∷ is) = behind_error is
behind_error (acting a b t ∷ is) = cond (ends_call a) (reply_in is) (behind_error is)

-- What a link tells at the last byte of each item, where the call waits (w) and its whole reply is s: the reply at the end of the stream, and behind an
-- error or restart characters.
abbrev pub reply_told : Bool → List ℕ → ℕ → List Item → Report
reply_told false s b is = character b
reply_told true s b [] = reply s
reply_told true s b (i ∷ is) = need_more

unfoldable pub hears : Bool → List ℕ → List Transfer → List Item → List Told
hears w s o [] = []
hears w s o (replying b ∷ is) = report (reply_told w s b is) ∷ hears w s o is
hears w s o (loading b ∷ is) = report (loaded b) ∷ hears w s o is
hears w s o (acting a b t ∷ is) = report (telling o a b t) ∷ hears (not (ends_call a) && w) s (open_after o (part_of a b t)) is

-- The reports by what they are: 0 need-more; 1 an action or load data, an error or restart too; 2 a character, a reply, a refusal.
abbrev pub sort_of : Report → ℕ
sort_of need_more = 0
sort_of (character b) = 2
sort_of (reply s) = 2
sort_of (link.escape_state on) = 1
sort_of (link.event y x a) = 1
sort_of (link.address t b3 b2 b1 b0) = 1
sort_of (link.block h) = 1
sort_of (loaded b) = 1
sort_of (ended t) = 1
sort_of (link.error n t) = 1
sort_of link.restart = 1
sort_of (refusal n) = 2

-- those of a sort that a link told
unfoldable pub told_in : ℕ → List Told → List Report
told_in n [] = []
told_in n (report r ∷ l) = cond (eqb (sort_of r) n) (r ∷ told_in n l) (told_in n l)
told_in n (answer a ∷ l) = told_in n l

-- One action, whatever waits (f) and whatever transfers are open (o), and whatever follows: need-more until its last byte, which tells it; what waits and
-- the reply so far stay as they were, but for an error or restart, which ends the call.
abbrev pub link_behind : List Transfer → link.Frame → Sent → List ℕ → List ℕ → link.Link
link_behind o f a b t = link.live (inside (open_after o (part_of a b t))) (cond (ends_call a) link.idle_frame f)

pub record ActionHeard (o : List Transfer) (f : link.Frame) (a : Sent) (b t : List ℕ) (i : List Input) (told : List Told) (end : link.Link) : Type 0 where
  pub told_is : told
      ≡ fill (report need_more) (behind (map session.raw (sent_raw a b t))) ++ (report (telling o a b t) ∷ tells (link_behind o f a b t) i)
  pub left : end ≡ link_after (link_behind o f a b t) i

-- "A fresh stepwise reader with the call begun then gives the same actions and load data and, unless one was an error or restart, the same reply": what is
-- told of the items' raw bytes, the whole of it and by its sorts; no byte is refused, and the link is left as a fresh one.
pub record Heard (is : List Item) (told : List Told) (end : link.Link) : Type 0 where
  pub told_is : told ≡ spread (map part_for is) (hears true (reply_in is) [] is)
  pub given : told_in 1 told ≡ sent_in [] is
  pub replied : fails_in is ≡ false → told_in 2 told ≡ reply (reply_in is) ∷ []
  pub failed : fails_in is ≡ true → told_in 2 told ≡ map character (behind_error is)
  pub left : end ≡ link.fresh
