-- What the parts of the loop promise.
use Rattle.link.specs.declared.Wait.TheVariants.{Waiting}
use Rattle.std.specs.Prelude.{ℕ, ◌+◌, ◌-◌, ◌%◌, ◌≤◌, ◌<◌, Bool, true, false, not, ◌&&◌, ◌≡◌, List, [], ◌∷◌, ◌++◌, map, eqb, length, take, replicate, Option, Some, None}
use Rattle.serial_rules.specs.Link as rules
use Rattle.actions.specs.declared.Action.{Action}
use Rattle.link.specs.declared.Link.{Link}
use Rattle.answers.specs.declared.Answer.{Answer}
use Rattle.kind.specs.declared.CallKind.{CallKind}
use Rattle.link.specs.View.{fresh}
use Rattle.notes.specs.declared.Log.{Log}
use Rattle.notes.specs.Notes.{Given, adds_all}
use Rattle.notes.specs.Logs.{Holds}
use Rattle.link_loop.specs.declared.Ran.{Ran}
use Rattle.link_loop.specs.declared.Taken.{Taken}
use Rattle.link_loop.specs.Run.{Runs}

-- what the loop leaves
abbrev pub ended_from : Link → Answer → ℕ → Log → Ran
ended_from l a used log = record { answer = a; used = used; noted = log.noted; stored = log.stored; link = l }

-- the link with so many bytes of its reply
abbrev pub got_from : Link → ℕ → Link
got_from l n = record l { got = n }

-- no action or transfer is open and no escape seen
abbrev pub quietly : Option Action → Bool
quietly None = true
quietly (Some a) = false

abbrev pub in_reply : Link → Bool
in_reply l = not l.stopped && (not l.escape && (eqb l.nested 0 && (eqb l.held 0 && quietly l.doing)))

abbrev pub mid_reply : CallKind → ℕ → Link
mid_reply k n = record { wait = Waiting k; got = n; escape = false; doing = None; held = 0; nested = 0; stopped = false }

abbrev pub taken_as : ℕ → ℕ → Bool → Taken
taken_as used got whole = record { used = used; got = got; whole = whole }

-- a whole reply: each raw byte before the last one needs more, and the link is left as fresh
pub record WholeTaken (link : Link) (reply raw : List ℕ) (used got : ℕ) (left : List ℕ) : Type 0 where
  pub before : ℕ
  pub filled : got ≤ length left
  pub steps : (own : List ℕ) → Runs link reply own (take used raw) (replicate before rules.need_more ++ (rules.reply (take got left) ∷ [])) fresh left own

-- Bytes of a reply that were taken at once: the steps that they stand for.
pub record TakeDone (link : Link) (reply raw : List ℕ) (r : Taken) (left : List ℕ) : Type 0 where
  pub within : r.used ≤ length raw
  pub small : r.got < 65536
  pub part : r.whole ≡ false → (own : List ℕ) → Runs link reply own (take r.used raw) (replicate r.used rules.need_more) (got_from link r.got) left own
  pub all : r.whole ≡ true → WholeTaken link reply raw r.used r.got left

-- a load is innermost, with no action open and no escape seen
abbrev pub in_load : Link → Bool
in_load l = not (eqb (l.nested % 2) 0) && (not l.escape && quietly l.doing)

-- Load bytes that join the last note, stored at once: w of them, each of which is a step that leaves the link as it is.
pub record LoadPassDone (link : Link) (log : Log) (raw room content : List ℕ) (r : Log) (room-left content-left : List ℕ) : Type 0 where
  pub grows : log.run ≤ r.run
  pub within : r.run ≤ log.run + length raw
  pub steps : (reply own : List ℕ) → Runs link reply own (take (r.run - log.run) raw) (map rules.loaded (take (r.run - log.run) raw)) link reply own
  pub adds_them : (g : Given) (room₀ content₀ : List ℕ) → Holds g log room₀ content₀ room content
      → Holds (adds_all g (map rules.loaded (take (r.run - log.run) raw))) r room₀ content₀ room-left content-left
