-- A recorded reply (document 02, R-1: "besides the stepwise reader we want one for a whole recorded reply"): the raw bytes that came behind one call,
-- "from a fresh link with the call begun", up to "where the call ends, a byte is refused or the recording runs out".
use Rattle.std.specs.Prelude.{ℕ, suc, Bool, true, false, cond, List, [], ◌∷◌, ◌++◌}
use Rattle.serial_rules.specs.Reply.{Kind}
use Rattle.serial_rules.specs.Link.{Report, need_more, character, reply, escape_state, event, address, block, loaded, ended, error, restart, refusal, Link, fresh, step, Begun, begun, complete, denied, begin}

-- the reports that a reader of many bytes passes over; a finished reply, an error or restart and a refusal end it
unfoldable pub passes : Report → Bool
passes need_more = true
passes (character b) = true
passes (reply s) = false
passes (escape_state on) = true
passes (event y x a) = true
passes (address t b3 b2 b1 b0) = true
passes (block h) = true
passes (loaded b) = true
passes (ended t) = true
passes (error n t) = false
passes restart = false
passes (refusal n) = false

-- what a report has to tell: need-more nothing
abbrev pub news : Report → List Report
news need_more = []
news (character b) = character b ∷ []
news (reply s) = reply s ∷ []
news (escape_state on) = escape_state on ∷ []
news (event y x a) = event y x a ∷ []
news (address t b3 b2 b1 b0) = address t b3 b2 b1 b0 ∷ []
news (block h) = block h ∷ []
news (loaded b) = loaded b ∷ []
news (ended t) = ended t ∷ []
news (error n t) = error n t ∷ []
news restart = restart ∷ []
news (refusal n) = refusal n ∷ []

-- How it ended: the recording ran out; or a report that is not passed over.
pub data Outcome : Type 0 where
  ran_out : Outcome
  closed : Report → Outcome

-- What was passed over and had something to tell, how many raw bytes were used, and how it ended.
pub record Recorded : Type 0 where
  pub reports : List Report
  pub used : ℕ
  pub outcome : Outcome

abbrev pub recording : List Report → ℕ → Outcome → Recorded
recording g n u = record { reports = g; used = n; outcome = u }

abbrev pub give : List Report → Recorded → Recorded
give g r = recording (g ++ r.reports) r.used r.outcome

-- a report of the n-th raw byte, and what the bytes behind it give
abbrev pub reported : Report → ℕ → Recorded → Recorded
reported r n k = cond (passes r) (give (news r) k) (recording [] n (closed r))

-- the raw bytes behind the first n of them
unfoldable pub recorded : ℕ → Link → List ℕ → Recorded
recorded n l [] = recording [] n ran_out
recorded n l (x ∷ s) = reported (step l x).report (suc n) (recorded (suc n) (step l x).next s)

-- the whole, of a call of a kind; one without a reply byte is complete before the first
abbrev pub recorded_from : Begun → Link → List ℕ → Recorded
recorded_from begun l s = recorded 0 l s
recorded_from complete l s = recording [] 0 (closed (reply []))
recorded_from (denied n) l s = recording [] 0 (closed (refusal n))

unfoldable pub recorded_reply : Kind → List ℕ → Recorded
recorded_reply k s = recorded_from (begin fresh k).answer (begin fresh k).next s
