-- Both readers of a reply: the loop over raw bytes, from a fresh link with the call begun, and the reader of a whole recorded reply stop at the same byte, with
-- the same actions, load data and outcome.
use Rattle.std.specs.Prelude.{Ok}
use Prim.Native.Nat.{ℕ, suc, ◌+◌, ◌*◌, ◌≤◌}
use native.Mathlib.Nat.{add-zero}
use native.Mathlib.Omega.{arith}
use mathlib.Core.Path.{◌≡◌, refl, sym, ap, subst, ◌∙◌}
use mathlib.Core.Bool.{Bool, true, false, cond}
use mathlib.Core.List.{List, [], ◌∷◌, ◌++◌, append_assoc, append-nil}
use lib.Dec.{eqb}
use lib.ListN.{length, take, drop, length-append, take-append-drop}
use lib.Seq.{length-take-le, take_all}
use borrow.Author.Tests.{le-leb}
use Rattle.escape.specs.Put.{over}
use Rattle.serial_rules.specs.Reply.{shape_of, longest}
use Rattle.serial_rules.specs.Link as rules
use Rattle.serial_rules.specs.Session.{between}
use Rattle.serial_rules.specs.Record as recordings
use Rattle.serial_rules.specs.Record.{passes, news, Outcome, ran_out, closed, recording, give, recorded, recorded_reply}
use Rattle.kind.specs.Kinds.{kind_for}
use Rattle.kind.specs.declared.CallKind.{CallKind}
use Rattle.link.specs.declared.Link.{Link}
use Rattle.answers.specs.declared.Answer.{Answer}
use Rattle.answers.specs.declared.Answer.TheVariants as variant
use Rattle.link.specs.declared.Begun.TheVariants.{Waits, Complete}
use Rattle.link.specs.declared.Started.{Started}
use Rattle.link.specs.View.{view_of, fresh, begun_of, BeginDone}
use Rattle.answers.specs.Reports.{report_of}
use Rattle.notes.specs.Notes.{Given, nothing, adds, adds_all, notes_in, notes_of, data_of}
use Rattle.notes.proofs.Counts.{content_more, notes_most}
use Rattle.link_loop.specs.declared.Ran.{Ran}
use Rattle.link_loop.specs.Run.{Runs, stop, took, Passed, none, next, last_of, lacks_room, RanDone, RunDone}
use Rattle.link_loop.proofs.Notes.{last_is}
use Rattle.link_loop.proofs.Data.{held_in, step_data}
use Rattle.recorded.specs.declared.Recorded.{Recorded}
use Rattle.recorded.specs.Promise.{answer_of, bytes_in, bytes_of, has_room, ReadDone}
use Rattle.replies.proofs.Trips.{fresh_view}

-- what reports have to tell, without need-more
abbrev news_all : List rules.Report → List rules.Report
news_all [] = []
news_all (r ∷ l) = news r ++ news_all l

-- need-more is not noted
adds_news : (g : Given) (r : rules.Report) (l : List rules.Report) → adds_all g (news r ++ l) ≡ adds_all (adds g r) l
unfolding adds_all adds
adds_news g rules.need_more l = refl
adds_news g (rules.character b) l = refl
adds_news g (rules.reply s) l = refl
adds_news g (rules.escape_state on) l = refl
adds_news g (rules.event y x a) l = refl
adds_news g (rules.address t b3 b2 b1 b0) l = refl
adds_news g (rules.block h) l = refl
adds_news g (rules.loaded b) l = refl
adds_news g (rules.ended t) l = refl
adds_news g (rules.error n t) l = refl
adds_news g rules.restart l = refl
adds_news g (rules.refusal n) l = refl

adds_all_news : (g : Given) (l : List rules.Report) → adds_all g (news_all l) ≡ adds_all g l
unfolding adds_all
adds_all_news g [] = refl
adds_all_news g (r ∷ l) = adds_news g r (news_all l) ∙ adds_all_news (adds g r) l

-- one raw byte that is passed over, and one that is not
module _ (n : ℕ) (v : rules.Link) (x : ℕ) (s : List ℕ) {r : rules.Report} (is : (rules.step v x).report ≡ r) where
  one_passed : passes r ≡ true → recorded n v (x ∷ s) ≡ give (news r) (recorded (suc n) (rules.step v x).next s)
  unfolding recorded
  one_passed e = rw (is, e) refl

  one_closed : passes r ≡ false → recorded n v (x ∷ s) ≡ recording [] (suc n) (closed r)
  unfolding recorded
  one_closed e = rw (is, e) refl

give_give : (g h : List rules.Report) (k : recordings.Recorded) → give g (give h k) ≡ give (g ++ h) k
give_give g h k = ap (λ (l : List rules.Report). recording l k.used k.outcome) (sym (append_assoc g h k.reports))

-- a chain of steps that are passed over, and one that another ends
passed_chain : {l q : Link} {reply own reply-end own-end xs : List ℕ} {reports : List rules.Report} (n : ℕ) (s : List ℕ) → Runs l reply own xs reports q reply-end own-end → Passed reports
    → recorded n (view_of l reply own) (xs ++ s) ≡ give (news_all reports) (recorded (n + length xs) (view_of q reply-end own-end) s)
passed_chain n s stop none = rw (add-zero n) refl
passed_chain {q = q} {reply-end = reply-end} {own-end} n s (took {l} {reply = reply} {own} {reply-left} {own-left} {x = x} {raw} {o} {reports} d t) (next e p) =
    let r = report_of o.answer reply-left own-left in
    let v = view_of l reply own in
    let m : n + suc (length raw) ≡ suc n + length raw = omega arith in
    rw m
    (one_passed n v x (raw ++ s) (sym d.answer) e
    ∙ ap (λ (w : rules.Link). give (news r) (recorded (suc n) w (raw ++ s))) (sym d.next)
    ∙ ap (give (news r)) (passed_chain (suc n) s t p)
    ∙ give_give (news r) (news_all reports) (recorded (suc n + length raw) (view_of q reply-end own-end) s))

closed_chain : {l q : Link} {reply own reply-end own-end xs : List ℕ} (reports : List rules.Report) {r : rules.Report} (n : ℕ) (s : List ℕ)
    → Runs l reply own xs (reports ++ (r ∷ [])) q reply-end own-end → Passed reports → passes r ≡ false
    → recorded n (view_of l reply own) (xs ++ s) ≡ recording (news_all reports) (n + length xs) (closed r)
closed_chain [] n s (took {l} {reply = reply} {own} {x = x} d stop) none e =
    let m : n + 1 ≡ suc n = omega arith in
    rw m (one_closed n (view_of l reply own) x s (sym d.answer) e)
closed_chain (a ∷ reports) n s (took {l} {reply = reply} {own} {x = x} {raw} d t) (next p ps) e =
    let m : n + suc (length raw) ≡ suc n + length raw = omega arith in
    rw m
    (one_passed n (view_of l reply own) x (raw ++ s) (sym d.answer) p
    ∙ ap (λ (w : rules.Link). give (news a) (recorded (suc n) w (raw ++ s))) (sym d.next)
    ∙ ap (give (news a)) (closed_chain reports (suc n) s t ps e))

-- an answer is need-more, or not
either : {X : Type 0} (a : Answer) → (a ≡ variant.More → X) → ((a ≡ variant.More → ⊥) → X) → X
either variant.More is other = is refl
either (variant.Character b) is other = other (λ e. cc)
either (variant.Reply n) is other = other (λ e. cc)
either (variant.EscapeState on) is other = other (λ e. cc)
either (variant.Event y x a) is other = other (λ e. cc)
either (variant.Address t b3 b2 b1 b0) is other = other (λ e. cc)
either (variant.Block n) is other = other (λ e. cc)
either (variant.Loaded b) is other = other (λ e. cc)
either (variant.Ended s) is other = other (λ e. cc)
either (variant.Error n k) is other = other (λ e. cc)
either variant.Restart is other = other (λ e. cc)
either (variant.Refused n) is other = other (λ e. cc)

-- What the loop did is the recorded run over the same bytes.
record AsRecorded (v : rules.Link) (raw : List ℕ) (reports : List rules.Report) (r : Ran) (reply-left own-left : List ℕ) : Type 0 where
  outcome : Outcome
  is : recorded 0 v raw ≡ recording (news_all reports) r.used outcome
  answer : r.answer ≡ answer_of outcome
  bytes : bytes_of outcome ≡ bytes_in (report_of r.answer reply-left own-left)

module _ {l : Link} {reply own raw room content : List ℕ} {r : Ran} {reply-left own-left room-left content-left : List ℕ}
    (d : RanDone l reply own raw room content r reply-left own-left room-left content-left) where
  ran_out_read : r.answer ≡ variant.More → AsRecorded (view_of l reply own) raw d.reports r reply-left own-left
  unfolding recorded
  ran_out_read e =
      let all : take r.used raw ≡ raw = take_all r.used raw (omega (arith, d.ended e)) in
      let w : Runs l reply own raw d.reports r.link reply-left own-left =
      subst (λ (s : List ℕ). Runs l reply own s d.reports r.link reply-left own-left) all
      (subst (λ (g : List rules.Report). Runs l reply own (take r.used raw) g r.link reply-left own-left) (append-nil d.reports)
      (subst (λ (a : Answer). Runs l reply own (take r.used raw) (d.reports ++ last_of a reply-left own-left) r.link reply-left own-left) e d.steps)) in
      let n : 0 + length raw ≡ r.used = omega (arith, d.ended e) in
      record {
        outcome = ran_out;
        is =
            ap (recorded 0 (view_of l reply own)) (sym (append-nil raw))
            ∙ passed_chain 0 [] w d.passed
            ∙ rw (n, append-nil (news_all d.reports)) refl;
        answer = e;
        bytes = rw e refl;
      }

  came_to_end : (r.answer ≡ variant.More → ⊥) → AsRecorded (view_of l reply own) raw d.reports r reply-left own-left
  came_to_end other =
      let last = report_of r.answer reply-left own-left in
      let w : Runs l reply own (take r.used raw) (d.reports ++ (last ∷ [])) r.link reply-left own-left =
      subst (λ (g : List rules.Report). Runs l reply own (take r.used raw) (d.reports ++ g) r.link reply-left own-left) (last_is r.answer reply-left own-left other) d.steps in
      let n : 0 + length (take r.used raw) ≡ r.used = omega (arith, length-take-le r.used raw d.within) in
      record {
        outcome = closed last;
        is =
            ap (recorded 0 (view_of l reply own)) (sym (take-append-drop r.used raw))
            ∙ closed_chain d.reports 0 (drop r.used raw) w d.passed (d.stopped other)
            ∙ ap (λ (m : ℕ). recording (news_all d.reports) m (closed last)) n;
        answer = d.sized;
        bytes = refl;
      }

  as_recorded : AsRecorded (view_of l reply own) raw d.reports r reply-left own-left
  as_recorded = either r.answer ran_out_read came_to_end

-- The call waits: what is read of a recording is the recorded run from the link with the call begun.
module _ {kind : CallKind} {started : Started} (b : BeginDone fresh kind started) where
  begun_is : (reply own : List ℕ) → begun_of started.answer ≡ (rules.begin rules.fresh (kind_for kind)).answer
  begun_is reply own = b.answer reply own ∙ ap (λ (v : rules.Link). (rules.begin v (kind_for kind)).answer) (fresh_view reply own)

  waiting_run : (reply own raw : List ℕ) → started.answer ≡ Ok Waits → recorded_reply (kind_for kind) raw ≡ recorded 0 (view_of started.link reply own) raw
  unfolding recorded_reply
  waiting_run reply own raw e =
      let a : (rules.begin rules.fresh (kind_for kind)).answer ≡ rules.begun = sym (begun_is reply own) ∙ ap begun_of e in
      let n : view_of started.link reply own ≡ (rules.begin rules.fresh (kind_for kind)).next = b.next reply own ∙ ap (λ (v : rules.Link). (rules.begin v (kind_for kind)).next) (fresh_view reply own) in
      rw (a, n) refl

  complete_run : (raw : List ℕ) → started.answer ≡ Ok Complete → recorded_reply (kind_for kind) raw ≡ recording [] 0 (closed (rules.reply []))
  unfolding recorded_reply
  complete_run raw e =
      let a : (rules.begin rules.fresh (kind_for kind)).answer ≡ rules.complete = sym (begun_is [] []) ∙ ap begun_of e in
      rw a refl

-- R-1: "both stop at the same byte, where the call ends, a byte is refused or the recording runs out, with the same actions, load data and outcome". The notes
-- and the data that they write are the same bytes, and so are the reply's or the error's.
pub record SameRead (ran : Ran) (read : Recorded) (reply-left own-left room room-left content content-left notes notes-left area area-left out out-left : List ℕ) : Type 0 where
  pub used : read.used ≡ ran.used
  pub answer : read.answer ≡ ran.answer
  pub noted : read.noted ≡ ran.noted
  pub stored : read.stored ≡ ran.stored
  pub both_notes : List ℕ
  pub room_is : room-left ≡ over both_notes room
  pub notes_is : notes-left ≡ over both_notes notes
  pub both_data : List ℕ
  pub content_is : content-left ≡ over both_data content
  pub area_is : area-left ≡ over both_data area
  pub out_is : out-left ≡ over (bytes_in (report_of ran.answer reply-left own-left)) out

pub both_readers : {kind : CallKind} {started : Started} {ran : Ran} {read : Recorded}
    {reply own raw room content reply-left own-left room-left content-left notes area out notes-left area-left out-left : List ℕ}
    → BeginDone fresh kind started → started.answer ≡ Ok Waits
    → RunDone started.link reply own raw room content ran reply-left own-left room-left content-left
    → lacks_room started.link.held (length raw) (length room) (length content) ≡ false
    → ReadDone kind raw notes area out read notes-left area-left out-left
    → has_room (recorded_reply (kind_for kind) raw) (length notes) (length area) ≡ true
    → SameRead ran read reply-left own-left room room-left content content-left notes notes-left area area-left out out-left
both_readers {kind} {started} {ran} {read} {reply} {own} {raw} {notes = notes} {area} {out} b w d fits e room' =
    let r = d.ran fits in
    let a = as_recorded r in
    let q : recorded_reply (kind_for kind) raw ≡ recording (news_all r.reports) ran.used a.outcome = waiting_run b reply own raw w ∙ a.is in
    let k = e.enough room' in
    let g = ap (λ (s : recordings.Recorded). s.reports) q in
    let n : notes_of (recorded_reply (kind_for kind) raw).reports ≡ notes_of r.reports = ap notes_of g ∙ ap notes_in (adds_all_news nothing r.reports) in
    let c : data_of (recorded_reply (kind_for kind) raw).reports ≡ data_of r.reports = ap data_of g ∙ ap (λ (x : Given). x.content) (adds_all_news nothing r.reports) in
    let u = ap (λ (s : recordings.Recorded). s.outcome) q in
    record {
      used = k.used ∙ ap (λ (s : recordings.Recorded). s.used) q;
      answer = k.answer ∙ ap answer_of u ∙ sym a.answer;
      noted = omega (arith, e.notes_count, r.noted, ap length n);
      stored = e.content_count ∙ ap length c ∙ sym r.stored;
      both_notes = notes_of r.reports;
      room_is = r.bytes;
      notes_is = k.noted ∙ ap (λ (x : List ℕ). over x notes) n;
      both_data = data_of r.reports;
      content_is = r.contents;
      area_is = k.stored ∙ ap (λ (x : List ℕ). over x area) c;
      out_is = k.bytes ∙ ap (λ (x : List ℕ). over x out) (ap bytes_of u ∙ a.bytes);
    }

-- A call that is complete when begun has ended before the first byte: no byte used, nothing given, the reply of no byte.
pub record NothingRead (read : Recorded) (notes area out notes-left area-left out-left : List ℕ) : Type 0 where
  pub answer : read.answer ≡ variant.Reply 0
  pub used : read.used ≡ 0
  pub noted : read.noted ≡ 0
  pub stored : read.stored ≡ 0
  pub same : (notes-left ≡ notes) × (area-left ≡ area) × (out-left ≡ out)

pub complete_read : {kind : CallKind} {started : Started} {read : Recorded} {raw notes area out notes-left area-left out-left : List ℕ} → BeginDone fresh kind started
    → started.answer ≡ Ok Complete → ReadDone kind raw notes area out read notes-left area-left out-left → NothingRead read notes area out notes-left area-left out-left
unfolding has_room adds_all
complete_read {kind} {raw = raw} {notes} {area} {out} b w e =
    let q = complete_run b raw w in
    let k = e.enough (rw (q, le-leb 0 (length notes) (omega arith), le-leb 0 (length area) (omega arith)) refl) in
    record {
      answer = k.answer ∙ ap (λ (s : recordings.Recorded). answer_of s.outcome) q;
      used = k.used ∙ ap (λ (s : recordings.Recorded). s.used) q;
      noted = omega (arith, e.notes_count, ap (λ (s : recordings.Recorded). length (notes_of s.reports)) q);
      stored = e.content_count ∙ ap (λ (s : recordings.Recorded). length (data_of s.reports)) q;
      same = (
        k.noted ∙ ap (λ (s : recordings.Recorded). over (notes_of s.reports) notes) q,
        k.stored ∙ ap (λ (s : recordings.Recorded). over (data_of s.reports) area) q,
        k.bytes ∙ ap (λ (s : recordings.Recorded). over (bytes_of s.outcome) out) q,
      );
    }

-- Five bytes of notes and one of data for each byte used always suffice.
few_news : (r : rules.Report) → length (news r) ≤ 1
few_news rules.need_more = omega arith
few_news (rules.character b) = omega arith
few_news (rules.reply s) = omega arith
few_news (rules.escape_state on) = omega arith
few_news (rules.event y x a) = omega arith
few_news (rules.address t b3 b2 b1 b0) = omega arith
few_news (rules.block h) = omega arith
few_news (rules.loaded b) = omega arith
few_news (rules.ended t) = omega arith
few_news (rules.error n t) = omega arith
few_news rules.restart = omega arith
few_news (rules.refusal n) = omega arith

record Few (n : ℕ) (v : rules.Link) (s : List ℕ) (q : recordings.Recorded) : Type 0 where
  reports : n + length q.reports ≤ q.used
  within : q.used ≤ n + length s
  data_of_each : (g : Given) → n + length (adds_all g q.reports).content ≤ length g.content + held_in v + q.used

few : (n : ℕ) (v : rules.Link) (s : List ℕ) → Few n v s (recorded n v s)
unfolding recorded adds_all
few n v [] = record { reports = omega arith; within = omega arith; data_of_each = λ g. omega arith }
few n v (x ∷ s) = go (few (suc n) (rules.step v x).next s) (passes (rules.step v x).report) refl
  where
    go : Few (suc n) (rules.step v x).next s (recorded (suc n) (rules.step v x).next s) → (t : Bool) → passes (rules.step v x).report ≡ t
        → Few n v (x ∷ s) (cond t (give (news (rules.step v x).report) (recorded (suc n) (rules.step v x).next s)) (recording [] (suc n) (closed (rules.step v x).report)))
    go f false e = record { reports = omega arith; within = omega arith; data_of_each = λ g. omega arith }
    go f true e =
        let q = recorded (suc n) (rules.step v x).next s in
        let l = length-append (news (rules.step v x).report) q.reports in
        record {
          reports = omega (arith, f.reports, l, few_news (rules.step v x).report);
          within = omega (arith, f.within);
          data_of_each = λ g.
              let h = adds_news g (rules.step v x).report q.reports in
              omega (arith, ap (λ (k : Given). length k.content) h, f.data_of_each (adds g (rules.step v x).report), content_more g (rules.step v x).report, step_data v x);
        }

-- whatever the call and the recording
pub record Suffices (q : recordings.Recorded) (raw : List ℕ) : Type 0 where
  pub within : q.used ≤ length raw
  pub notes : length (notes_of q.reports) ≤ 5 * q.used
  pub data_bytes : length (data_of q.reports) ≤ q.used

-- the link that waits for a call of a kind, none of whose bytes came
abbrev begun : CallKind → rules.Link
begun kind = rules.live between (rules.frame (rules.waiting (kind_for kind)) [])

pub always_suffices : (kind : CallKind) (raw : List ℕ) → Suffices (recorded_reply (kind_for kind) raw) raw
unfolding recorded_reply rules.begin rules.enters adds_all
always_suffices kind raw = go (eqb (longest (shape_of (kind_for kind))) 0) refl
  where
    go : (t : Bool) → eqb (longest (shape_of (kind_for kind))) 0 ≡ t → Suffices (recorded_reply (kind_for kind) raw) raw
    go true e =
        let q : recorded_reply (kind_for kind) raw ≡ recording [] 0 (closed (rules.reply [])) = rw e refl in
        subst (λ (x : recordings.Recorded). Suffices x raw) (sym q) (record { within = omega arith; notes = omega arith; data_bytes = omega arith })
    go false e =
        let q : recorded_reply (kind_for kind) raw ≡ recorded 0 (begun kind) raw = rw e refl in
        let f = few 0 (begun kind) raw in
        subst (λ (x : recordings.Recorded). Suffices x raw) (sym q) (record {
          within = omega (arith, f.within);
          notes = omega (arith, f.reports, notes_most nothing (recorded 0 (begun kind) raw).reports);
          data_bytes = omega (arith, f.data_of_each nothing);
        })
