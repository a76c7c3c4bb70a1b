-- The loop: what it has passed over so far, one step more, and what it promises where it ends.
use Prim.Native.Nat.{ℕ, ◌+◌, ◌-◌, ◌*◌, ◌/◌, ◌≤◌, ◌<◌}
use mathlib.Core.Path.{◌≡◌, refl, sym, ap, subst, ◌∙◌}
use mathlib.Core.Bool.{Bool, true, false, not, ◌||◌}
use mathlib.Core.List.{List, [], ◌∷◌, ◌++◌, map, append-nil, append_assoc}
use native.Mathlib.Omega.{arith}
use native.Mathlib.Numerals.{add-one}
use lib.Dec.{ltb}
use lib.ListN.{length, get_or, take, drop, replicate, length-take, length-drop}
use lib.Seq.{length-take-le, take-suc, take-add}
use borrow.Author.Tests.{not-true, not-false, ltb-true, ltb-false, lt-ltb, le-ltb, le-leb}
use Rattle.escape.specs.Put.{over}
use Rattle.serial_rules.specs.Link as rules
use Rattle.serial_rules.specs.Record.{passes}
use Rattle.refusal.specs.declared.Refusal.TheVariants.{NoRoom}
use Rattle.refusal.specs.Refusals.{number}
use Rattle.link.specs.declared.Link.{Link}
use Rattle.answers.specs.declared.Answer.{Answer}
use Rattle.answers.specs.declared.Answer.TheVariants as variant
use Rattle.link.specs.declared.Stepped.{Stepped}
use Rattle.link.specs.View as link-view
use Rattle.link.specs.View.{own_lent, view_of, StepDone}
use Rattle.answers.specs.Reports.{report_of, answer_for}
use Rattle.notes.specs.declared.Log.{Log}
use Rattle.notes.specs.Notes.{Given, nothing, adds_all, notes_of, data_of}
use Rattle.notes.specs.Logs.{fresh, Holds, data_in, most_count, countable, AddDone}
use Rattle.notes.proofs.Laws.{holds_nothing, logs_hold}
use Rattle.notes.proofs.Counts.{content_in, data_counted, adds_append, adds_snoc, adds_quiet, notes_most}
use Rattle.link_loop.specs.declared.Ran.{Ran}
use Rattle.link_loop.specs.declared.Taken.{Taken}
use Rattle.link_loop.specs.Run.{Runs, stop, Passed, none, last_of, lacks_room, RanDone, RunDone}
use Rattle.link_loop.specs.Parts.{ended_from, got_from, TakeDone, LoadPassDone}
use Rattle.answers.specs.Reports.{ends_of}
use Rattle.link_loop.proofs.Chains.{runs_more, runs_join, passed_more, passed_waits, passed_loads, tail_all}
use Rattle.link_loop.proofs.Data.{step_data, view_held, data_short, runs_data, runs_length}

-- whether a report is passed over does not ask for the lent bytes
pub ends_lent : (a : Answer) (reply own : List ℕ) → not (passes (report_of a reply own)) ≡ ends_of a
unfolding passes
ends_lent variant.More reply own = refl
ends_lent (variant.Character b) reply own = refl
ends_lent (variant.Reply n) reply own = refl
ends_lent (variant.EscapeState on) reply own = refl
ends_lent (variant.Event y x a) reply own = refl
ends_lent (variant.Address t b3 b2 b1 b0) reply own = refl
ends_lent (variant.Block n) reply own = refl
ends_lent (variant.Loaded b) reply own = refl
ends_lent (variant.Ended save) reply own = refl
ends_lent (variant.Error n k) reply own = refl
ends_lent variant.Restart reply own = refl
ends_lent (variant.Refused n) reply own = refl

-- a finished reply ends the loop
pub ends_reply : (n : ℕ) → ends_of (variant.Reply n) ≡ true
unfolding passes
ends_reply n = refl

-- need-more ends no loop, and every other answer is its own last report
more_goes : (a : Answer) → ends_of a ≡ true → a ≡ variant.More → ⊥
unfolding passes
more_goes a h e = let f = sym h ∙ ap ends_of e in cc

pub last_is : (a : Answer) (reply own : List ℕ) → (a ≡ variant.More → ⊥) → last_of a reply own ≡ report_of a reply own ∷ []
last_is variant.More reply own h = absurd (h refl)
last_is (variant.Character b) reply own h = refl
last_is (variant.Reply n) reply own h = refl
last_is (variant.EscapeState on) reply own h = refl
last_is (variant.Event y x a) reply own h = refl
last_is (variant.Address t b3 b2 b1 b0) reply own h = refl
last_is (variant.Block n) reply own h = refl
last_is (variant.Loaded b) reply own h = refl
last_is (variant.Ended save) reply own h = refl
last_is (variant.Error n k) reply own h = refl
last_is variant.Restart reply own h = refl
last_is (variant.Refused n) reply own h = refl

-- over the raw bytes so far the loop passed over `reports`, whose notes and data stand in the lent bytes
pub record Passing (link : Link) (reply own raw room content : List ℕ) (now : Link) (reply-now own-now room-now content-now : List ℕ) (log : Log) : Type 0 where
  pub reports : List rules.Report
  pub passed : Passed reports
  pub steps : Runs link reply own raw reports now reply-now own-now
  pub held : Holds (adds_all nothing reports) log room content room-now content-now

-- how much was noted: at most a note for each raw byte
module _ {l q : Link} {reply own raw room content reply-now own-now room-now content-now : List ℕ} {log : Log}
    (p : Passing l reply own raw room content q reply-now own-now room-now content-now log) where
  pub few_notes : log.noted ≤ length raw
  few_notes = omega (arith, p.held.count, notes_most nothing p.reports, runs_length p.steps)

  pub room_length : length room-now ≡ length room
  room_length = p.held.laid.size

  pub content_length : length content-now ≡ length content
  content_length = p.held.laid_content.size

-- Raw bytes taken at once, of a reply or of a load: a chain of steps, and what is noted of them.
module _ {l q : Link} {reply own room content reply-now own-now room-now content-now : List ℕ} {log : Log} (raw : List ℕ) (j : ℕ)
    (p : Passing l reply own (take j raw) room content q reply-now own-now room-now content-now log) where
  pub taken_part : {r : Taken} {next : Link} {left : List ℕ} → TakeDone q reply-now (take (length raw - j) (drop j raw)) r left → r.whole ≡ false → next ≡ got_from q r.got
      → Passing l reply own (take (j + r.used) raw) room content next left own-now room-now content-now log
  taken_part {r} {next} {left} d off is =
      let e = subst (λ (s : List ℕ). TakeDone q reply-now s r left) (tail_all raw j) d in
      record {
        reports = p.reports ++ replicate r.used rules.need_more;
        passed = passed_waits p.passed r.used;
        steps = rw (take-add j r.used raw, is) (runs_join p.steps (e.part off own-now));
        held = rw (adds_quiet nothing p.reports r.used) p.held;
      }

  pub loads_over : {more : Log} {room-left content-left : List ℕ} → LoadPassDone q log (take (length raw - j) (drop j raw)) room-now content-now more room-left content-left
      → Passing l reply own (take (j + (more.run - log.run)) raw) room content q reply-now own-now room-left content-left more
  loads_over {more} {room-left} {content-left} d =
      let n = more.run - log.run in
      let e = subst (λ (s : List ℕ). LoadPassDone q log s room-now content-now more room-left content-left) (tail_all raw j) d in
      let w = map rules.loaded (take n (drop j raw)) in
      record {
        reports = p.reports ++ w;
        passed = passed_loads p.passed (take n (drop j raw));
        steps = rw (take-add j n raw) (runs_join p.steps (e.steps reply-now own-now));
        held = rw (adds_append nothing p.reports w) (e.adds_them (adds_all nothing p.reports) room content p.held);
      }

pub taken_within : {q : Link} {reply left : List ℕ} {r : Taken} (raw : List ℕ) (j : ℕ) → j ≤ length raw → TakeDone q reply (take (length raw - j) (drop j raw)) r left
    → j + r.used ≤ length raw
taken_within raw j h d = let w = simp (length-take, length-drop) at d.within in omega arith

pub loads_within : {q : Link} {log more : Log} {room content room-left content-left : List ℕ} (raw : List ℕ) (j : ℕ) → j ≤ length raw
    → LoadPassDone q log (take (length raw - j) (drop j raw)) room content more room-left content-left → j + (more.run - log.run) ≤ length raw
loads_within raw j h d = let w = simp (length-take, length-drop) at d.within in omega (arith, d.grows)

pub begins : (l : Link) (reply own room content : List ℕ) → Passing l reply own [] room content l reply own room content fresh
unfolding adds_all
begins l reply own room content = record { reports = []; passed = none; steps = stop; held = holds_nothing }

-- What `run` promises: of too little room, and of what the loop did with enough.
pub no_room : {l : Link} {reply own raw room content : List ℕ} {r : Ran} → lacks_room l.held (length raw) (length room) (length content) ≡ true
    → r ≡ ended_from l (variant.Refused (number NoRoom)) 0 fresh → RunDone l reply own raw room content r reply own room content
no_room h q = record { short = λ _. (q, refl, refl, refl, refl); ran = λ k. cc }

-- the test of the content, without a sum
sub_less : (content held bytes : ℕ) → held ≤ content → ltb (content - held) bytes ≡ ltb content (bytes + held)
sub_less content held bytes h = go (ltb (content - held) bytes) refl
  where
    go : (t : Bool) → ltb (content - held) bytes ≡ t → t ≡ ltb content (bytes + held)
    go true e = sym (lt-ltb content (bytes + held) (omega (arith, ltb-true (content - held) bytes e)))
    go false e = sym (le-ltb content (bytes + held) (omega (arith, ltb-false (content - held) bytes e)))

pub lacks_tests : (held bytes room content : ℕ) → lacks_room held bytes room content ≡ (ltb (room / 5) bytes || (ltb content held || ltb (content - held) bytes))
unfolding lacks_room
lacks_tests held bytes room content = ap (λ (t : Bool). ltb (room / 5) bytes || t) (go (ltb content held) refl)
  where
    go : (t : Bool) → ltb content held ≡ t → ltb content (bytes + held) ≡ (t || ltb (content - held) bytes)
    go true e = lt-ltb content (bytes + held) (omega (arith, ltb-true content held e))
    go false e = sym (sub_less content held bytes (ltb-false content held e))

-- what enough room is
pub enough_room : (held bytes room content : ℕ) → lacks_room held bytes room content ≡ false → (5 * bytes ≤ room) × (bytes + held ≤ content)
unfolding lacks_room
enough_room held bytes room content e = go (ltb (room / 5) bytes) refl (ltb content (bytes + held)) refl e
  where
    go : (s : Bool) → ltb (room / 5) bytes ≡ s → (t : Bool) → ltb content (bytes + held) ≡ t → (s || t) ≡ false → (5 * bytes ≤ room) × (bytes + held ≤ content)
    go true a t b h = cc
    go false a true b h = cc
    go false a false b h = (omega (arith, ltb-false (room / 5) bytes a), ltb-false content (bytes + held) b)

module _ {l q : Link} {reply own room content reply-now own-now room-now content-now : List ℕ} {log : Log} (raw : List ℕ) (i : ℕ)
    (fits : lacks_room l.held (length raw) (length room) (length content) ≡ false) (low : i ≤ length raw)
    (p : Passing l reply own (take i raw) room content q reply-now own-now room-now content-now log) where
  enough : {r : Ran} {reply-left own-left room-left content-left : List ℕ} → RanDone l reply own raw room content r reply-left own-left room-left content-left
      → RunDone l reply own raw room content r reply-left own-left room-left content-left
  enough d = record { short = λ k. cc; ran = λ _. d }

  size : length (take i raw) ≡ i
  size = length-take-le i raw low

  -- notes and data fit into the lent bytes
  laid : (room-now ≡ over (notes_of p.reports) room) × (content-now ≡ over (data_of p.reports) content)
  laid =
      let e = enough_room l.held (length raw) (length room) (length content) fits in (
        p.held.laid.bytes (omega (arith, notes_most nothing p.reports, runs_length p.steps, size, e.0)),
        p.held.laid_content.bytes (omega (arith, runs_data nothing p.steps, view_held l reply own, size, e.1)),
      )

  -- the raw bytes ended
  pub all_read : {r : Ran} → i ≡ length raw → r ≡ ended_from q variant.More i log → RunDone l reply own raw room content r reply-now own-now room-now content-now
  all_read e is = enough (rw is (record {
    reports = p.reports;
    passed = p.passed;
    steps = rw (append-nil p.reports) p.steps;
    sized = refl;
    within = omega arith;
    ended = λ _. e;
    stopped = λ other. absurd (other refl);
    noted = p.held.count;
    bytes = laid.0;
    stored = p.held.stored;
    contents = laid.1;
  }))

  -- a reply was taken to its end
  pub whole_reply : {t : Taken} {r : Ran} {left : List ℕ} → TakeDone q reply-now (take (length raw - i) (drop i raw)) t left → t.whole ≡ true
      → r ≡ ended_from link-view.fresh (variant.Reply t.got) (i + t.used) log → RunDone l reply own raw room content r left own-now room-now content-now
  unfolding passes
  whole_reply {t} {r} {left} d on is =
      let e = subst (λ (s : List ℕ). TakeDone q reply-now s t left) (tail_all raw i) d in
      let w = e.all on in
      let quiet = adds_quiet nothing p.reports w.before in
      enough (rw is (record {
        reports = p.reports ++ replicate w.before rules.need_more;
        passed = passed_waits p.passed w.before;
        steps = rw (take-add i t.used raw, append_assoc) (runs_join p.steps (w.steps own-now));
        sized = ap variant.Reply (sym (length-take-le t.got left w.filled));
        within = taken_within raw i low d;
        ended = λ f. cc;
        stopped = λ _. refl;
        noted = rw quiet p.held.count;
        bytes = rw quiet laid.0;
        stored = p.held.stored ∙ ap (λ (g : Given). length g.content) (sym quiet);
        contents = laid.1 ∙ ap (λ (g : Given). over g.content content) (sym quiet);
      }))

  module _ {o : Stepped} {reply-left own-left : List ℕ} (h : i < length raw) (d : StepDone q reply-now own-now (get_or raw i 0) o reply-left own-left) where
    -- the counts have room for one answer more
    pub counts : length raw ≤ most_count → length content ≤ most_count → length own-left ≡ own_lent → countable log o.answer (length own-left) ≡ true
    unfolding countable
    counts big full lent =
        let x = get_or raw i 0 in
        let r = (rules.step (view_of q reply-now own-now) x).report in
        let n : data_in o.answer ≡ length (content_in r) = ap data_in d.answer_is ∙ data_counted r in
        let short = data_short q reply-now own-now x in
        let e = enough_room l.held (length raw) (length room) (length content) fits in
        let sum : log.stored + data_in o.answer ≤ length content =
        omega (arith, p.held.stored, n, runs_data nothing p.steps, step_data (view_of q reply-now own-now) x, view_held l reply own, size, e.1) in
        rw (
          lt-ltb log.noted most_count (omega (arith, few_notes p, size)),
          le-leb (data_in o.answer) (length own-left) (omega (arith, n, short, lent)),
          lt-ltb (data_in o.answer) 256 (omega (arith, n, short)),
          le-leb log.stored (most_count - data_in o.answer) (omega (arith, sum)),
        )

    -- a step that is passed over, with what is noted of it
    pub one_more : {more : Log} {room-left content-left : List ℕ} → ends_of o.answer ≡ false → countable log o.answer (length own-left) ≡ true
        → AddDone log o.answer own-left room-now content-now more room-left content-left
        → Passing l reply own (take (i + 1) raw) room content o.link reply-left own-left room-left content-left more
    one_more goes on a = record {
      reports = p.reports ++ (report_of o.answer reply-left own-left ∷ []);
      passed = passed_more p.passed (report_of o.answer reply-left own-left) (not-false (passes (report_of o.answer reply-left own-left)) (ends_lent o.answer reply-left own-left ∙ goes));
      steps = rw (add-one, take-suc raw i 0) (runs_more p.steps d);
      held = rw (adds_snoc nothing p.reports (report_of o.answer reply-left own-left)) (logs_hold (report_of o.answer reply-left own-left) (a.adds_it on reply-left) (adds_all nothing p.reports) room content p.held);
    }

    -- a step that ends the loop
    pub ended : (a : Answer) {r : Ran} → o.answer ≡ a → ends_of a ≡ true → r ≡ ended_from o.link a (i + 1) log
        → RunDone l reply own raw room content r reply-left own-left room-now content-now
    ended a same ends is =
        let other = more_goes a ends in
        enough (rw is (record {
          reports = p.reports;
          passed = p.passed;
          steps = rw (last_is a reply-left own-left other, ← same, add-one, take-suc raw i 0) (runs_more p.steps d);
          sized = rw (← same) (d.answer_is ∙ ap answer_for (sym d.answer));
          within = omega arith;
          ended = λ e. absurd (other e);
          stopped = λ _. not-true (passes (report_of a reply-left own-left)) (ends_lent a reply-left own-left ∙ ends);
          noted = p.held.count;
          bytes = laid.0;
          stored = p.held.stored;
          contents = laid.1;
        }))

-- one byte more is among them
pub step_low : (raw : List ℕ) (i : ℕ) → i < length raw → i + 1 ≤ length raw
step_low raw i h = omega arith
