-- The whole recorded reply: the laws of its bytes, of a turn of the reader, and of the two runs.
use Rattle.std.specs.Prelude.{Option, Some, None, Result}
use Prim.Native.Nat.{ℕ, suc, ◌+◌, ◌-◌, ◌*◌, ◌/◌, ◌≤◌, ◌<◌, min}
use native.Mathlib.Nat.{le_of_lt}
use native.Mathlib.Omega.{arith}
use mathlib.Core.Path.{◌≡◌, refl, sym, ap, subst, ◌∙◌}
use mathlib.Core.Bool.{Bool, true, false, cond, not, ◌&&◌}
use mathlib.Core.List.{List, [], ◌∷◌, ◌++◌, append-nil}
use lib.Dec.{eqb, leb, ltb}
use lib.ListN.{length, take, drop, get_or, set, length-append, length-take, length-drop, length-set}
use lib.Seq.{length-take-le, take_all, take_at, sets, sets-eq, length-sets}
use borrow.Author.Tests.{lt-leb, le-leb, leb-true, ltb-true, ltb-false, eqb-false, ne_eqb}
use Rattle.escape.specs.Units as units
use Rattle.escape.specs.Units.{unit_at}
use Rattle.escape.proofs.Units.{data_near, mark_near}
use Rattle.escape.specs.Put.{over}
use Rattle.serial_rules.specs.Body.{Turn, more, done, refused}
use Rattle.serial_rules.specs.Reply as rules-reply
use Rattle.serial_rules.specs.Reply.{Kind, Shape, fixed, line, text, shape_of, shape_turn, longest}
use Rattle.serial_rules.specs.Link as rules
use Rattle.serial_rules.specs.Session.{inside}
use Rattle.serial_rules.specs.Record.{Outcome, Recorded, recording, give, recorded, recorded_from, recorded_reply}
use Rattle.serial_rules.proofs.Lent.{take_next}
use Rattle.serial_rules.proofs.Nest.{nest_none}
use Rattle.serial_rules.proofs.Parts.{length_snoc}
use Rattle.serial_rules.proofs.Shapes.{choice}
use Rattle.serial_rules.proofs.Trip.{and_both}
use Rattle.turns.specs.Plain.{PlainDone}
use Rattle.turns.proofs.Plain.{done_plains, done_most, part_sets}
use Rattle.shapes.specs.Ahead.{ahead_of}
use Rattle.kind.specs.Kinds.{kind_for, reply_lent}
use Rattle.kind.specs.declared.CallKind.{CallKind}
use Rattle.refusal.specs.declared.Refusal.{Refusal}
use Rattle.refusal.specs.declared.Refusal.TheVariants.{NoRoom}
use Rattle.refusal.specs.Refusals.{number}
use Rattle.answers.specs.declared.Answer.{Answer}
use Rattle.answers.specs.declared.Answer.TheVariants as variant
use Rattle.link.specs.declared.Link.{Link}
use Rattle.link.specs.declared.Begun.{Begun}
use Rattle.link.specs.declared.Started.{Started}
use Rattle.link.specs.View as link
use Rattle.link.specs.View.{usable_of, view_of, begun_of, BeginDone}
use Rattle.notes.specs.declared.Log.{Log}
use Rattle.notes.specs.Notes.{nothing, adds_all, notes_of, data_of}
use Rattle.notes.specs.Logs.{fresh, Holds}
use Rattle.notes.proofs.Laws.{holds_nothing}
use Rattle.action_bytes.specs.Walk.{on, halt, Act}
use Rattle.action_bytes.specs.Parts.{outcome_of, answer_of, Ends}
use Rattle.action_bytes.proofs.Walk.{give_give}
use Rattle.transfers.specs.declared.Walked.{Walked}
use Rattle.transfers.specs.Parts.{went_of, EndedWell, Gives, ActDone}
use Rattle.transfers.proofs.Parts.{gives_none, gives_then, gives_later}
use Rattle.transfers.proofs.Cycle.{at_mark}
use Rattle.recorded.specs.declared.Ended.{Ended}
use Rattle.recorded.specs.Promise.{bytes_of, has_room, Read, ReadDone}
use Rattle.recorded.specs.Parts.{Whole, ended_at, AllDone, PassDone, nothing_read, is_short}
use Rattle.recorded.proofs.Walk as laws

-- plain bytes before the last place of the reply
pub passes_plain : {raw reply left : List ℕ} {r : ℕ} (got last : ℕ) → got ≤ last → last ≤ length reply
    → PlainDone raw (take (last - got) (drop got reply)) r left
    → PassDone got last raw reply r (take got reply ++ (left ++ drop (last - got) (drop got reply)))
passes_plain {raw} {reply} got last le fits d =
    let part : length (take (last - got) (drop got reply)) ≡ last - got = length-take-le (last - got) (drop got reply) (simp length-drop (omega arith)) in
    let most = done_most d in
    record { before = omega arith; within = most.1; plain = done_plains d; bytes = part_sets reply got (last - got) (omega arith) d }

-- the place behind them, where the raw bytes of a recording from the place n on were looked at
pub pass_near : (s : List ℕ) (n : ℕ) {got last m : ℕ} {reply left : List ℕ} → n ≤ length s
    → PassDone got last (take (length s - n) (drop n s)) reply m left → n + m ≤ length s
pass_near s n le p = omega (arith, p.within, length-take (length s - n) (drop n s), length-drop n s)

abbrev NotText : Shape → Type 0
NotText (fixed m) = Unit
NotText line = Unit
NotText text = ⊥

reply_shape : (k : Kind) → NotText (shape_of k)
reply_shape rules-reply.osrdch = tt
reply_shape rules-reply.oscli = tt
reply_shape rules-reply.osbyte_low = tt
reply_shape rules-reply.osbyte_high = tt
reply_shape (rules-reply.osword n) = tt
reply_shape rules-reply.osword0 = tt
reply_shape rules-reply.osargs = tt
reply_shape rules-reply.osbget = tt
reply_shape rules-reply.osbput = tt
reply_shape rules-reply.osfind_close = tt
reply_shape rules-reply.osfind_open = tt
reply_shape rules-reply.osfile = tt
reply_shape rules-reply.osgbpb = tt

-- no reply is a text: behind its first byte, all before the last place need more
reply_ahead : (k : Kind) (n : ℕ) → 0 < n → ahead_of (shape_of k) n ≡ longest (shape_of k) - 1 - n
reply_ahead k n some = go (shape_of k) (reply_shape k)
  where
    go : (sh : Shape) → NotText sh → ahead_of sh n ≡ longest sh - 1 - n
    go (fixed m) _ = refl
    go line _ = rw (ne_eqb n 0 (λ e. omega arith))
    go text e = absurd e

-- an error's number and text
pub error_put : (n k a b : ℕ) (own out : List ℕ) {back : List ℕ} → length own ≡ suc a → length out ≡ suc b
    → back ≡ over (take k (take a (drop 1 own))) (take b (drop 1 (set out 0 n)))
    → take 1 (set out 0 n) ++ (back ++ drop b (drop 1 (set out 0 n))) ≡ over (n ∷ take k (drop 1 own)) out
error_put n k a b own [] e f h = absurd (omega arith)
error_put n k a b own (x ∷ out) e f h =
    let text : take a (drop 1 own) ≡ drop 1 own = take_all a (drop 1 own) (simp length-drop (omega arith)) in
    let all : take b out ≡ out = take_all b out (omega arith) in
    let none : drop b out ≡ [] = lib.ListN.drop_of_length-le out (omega arith) in
    ap (λ (l : List ℕ). n ∷ (l ++ drop b out)) h ∙ rw (text, all, none, append-nil)

-- bytes stored behind the first n
behind_set : {left : List ℕ} (reply : List ℕ) (n : ℕ) (l : List ℕ) (m : ℕ) → length l ≡ m → n + m ≤ length reply → left ≡ sets reply n l
    → take (n + m) left ≡ take n reply ++ l
behind_set reply n l m size fits e =
    let front : length (take n reply ++ l) ≡ n + m = rw (length-append, length-take-le n reply (omega arith), size) in
    rw (e, sets-eq l reply n (omega arith)) (take_at (take n reply ++ l) (drop (n + length l) reply) (n + m) front)

-- The reply from its first byte on, `got` of them so far, of a call of any kind with this shape: what was given so far, and how the link came here.
pub record Reading (s : List ℕ) (sh : Shape) (last : ℕ) (notes₀ content₀ reply own notes content : List ℕ) (log : Log) (i got : ℕ) : Type 0 where
  pub given : List rules.Report
  pub chain : (k : Kind) → shape_of k ≡ sh → (r : Recorded) → Whole s k i (take got reply) r → Whole s k 0 [] (give given r)
  pub gives : Gives given fresh 0 notes₀ content₀ log i notes content
  pub near : i ≤ length s
  pub short : got ≤ last
  pub whole : longest sh ≡ last + 1
  pub most : last < reply_lent
  pub reply_size : length reply ≡ reply_lent
  pub notes_size : length notes ≡ length notes₀
  pub content_size : length content ≡ length content₀

pub reading_starts : {s : List ℕ} {sh : Shape} {last : ℕ} {reply own notes content : List ℕ} {log : Log} → log ≡ fresh → longest sh ≡ last + 1
    → last < reply_lent → length reply ≡ reply_lent
    → Reading s sh last notes content reply own notes content log 0 0
reading_starts e whole most r = rw e (record {
  given = [];
  chain = λ k x r w. w;
  gives = gives_none (omega arith);
  near = omega arith;
  short = omega arith;
  whole = whole;
  most = most;
  reply_size = r;
  notes_size = refl;
  content_size = refl;
})

module _ {s : List ℕ} {sh : Shape} {last : ℕ} {notes₀ content₀ reply own notes content : List ℕ} {log : Log} {i got : ℕ} (v : Reading s sh last notes₀ content₀ reply own notes content log i got) where
  pub reading_room : got < length reply
  reading_room = omega (arith, v.short, v.most, v.reply_size)

  -- the reading ended
  module _ (k : CallKind) (is : shape_of (kind_for k) ≡ sh) where
    over_with : {answer : Answer} {at : ℕ} {end : Log} {reply-left own-left notes-left content-left : List ℕ} (g : List rules.Report)
        → Whole s (kind_for k) i (take got reply) (recording g at (outcome_of answer reply-left own-left))
        → answer ≡ answer_of (outcome_of answer reply-left own-left)
        → Gives g log i notes content end at notes-left content-left
        → AllDone s k notes₀ content₀ (ended_at answer at end) reply-left own-left notes-left content-left
    over_with g w e n = record { given = v.given ++ g; says = v.chain (kind_for k) is _ w; sized = e; gives = gives_then v.gives n }

    turned_as : {t : Turn} (b : ℕ) → shape_turn sh got b ≡ t → shape_turn (shape_of (kind_for k)) (length (take got reply)) b ≡ t
    turned_as b e =
        let n : length (take got reply) ≡ got = length-take-le got reply (le_of_lt reading_room) in
        ap (λ (x : Shape). shape_turn x (length (take got reply)) b) is ∙ ap (λ (m : ℕ). shape_turn sh m b) n ∙ e

    pub reading_ran_out : unit_at s i ≡ units.gone → AllDone s k notes₀ content₀ (ended_at variant.More (length s) log) reply own notes content
    reading_ran_out u = over_with [] (laws.top_gone s (kind_for k) i (take got reply) v.near u) refl (gives_none v.near)

    pub reading_refused : {b n m : ℕ} → unit_at s i ≡ units.datum b n → shape_turn sh got b ≡ refused m
        → AllDone s k notes₀ content₀ (ended_at (variant.Refused m) n log) reply own notes content
    reading_refused {b} u t =
        let q = data_near s i u in
        over_with [] (laws.top_refused s (kind_for k) i (take got reply) v.near u (turned_as b t)) refl (gives_none (omega arith))

    pub reading_done : {b n : ℕ} → unit_at s i ≡ units.datum b n → shape_turn sh got b ≡ done
        → AllDone s k notes₀ content₀ (ended_at (variant.Reply (got + 1)) n log) (set reply got b) own notes content
    reading_done {b} {n} u t =
        let q = data_near s i u in
        let size : length (take (got + 1) (set reply got b)) ≡ got + 1 = length-take-le (got + 1) (set reply got b) (rw (length-set reply got b) (omega (arith, reading_room))) in
        over_with [] (rw (take_next reply got b reading_room) (laws.top_done s (kind_for k) i (take got reply) v.near u (turned_as b t)))
        (ap variant.Reply (sym size)) (gives_none (omega arith))

    pub reading_halts : {m n : ℕ} {r : Walked} {answer : Answer} {own-left notes-left content-left : List ℕ} → unit_at s i ≡ units.mark m n
        → ActDone s 0 (min n (length s)) (rules.meaning_of m) log notes content r own-left notes-left content-left → r.end ≡ Some answer
        → AllDone s k notes₀ content₀ (ended_at answer r.at r.log) reply own-left notes-left content-left
    reading_halts {m} {n} {r} {answer} {own-left} u b e =
        let q = mark_near s i u in
        let a = at_mark i u b in
        let ends : Ends answer own-left = subst (λ (x : Option Answer). EndedWell x own-left) e a.ends in
        let says : Act s 0 n (rules.meaning_of m) a.given (halt r.at (outcome_of answer [] own-left)) =
        subst (λ (x : Option Answer). Act s 0 n (rules.meaning_of m) a.given (went_of x r.at own-left)) e a.says in
        over_with a.given (rw (ends.same reply) (laws.top_halt s (kind_for k) i (take got reply) v.near u says)) (rw (ends.same reply) ends.sized) (a.gives i (omega arith))

  -- a byte that needs more, and plain bytes behind it
  pub reading_goes_on : {b n m : ℕ} {left : List ℕ} → unit_at s i ≡ units.datum b n → shape_turn sh got b ≡ more
      → PassDone (got + 1) last (drop n s) (set reply got b) m left
      → Reading s sh last notes₀ content₀ left own notes content log (n + m) (got + 1 + m)
  reading_goes_on {b} {n} {m} {left} u t p =
      let q = data_near s i u in
      let l = take m (drop n s) in
      let size : length l ≡ m = length-take-le m (drop n s) p.within in
      let within = p.within in
      let long = length-drop n s in
      let before : take (got + 1) (set reply got b) ≡ take got reply ++ (b ∷ []) = take_next reply got b reading_room in
      let here : length (set reply got b) ≡ reply_lent = length-set reply got b ∙ v.reply_size in
      let after : take (got + 1 + m) left ≡ (take got reply ++ (b ∷ [])) ++ l = behind_set (set reply got b) (got + 1) l m size (omega (arith, p.before, v.most)) p.bytes ∙ ap (λ (x : List ℕ). x ++ l) before in
      let first : length (take got reply ++ (b ∷ [])) ≡ got + 1 + 0 = omega (arith, length_snoc (take got reply) b, length-take-le got reply (le_of_lt reading_room)) in
      record {
        given = v.given;
        chain = λ k is r w.
            v.chain k is r
            (laws.top_more s k i (take got reply) v.near u (turned_in k is b t)
            (laws.top_run s k (got + 1) n l (take got reply ++ (b ∷ [])) (ap (λ (x : ℕ). take x (drop n s)) (sym size)) p.plain 0 first (rw size (ahead k is))
            (rw (size, ← after) w)));
        gives = gives_later (omega arith) v.gives;
        near = omega arith;
        short = omega (arith, p.before);
        whole = v.whole;
        most = v.most;
        reply_size = ap length p.bytes ∙ length-sets (set reply got b) (got + 1) l ∙ here;
        notes_size = v.notes_size;
        content_size = v.content_size;
      }
    where
      ahead : (k : Kind) → shape_of k ≡ sh → 0 + m ≤ ahead_of (shape_of k) (got + 1)
      ahead k is = omega (arith, reply_ahead k (got + 1) (omega arith), ap longest is, v.whole, p.before)

      turned_in : (k : Kind) → shape_of k ≡ sh → (b : ℕ) → shape_turn sh got b ≡ more → shape_turn (shape_of k) (length (take got reply)) b ≡ more
      turned_in k is b e =
          let n : length (take got reply) ≡ got = length-take-le got reply (le_of_lt reading_room) in
          ap (λ (x : Shape). shape_turn x (length (take got reply)) b) is ∙ ap (λ (m : ℕ). shape_turn sh m b) n ∙ e

  -- an action that leaves the reply at its place
  pub reading_acts : {m n : ℕ} {r : Walked} {own-left notes-left content-left : List ℕ} → unit_at s i ≡ units.mark m n
      → ActDone s 0 (min n (length s)) (rules.meaning_of m) log notes content r own-left notes-left content-left → r.end ≡ None
      → length notes-left ≡ length notes → length content-left ≡ length content
      → Reading s sh last notes₀ content₀ reply own-left notes-left content-left r.log r.at got
  reading_acts {m} {n} {r} {own-left} u b e p c =
      let q = mark_near s i u in
      let a = at_mark i u b in
      let says : Act s 0 n (rules.meaning_of m) a.given (on r.at) =
      subst (λ (x : Option Answer). Act s 0 n (rules.meaning_of m) a.given (went_of x r.at own-left)) e a.says in
      record {
        given = v.given ++ a.given;
        chain = λ k is x w. subst (Whole s k 0 []) (give_give v.given a.given x) (v.chain k is _ (laws.top_on s k i (take got reply) v.near u says w));
        gives = gives_then v.gives (a.gives i (omega arith));
        near = a.near;
        short = v.short;
        whole = v.whole;
        most = v.most;
        reply_size = v.reply_size;
        notes_size = p ∙ v.notes_size;
        content_size = c ∙ v.content_size;
      }

differ : true ≡ false → ⊥
differ e = cc

-- How a call begins on a fresh link.
fresh_view : (reply own : List ℕ) → view_of link.fresh reply own ≡ rules.fresh
unfolding usable_of
fresh_view reply own = rw nest_none

pub begins_fresh : {l : Link} {k : CallKind} {r : Started} {a : Result Begun Refusal} → l ≡ link.fresh → BeginDone l k r → r.answer ≡ a
    → (rules.begin rules.fresh (kind_for k)).answer ≡ begun_of a
begins_fresh {k = k} is d e =
    ap (λ (x : rules.Link). (rules.begin x (kind_for k)).answer) (sym (ap (λ (x : Link). view_of x [] []) is ∙ fresh_view [] [])) ∙ sym (d.answer [] []) ∙ ap begun_of e

-- What the rules give, by how the call begins on a fresh link.
reply_from : (k : Kind) (s : List ℕ) {a : rules.Begun} → (rules.begin rules.fresh k).answer ≡ a
    → recorded_reply k s ≡ recorded_from a (rules.begin rules.fresh k).next s
unfolding recorded_reply
reply_from k s e = ap (λ (a : rules.Begun). recorded_from a (rules.begin rules.fresh k).next s) e

-- a call that waits has some byte of a reply, and one with none is complete
pub waits_some : (k : Kind) → (rules.begin rules.fresh k).answer ≡ rules.begun → 0 < longest (shape_of k)
unfolding rules.begin rules.enters
waits_some k = choice (λ (x : rules.Entry). x.answer ≡ rules.begun → 0 < longest (shape_of k)) (eqb (longest (shape_of k)) 0)
    (λ _ e. cc) (λ e _. let n = eqb-false (longest (shape_of k)) 0 e in omega arith)

waits_reply : (k : Kind) (s : List ℕ) → 0 < longest (shape_of k)
    → recorded_reply k s ≡ recorded 0 (rules.live (inside []) (rules.frame (rules.waiting k) [])) s
unfolding recorded_reply rules.begin rules.enters
waits_reply k s some = rw (ne_eqb (longest (shape_of k)) 0 (λ e. omega arith))

-- room for what was counted
room_counted : (log : Log) {a b : ℕ} (notes content : ℕ) → 5 * log.noted ≡ a → log.stored ≡ b
    → (leb a notes && leb b content) ≡ not (is_short log notes content)
room_counted log {a} {b} notes content n d = go (ltb (notes / 5) log.noted) refl (ltb content log.stored) refl
  where
    go : (t : Bool) → ltb (notes / 5) log.noted ≡ t → (u : Bool) → ltb content log.stored ≡ u
        → (leb a notes && leb b content) ≡ not (cond t true u)
    go true e u f = rw (lt-leb a notes (omega (arith, ltb-true (notes / 5) log.noted e)))
    go false e true f = rw (le-leb a notes (omega (arith, ltb-false (notes / 5) log.noted e)), lt-leb b content (omega (arith, ltb-true content log.stored f)))
    go false e false f = rw (le-leb a notes (omega (arith, ltb-false (notes / 5) log.noted e)), le-leb b content (omega (arith, ltb-false content log.stored f)))

-- one run of the reader, of a call that waits
module _ {s : List ℕ} {k : CallKind} {notes content : List ℕ} {r : Ended} {reply own notes-left content-left : List ℕ} (some : 0 < longest (shape_of (kind_for k)))
    (d : AllDone s k notes content r reply own notes-left content-left) where
  run_gives : recorded_reply (kind_for k) s ≡ recording d.given r.at (outcome_of r.answer reply own)
  run_gives = waits_reply (kind_for k) s some ∙ d.says.says

  run_holds : Holds (adds_all nothing d.given) r.log notes content notes-left content-left
  run_holds = (d.gives.adds_them nothing notes content (record { holds = holds_nothing; few = omega arith; small = omega arith })).holds

  run_counts : (5 * r.log.noted ≡ length (notes_of (recorded_reply (kind_for k) s).reports)) × (r.log.stored ≡ length (data_of (recorded_reply (kind_for k) s).reports))
  run_counts = rw run_gives (run_holds.count, run_holds.stored)

  run_room : (n m : ℕ) → has_room (recorded_reply (kind_for k) s) n m ≡ not (is_short r.log n m)
  unfolding has_room
  run_room n m = room_counted r.log n m run_counts.0 run_counts.1

  -- the lent bytes are too short
  pub short_read : {n c out : List ℕ} → is_short r.log (length n) (length c) ≡ true
      → ReadDone k s n c out (record { answer = variant.Refused (number NoRoom); used = 0; noted = r.log.noted; stored = r.log.stored }) n c out
  short_read {n} {c} e = record {
    notes_count = run_counts.0;
    content_count = run_counts.1;
    enough = λ on. absurd (differ (sym on ∙ run_room (length n) (length c) ∙ ap not e));
    short = λ _. record { answer = refl; used = refl; same_notes = refl; same_content = refl; same_out = refl };
  }

  -- what a run into the lent bytes leaves
  run_reads : {out out-left : List ℕ} → has_room (recorded_reply (kind_for k) s) (length notes) (length content) ≡ true
      → out-left ≡ over (bytes_of (outcome_of r.answer reply own)) out
      → Read (recorded_reply (kind_for k) s) notes content out (record { answer = r.answer; used = r.at; noted = r.log.noted; stored = r.log.stored }) notes-left content-left out-left
  unfolding has_room
  run_reads room settled =
      let fits = and_both (leb (length (notes_of (recorded_reply (kind_for k) s).reports)) (length notes)) (leb (length (data_of (recorded_reply (kind_for k) s).reports)) (length content)) room in
      let n = leb-true (length (notes_of (recorded_reply (kind_for k) s).reports)) (length notes) fits.0 in
      let m = leb-true (length (data_of (recorded_reply (kind_for k) s).reports)) (length content) fits.1 in
      record {
        answer = rw run_gives d.sized;
        used = rw run_gives refl;
        noted = rw run_gives (run_holds.laid.bytes (rw run_gives at n));
        stored = rw run_gives (run_holds.laid_content.bytes (rw run_gives at m));
        bytes = rw run_gives settled;
      }

-- both runs: the second into lent bytes that have room for what the first counted
pub whole_read : {s : List ℕ} {k : CallKind} {notes₁ content₁ notes content out : List ℕ} {a b : Ended} {reply₁ own₁ notes₂ content₂ reply own notes-left content-left out-left : List ℕ}
    → 0 < longest (shape_of (kind_for k)) → AllDone s k notes₁ content₁ a reply₁ own₁ notes₂ content₂
    → is_short a.log (length notes) (length content) ≡ false
    → AllDone s k notes content b reply own notes-left content-left → out-left ≡ over (bytes_of (outcome_of b.answer reply own)) out
    → ReadDone k s notes content out (record { answer = b.answer; used = b.at; noted = b.log.noted; stored = b.log.stored }) notes-left content-left out-left
whole_read {notes = notes} {content} some first e d settled = record {
  notes_count = (run_counts some d).0;
  content_count = (run_counts some d).1;
  enough = λ on. run_reads some d on settled;
  short = λ off. absurd (differ (sym (run_room some first (length notes) (length content) ∙ ap not e) ∙ off));
}

-- the call ended before the first byte: what the rules say of it is its answer, and there is nothing to note
ended_read : (s : List ℕ) (k : CallKind) (notes content out : List ℕ) {answer : Answer} {u : Outcome} → recorded_reply (kind_for k) s ≡ recording [] 0 u
    → answer ≡ answer_of u → bytes_of u ≡ []
    → ReadDone k s notes content out (nothing_read answer) notes content out
unfolding has_room adds_all
ended_read s k notes content out is e none = record {
  notes_count = rw is refl;
  content_count = rw is refl;
  enough = λ _. rw is (record { answer = e; used = refl; noted = refl; stored = refl; bytes = rw none refl });
  short = λ off. absurd (differ (sym (rw (is, le-leb 0 (length notes) (omega arith), le-leb 0 (length content) (omega arith)) refl) ∙ off));
}

module _ {s : List ℕ} {k : CallKind} {notes content out : List ℕ} where
  pub complete_read : (rules.begin rules.fresh (kind_for k)).answer ≡ rules.complete
      → ReadDone k s notes content out (nothing_read (variant.Reply 0)) notes content out
  complete_read e = ended_read s k notes content out (reply_from (kind_for k) s e) refl refl

  pub denied_read : {m : ℕ} → (rules.begin rules.fresh (kind_for k)).answer ≡ rules.denied m
      → ReadDone k s notes content out (nothing_read (variant.Refused m)) notes content out
  denied_read e = ended_read s k notes content out (reply_from (kind_for k) s e) refl refl
