-- What is noted of one report more: a note behind those so far or in the place of the last one, and bytes behind the data so far.
use Prim.Native.Nat.{ℕ, suc, ◌+◌, ◌*◌, ◌-◌, ◌≤◌, ◌<◌}
use native.Mathlib.Nat.{add-zero}
use native.Mathlib.Numerals.{add-one}
use native.Mathlib.Omega.{arith}
use mathlib.Core.Path.{◌≡◌, refl, sym, ap, subst, ◌∙◌}
use mathlib.Core.Bool.{Bool, true, false, cond, not, ◌&&◌}
use mathlib.Core.List.{List, [], ◌∷◌, ◌++◌, append_assoc, append-nil, map}
use lib.Dec.{eqb, leb, ltb}
use lib.ListN.{length, take, drop, set, length-append, length-take, length-drop, length-set}
use lib.Seq.{length-take-le, take_at, drop_at, drop-drop, drop-append-add, sets-eq, take_all}
use borrow.Author.Tests.{eqb-true, eqb-false, leb-true, ltb-true, lt-ltb, ne_eqb, not-true}
use Rattle.escape.specs.Put.{Put}
use Rattle.escape.proofs.Laws.{put_as}
use Rattle.serial_rules.specs.Link as rules
use Rattle.serial_rules.proofs.Trip.{and_both}
use Rattle.turns.specs.Plain.{is_data}
use Rattle.turns.proofs.Plain.{run_most}
use Rattle.answers.specs.declared.Answer.{Answer}
use Rattle.answers.specs.declared.Answer.TheVariants as variant
use Rattle.answers.specs.Reports.{transfer_for}
use Rattle.notes.specs.declared.Log.{Log}
use Rattle.notes.specs.Notes.{Given, given, nothing, run_note, notes_in, noted, longest_run, transfer_number, adds, adds_all}
use Rattle.notes.specs.Logs.{fresh, Lays, Holds, data_in, most_count, countable, run_goes_on, Wrote, noted_in, started_in, grown_by, Unchanged, Noted, BlockDone, LoadedDone, Logs, Added, AddDone, joins, joinable, JoinedDone, AddRunDone}

-- A write at a place is one of a part that was lent in turn.
pub wrote_part : {w out back : List ℕ} {n : ℕ} (at : ℕ) → at ≤ length out → Put w (take (length out - at) (drop at out)) back n
    → Wrote at w out (take at out ++ (back ++ drop (length out - at) (drop at out)))
wrote_part {w} {out} {back} {n} at h p =
    let short : length (drop at out) ≤ length out - at = simp length-drop (omega arith) in
    let all : take (length out - at) (drop at out) ≡ drop at out = take_all (length out - at) (drop at out) short in
    let part : back ≡ w ++ drop (at + length w) out = p.bytes ∙ rw (all, drop-drop) in
    let none : drop (length out - at) (drop at out) ≡ [] = lib.ListN.drop_of_length-le (drop at out) short in
    let e : take at out ++ (back ++ drop (length out - at) (drop at out)) ≡ take at out ++ (w ++ drop (at + length w) out) = rw (none, append-nil, part) in
    let room : length w ≤ length out - at = omega (arith, p.count, simp (length-take, length-drop) at p.room) in
    record {
      size = rw (e, length-append, length-append, length-take-le at out h, length-drop) (omega arith);
      bytes = λ _. e;
      full = λ k. absurd (omega arith);
    }

-- A write behind w, in the place of v, which is not longer.
lays_wrote : (w v : List ℕ) {u out mid left : List ℕ} (at : ℕ) → Lays (w ++ v) out mid → at ≡ length w → length v ≤ length u → Wrote at u mid left → Lays (w ++ u) out left
lays_wrote w v {u} {out} {mid} {left} at l e shorter k =
    record {
      size = k.size ∙ l.size;
      bytes = λ fits.
          let n : length (w ++ u) ≡ length w + length u = length-append w u in
          let m : length (w ++ v) ≡ length w + length v = length-append w v in
          let was : mid ≡ w ++ (v ++ drop (length (w ++ v)) out) = l.bytes (omega arith) ∙ append_assoc w v (drop (length (w ++ v)) out) in
          let front : take at mid ≡ w = rw was (take_at w (v ++ drop (length (w ++ v)) out) at (sym e)) in
          let behind : drop (at + length u) mid ≡ drop (length (w ++ u)) out = after was n m in
          k.bytes (omega (arith, l.size)) ∙ rw (front, behind, append_assoc);
    }
  where
    after : mid ≡ w ++ (v ++ drop (length (w ++ v)) out) → length (w ++ u) ≡ length w + length u → length (w ++ v) ≡ length w + length v
        → drop (at + length u) mid ≡ drop (length (w ++ u)) out
    after was n m =
        let tail : drop at mid ≡ v ++ drop (length (w ++ v)) out = rw was (drop_at w (v ++ drop (length (w ++ v)) out) at (sym e)) in
        let s : length u ≡ length v + (length u - length v) = omega arith in
        let d = length u - length v in
        let whole : length (w ++ v) + d ≡ length (w ++ u) = omega arith in
        sym (drop-drop (length u) at mid)
        ∙ ap (drop (length u)) tail
        ∙ ap (λ (n : ℕ). drop n (v ++ drop (length (w ++ v)) out)) s
        ∙ drop-append-add v (drop (length (w ++ v)) out) d
        ∙ drop-drop d (length (w ++ v)) out
        ∙ ap (λ (n : ℕ). drop n out) whole

lays_more : (w : List ℕ) {u out mid left : List ℕ} (at : ℕ) → Lays w out mid → at ≡ length w → Wrote at u mid left → Lays (w ++ u) out left
lays_more w {u} {out} {mid} {left} at l e k =
    let m : Lays (w ++ []) out mid = rw append-nil l in
    lays_wrote w [] at m e (omega arith) k

-- nothing so far
pub holds_nothing : {notes content : List ℕ} → Holds nothing fresh notes content notes content
holds_nothing = record {
  count = refl;
  run = refl;
  short = omega arith;
  stored = refl;
  laid = record { size = refl; bytes = λ _. refl };
  laid_content = record { size = refl; bytes = λ _. refl };
}

-- one note more
module _ {log r : Log} {w notes content notes-left : List ℕ} (is : r ≡ noted_in log) (k : Wrote (5 * log.noted) w notes notes-left) (five : length w ≡ 5) where
  noted_more : (g : Given) (notes₀ content₀ : List ℕ) → Holds g log notes₀ content₀ notes content → Holds (noted g w) r notes₀ content₀ notes-left content
  noted_more g notes₀ content₀ h = rw is (record {
    count = rw (append-nil, length-append) (omega (arith, h.count));
    run = refl;
    short = omega arith;
    stored = h.stored;
    laid = rw append-nil (lays_more (notes_in g) (5 * log.noted) h.laid h.count k);
    laid_content = h.laid_content;
  })

-- Whatever was given so far, a report more.
abbrev Adds : Log → rules.Report → List ℕ → List ℕ → Log → List ℕ → List ℕ → Type 0
Adds log report notes content r notes-left content-left =
    (g : Given) (notes₀ content₀ : List ℕ) → Holds g log notes₀ content₀ notes content → Holds (adds g report) r notes₀ content₀ notes-left content-left

-- a control block
block_added : {log r : Log} {h notes content notes-left content-left : List ℕ} → BlockDone log h notes content r notes-left content-left
    → Adds log (rules.block h) notes content r notes-left content-left
unfolding adds
block_added {log} {h = bytes} d g notes₀ content₀ h = rw d.0 (record {
  count = rw (append-nil, length-append) (omega (arith, h.count));
  run = refl;
  short = omega arith;
  stored = rw (length-append, h.stored);
  laid = rw append-nil (lays_more (notes_in g) (5 * log.noted) h.laid h.count d.1);
  laid_content = lays_more g.content log.stored h.laid_content h.stored d.2;
})

-- the note of some load bytes
run_five : (n : ℕ) → 0 < n → run_note n ≡ 13 ∷ n ∷ 0 ∷ 0 ∷ 0 ∷ []
run_five n h = rw (ne_eqb n 0 (λ e. omega arith)) refl

pub run_length : (n : ℕ) → length (run_note n) ≤ 5
run_length n = go (eqb n 0)
  where
    go : (t : Bool) → length (cond t [] (13 ∷ n ∷ 0 ∷ 0 ∷ 0 ∷ [])) ≤ 5
    go true = omega arith
    go false = omega arith

-- Load bytes that join the last note: n of them, the bytes w.
module _ {log : Log} {w notes content notes-left content-left : List ℕ} (n : ℕ) (size : length w ≡ n) (some : 0 < log.run) (fits : log.run + n ≤ longest_run)
    (k : Wrote (5 * (log.noted - 1)) (13 ∷ (log.run + n) ∷ 0 ∷ 0 ∷ 0 ∷ []) notes notes-left) (d : Wrote log.stored w content content-left) where
  pub joined_more : (g : Given) (notes₀ content₀ : List ℕ) → Holds g log notes₀ content₀ notes content
      → Holds (given g.notes (g.run + n) (g.content ++ w)) (grown_by log n) notes₀ content₀ notes-left content-left
  joined_more g notes₀ content₀ h =
      let five : run_note (g.run + n) ≡ 13 ∷ (g.run + n) ∷ 0 ∷ 0 ∷ 0 ∷ [] = run_five (g.run + n) (omega (arith, h.run)) in
      let last : run_note g.run ≡ 13 ∷ g.run ∷ 0 ∷ 0 ∷ 0 ∷ [] = run_five g.run (omega (arith, h.run)) in
      let count : 5 * log.noted ≡ length g.notes + 5 = h.count ∙ length-append g.notes (run_note g.run) ∙ ap (λ (l : List ℕ). length g.notes + length l) last in
      record {
        count = rw (length-append, five) (omega (arith, count));
        run = ap (λ (m : ℕ). m + n) h.run;
        short = omega (arith, h.run);
        stored = rw (length-append, size, h.stored);
        laid = rw five (lays_wrote g.notes (run_note g.run) (5 * (log.noted - 1)) h.laid (omega (arith, count)) (run_length g.run) (rw h.run at k));
        laid_content = lays_more g.content log.stored h.laid_content h.stored d;
      }

-- what the tests say
pub goes_facts : (log : Log) → run_goes_on log ≡ true → (0 < log.noted) × (0 < log.run) × (log.run < longest_run)
unfolding run_goes_on
goes_facts log on =
    let p = and_both (not (eqb log.run 0)) (not (eqb log.noted 0) && ltb log.run longest_run) on in
    let q = and_both (not (eqb log.noted 0)) (ltb log.run longest_run) p.1 in
    let some = eqb-false log.run 0 (not-true (eqb log.run 0) p.0) in
    let notes = eqb-false log.noted 0 (not-true (eqb log.noted 0) q.0) in
    (omega arith, omega arith, ltb-true log.run longest_run q.1)

pub join_facts : (log : Log) (n : ℕ) → joinable log n ≡ true → (0 < log.noted) × (0 < log.run) × (log.run < longest_run) × (log.stored ≤ most_count - n)
unfolding joinable
join_facts log n on =
    let p = and_both (run_goes_on log) (leb log.stored (most_count - n)) on in
    let g = goes_facts log p.0 in
    (g.0, g.1, g.2, leb-true log.stored (most_count - n) p.1)

pub count_facts : (log : Log) (a : Answer) (own : ℕ) → countable log a own ≡ true
    → (log.noted < most_count) × (data_in a ≤ own) × (data_in a < 256) × (log.stored ≤ most_count - data_in a)
unfolding countable
count_facts log a own on =
    let n = ltb log.noted most_count in
    let o = leb (data_in a) own in
    let b = ltb (data_in a) 256 in
    let s = leb log.stored (most_count - data_in a) in
    let p = and_both n (o && (b && s)) on in
    let q = and_both o (b && s) p.1 in
    let r = and_both b s q.1 in
    (ltb-true log.noted most_count p.0, leb-true (data_in a) own q.0, ltb-true (data_in a) 256 r.0, leb-true log.stored (most_count - data_in a) r.1)

-- a note of load data that counts fewer than it can goes on
goes_no : {log : Log} {notes₀ content₀ notes content : List ℕ} (g : Given) → Holds g log notes₀ content₀ notes content → run_goes_on log ≡ false → (g.run ≡ 0 → ⊥) → g.run < longest_run → ⊥
unfolding run_goes_on
goes_no {log} g h off some less =
    let last = run_five g.run (omega arith) in
    let n0 : log.noted ≡ 0 → ⊥ = λ z. let c = h.count ∙ length-append g.notes (run_note g.run) ∙ ap (λ (l : List ℕ). length g.notes + length l) last in omega arith in
    let on : run_goes_on log ≡ true = rw (ne_eqb log.run 0 (λ e. some (sym h.run ∙ e)), ne_eqb log.noted 0 n0, lt-ltb log.run longest_run (omega (arith, h.run))) refl in
    let z : ◌≡◌ {A = ℕ} 0 1 = cc in
    omega arith

-- one load byte
module _ {log r : Log} {b : ℕ} {notes content notes-left content-left : List ℕ} (d : Wrote log.stored (b ∷ []) content content-left) where
  -- that joins the last note
  load_joins : run_goes_on log ≡ true → r ≡ grown_by log 1 → Wrote (5 * (log.noted - 1)) (13 ∷ (log.run + 1) ∷ 0 ∷ 0 ∷ 0 ∷ []) notes notes-left
      → Adds log (rules.loaded b) notes content r notes-left content-left
  unfolding adds
  load_joins on is k g notes₀ content₀ h =
      let f = goes_facts log on in
      let j = joined_more 1 refl f.1 (omega (arith, f.2)) k d g notes₀ content₀ h in
      rw (is, lt-ltb g.run longest_run (omega (arith, h.run, f.2)), ← add-one g.run) j

  -- that has a note of its own
  own_note : (g h : Given) → notes_in h ≡ notes_in g ++ (13 ∷ 1 ∷ 0 ∷ 0 ∷ 0 ∷ []) → h.run ≡ 1 → h.content ≡ g.content ++ (b ∷ [])
      → r ≡ started_in log → Wrote (5 * log.noted) (13 ∷ 1 ∷ 0 ∷ 0 ∷ 0 ∷ []) notes notes-left
      → (notes₀ content₀ : List ℕ) → Holds g log notes₀ content₀ notes content → Holds h r notes₀ content₀ notes-left content-left
  own_note g h e one c is k notes₀ content₀ held = rw is (record {
    count = rw (e, length-append) (omega (arith, held.count));
    run = sym one;
    short = omega (arith, one);
    stored = rw (c, length-append, held.stored);
    laid = rw e (lays_more (notes_in g) (5 * log.noted) held.laid held.count k);
    laid_content = rw c (lays_more g.content log.stored held.laid_content held.stored d);
  })

  load_starts : run_goes_on log ≡ false → r ≡ started_in log
      → Wrote (5 * log.noted) (13 ∷ 1 ∷ 0 ∷ 0 ∷ 0 ∷ []) notes notes-left → Adds log (rules.loaded b) notes content r notes-left content-left
  unfolding adds
  load_starts off is k g notes₀ content₀ h = go (eqb g.run 0) refl (ltb g.run longest_run) refl
    where
      c : List ℕ
      c = g.content ++ (b ∷ [])

      go : (z : Bool) → eqb g.run 0 ≡ z → (l : Bool) → ltb g.run longest_run ≡ l
          → Holds (cond l (given g.notes (suc g.run) c) (given (notes_in g) 1 c)) r notes₀ content₀ notes-left content-left
      go z e false low = own_note g (given (notes_in g) 1 c) refl refl refl is k notes₀ content₀ h
      go true e true low =
          let z = eqb-true g.run 0 e in
          own_note g (given g.notes (suc g.run) c) (rw (z, append-nil)) (ap suc z) refl is k notes₀ content₀ h
      go false e true low = absurd (goes_no g h off (eqb-false g.run 0 e) (ltb-true g.run longest_run low))

-- load bytes at once
adds_run : (w : List ℕ) (g : Given) → g.run + length w ≤ longest_run → adds_all g (map rules.loaded w) ≡ given g.notes (g.run + length w) (g.content ++ w)
unfolding adds adds_all
adds_run [] g h = rw (add-zero, append-nil)
adds_run (b ∷ w) g h =
    let n = given g.notes (suc g.run) (g.content ++ (b ∷ [])) in
    let e : suc g.run + length w ≡ g.run + suc (length w) = omega arith in
    ap (λ (m : Given). adds_all m (map rules.loaded w)) (rw (lt-ltb g.run longest_run (omega arith)) refl)
    ∙ adds_run w n (omega arith)
    ∙ rw (e, append_assoc) refl

pub run_within : (log : Log) (raw : List ℕ) {n : ℕ} → n ≡ joins log raw → (n ≤ longest_run - log.run) × (n ≤ length raw)
run_within log raw is = rw is (run_most is_data (longest_run - log.run) raw)

-- Load bytes that joined the last note are given one by one.
pub run_holds : {log r : Log} {raw notes content notes-left content-left : List ℕ} → joinable log (length raw) ≡ true → JoinedDone log raw notes content r notes-left content-left
    → (g : Given) (notes₀ content₀ : List ℕ) → Holds g log notes₀ content₀ notes content
    → Holds (adds_all g (map rules.loaded (take (joins log raw) raw))) r notes₀ content₀ notes-left content-left
run_holds {log} {raw = raw} on d g notes₀ content₀ h =
    let f = join_facts log (length raw) on in
    let n = joins log raw in
    let m = run_within log raw refl in
    let size : length (take n raw) ≡ n = length-take-le n raw m.1 in
    let fits : log.run + n ≤ longest_run = omega (arith, m.0, f.2) in
    rw (d.grew, adds_run (take n raw) g (omega (arith, size, fits, h.run)), size) (joined_more n size f.1 fits d.note d.bytes g notes₀ content₀ h)

-- one load byte
load_added : {log r : Log} {b : ℕ} {notes content notes-left content-left : List ℕ} → LoadedDone log b notes content r notes-left content-left
    → Adds log (rules.loaded b) notes content r notes-left content-left
load_added {log} {r} {b} {notes} {content} {notes-left} {content-left} d = go (run_goes_on log) refl
  where
    go : (t : Bool) → run_goes_on log ≡ t → Adds log (rules.loaded b) notes content r notes-left content-left
    go true on = load_joins d.byte on (d.goes_on on).0 (d.goes_on on).1
    go false off = load_starts d.byte off (d.starts off).0 (d.starts off).1

note_added : {log r : Log} {w notes content notes-left content-left : List ℕ} → Noted w log notes content r notes-left content-left → length w ≡ 5
    → (g : Given) (notes₀ content₀ : List ℕ) → Holds g log notes₀ content₀ notes content → Holds (noted g w) r notes₀ content₀ notes-left content-left
note_added d five g notes₀ content₀ h = rw d.2 (noted_more d.0 d.1 five g notes₀ content₀ h)

none_added : {log r : Log} {notes content notes-left content-left : List ℕ} → Unchanged log notes content r notes-left content-left
    → (g : Given) (notes₀ content₀ : List ℕ) → Holds g log notes₀ content₀ notes content → Holds g r notes₀ content₀ notes-left content-left
none_added d g notes₀ content₀ h = rw (d.0, d.1, d.2) h

-- What a report does to counts and lent bytes that hold what was given so far: they hold it with that report.
pub logs_hold : (report : rules.Report) {log r : Log} {notes content notes-left content-left : List ℕ} → Logs report log notes content r notes-left content-left
    → Adds log report notes content r notes-left content-left
unfolding adds
logs_hold rules.need_more d = none_added d
logs_hold (rules.character b) d = note_added d refl
logs_hold (rules.reply s) d = none_added d
logs_hold (rules.escape_state on) d = note_added d refl
logs_hold (rules.event y x a) d = note_added d refl
logs_hold (rules.address t b3 b2 b1 b0) d = note_added d refl
logs_hold (rules.block h) d = block_added d
logs_hold (rules.loaded b) d = load_added d
logs_hold (rules.ended t) d = note_added d refl
logs_hold (rules.error n t) d = none_added d
logs_hold rules.restart d = none_added d
logs_hold (rules.refusal n) d = none_added d

-- what the tests say of a control block and of load data
pub block_counts : (log : Log) {a : Answer} (own : ℕ) {n : ℕ} → countable log a own ≡ true → a ≡ variant.Block n → (log.noted < most_count) × (n ≤ own) × (n < 256) × (log.stored + n ≤ most_count)
block_counts log {a} own {n} on e =
    let f = count_facts log (variant.Block n) own (subst (λ (x : Answer). countable log x own ≡ true) e on) in
    (f.0, f.1, f.2, omega (arith, f.2, f.3))

pub load_counts : (log : Log) {a : Answer} (own : ℕ) {b : ℕ} → countable log a own ≡ true → a ≡ variant.Loaded b → (log.noted < most_count) × (log.stored < most_count)
load_counts log {a} own {b} on e =
    let f = count_facts log (variant.Loaded b) own (subst (λ (x : Answer). countable log x own ≡ true) e on) in
    (f.0, omega (arith, f.3))
