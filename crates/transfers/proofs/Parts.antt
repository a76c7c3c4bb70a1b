-- What an action and load data leave: notes and data one after the other.
use Prim.Native.Nat.{ℕ, suc, ◌+◌, ◌-◌, ◌≤◌, ◌<◌}
use native.Mathlib.Omega.{arith}
use mathlib.Core.Path.{◌≡◌, refl, sym, ap, subst, ◌∙◌}
use mathlib.Core.Bool.{Bool, true, false}
use mathlib.Core.List.{List, [], ◌∷◌, ◌++◌, append_assoc, append-nil, map}
use lib.ListN.{length, take, drop, length-take, length-drop}
use lib.Seq.{length-take-le}
use borrow.Author.Tests.{lt-ltb, le-leb}
use Rattle.serial_rules.specs.Link as rules
use Rattle.turns.specs.Plain.{is_data, none}
use Rattle.turns.proofs.Plain.{run_all}
use Rattle.answers.specs.declared.Answer.{Answer}
use Rattle.answers.specs.declared.Answer.TheVariants as variant
use Rattle.answers.specs.Reports.{report_of}
use Rattle.notes.specs.declared.Log.{Log}
use Rattle.notes.specs.Notes.{Given, longest_run, adds, adds_all}
use Rattle.notes.specs.Logs.{Holds, data_in, most_count, countable, AddDone, joins, joinable, AddRunDone}
use Rattle.notes.proofs.Laws.{run_within, logs_hold, run_holds}
use Rattle.notes.proofs.Counts.{content_in, content_more, adds_append, notes_most}
use Rattle.transfers.specs.declared.Loads.{Loads}
use Rattle.transfers.specs.Parts.{Logged, Held, Gives, LoadDone}

-- reports given one after the other
pub gives_none : {log : Log} {n m : ℕ} {notes content : List ℕ} → n ≤ m → Gives [] log n notes content log m notes content
unfolding adds_all
gives_none le = record { adds_them = λ G a b h. record { holds = h.holds; few = omega (arith, h.few); small = omega (arith, h.small) } }

pub gives_then : {g l : List rules.Report} {log mid end : Log} {n m k : ℕ} {notes content notes-mid content-mid notes-left content-left : List ℕ}
    → Gives g log n notes content mid m notes-mid content-mid → Gives l mid m notes-mid content-mid end k notes-left content-left
    → Gives (g ++ l) log n notes content end k notes-left content-left
gives_then {g} {l} {end = end} {k = k} {notes-left = notes-left} {content-left} p q = record {
  adds_them = λ G a b h. subst (λ (x : Given). Held x end k a b notes-left content-left) (sym (adds_append G g l)) (q.adds_them (adds_all G g) a b (p.adds_them G a b h));
}

pub gives_later : {g : List rules.Report} {log end : Log} {n m k : ℕ} {notes content notes-left content-left : List ℕ} → m ≤ k
    → Gives g log n notes content end m notes-left content-left → Gives g log n notes content end k notes-left content-left
gives_later le p = record {
  adds_them = λ G a b h. let w = p.adds_them G a b h in record { holds = w.holds; few = omega (arith, w.few); small = omega (arith, w.small) };
}

-- reports logged one after the other
pub logged_then : {g h : List rules.Report} {log mid end : Log} {notes content notes-mid content-mid notes-left content-left : List ℕ}
    → Logged log notes content g mid notes-mid content-mid → Logged mid notes-mid content-mid h end notes-left content-left
    → Logged log notes content (g ++ h) end notes-left content-left
logged_then Logged.none q = q
logged_then (Logged.one a p) q = Logged.one a (logged_then p q)
logged_then {h = h} {end = end} {notes-left = notes-left} {content-left} (Logged.run {log} {mid} {raw = raw} {notes} {content} {g = g} a p) q =
    subst (λ (l : List rules.Report). Logged log notes content l end notes-left content-left) (sym (append_assoc (map rules.loaded (take (mid.run - log.run) raw)) g h))
    (Logged.run a (logged_then p q))

-- each report has one note at most
noted_most : {G : Given} {log end : Log} {a b notes content notes-left content-left : List ℕ} (l : List rules.Report) → Holds G log a b notes content
    → Holds (adds_all G l) end a b notes-left content-left → end.noted ≤ log.noted + length l
noted_most {G} l h k = omega (arith, h.count, k.count, notes_most G l)

-- the data of an answer are as many as it says, at most
content_in_lem : (a : Answer) (own : List ℕ) → length (content_in (report_of a [] own)) ≤ data_in a
content_in_lem variant.More own = omega arith
content_in_lem (variant.Character b) own = omega arith
content_in_lem (variant.Reply n) own = omega arith
content_in_lem (variant.EscapeState x) own = omega arith
content_in_lem (variant.Event y x a) own = omega arith
content_in_lem (variant.Address t b3 b2 b1 b0) own = omega arith
content_in_lem (variant.Block n) own = omega (arith, length-take n own)
content_in_lem (variant.Loaded b) own = omega arith
content_in_lem (variant.Ended save) own = omega arith
content_in_lem (variant.Error n k) own = omega arith
content_in_lem variant.Restart own = omega arith
content_in_lem (variant.Refused n) own = omega arith

-- the counts have room for an answer, since each note and each byte of data took a raw byte
counts : (log : Log) (a : Answer) (own : ℕ) → log.noted < most_count → data_in a ≤ own → data_in a < 256 → log.stored + data_in a ≤ most_count
    → countable log a own ≡ true
unfolding countable
counts log a own n o b s = simp (lt-ltb log.noted most_count n, le-leb (data_in a) own o, lt-ltb (data_in a) 256 b, le-leb log.stored (most_count - data_in a) (omega arith))

-- one answer more
module _ {log end : Log} {a : Answer} {own notes content notes-left content-left : List ℕ} (k : AddDone log a own notes content end notes-left content-left)
    (own_data : (data_in a ≤ length own) × (data_in a < 256)) where
  adds_one : {G : Given} {n : ℕ} {p q : List ℕ} → n + 1 ≤ most_count → n + data_in a ≤ most_count → Held G log n p q notes content
      → Holds (adds G (report_of a [] own)) end p q notes-left content-left
  adds_one {G} {n} {p} {q} m d h =
      logs_hold (report_of a [] own) (k.adds_it (counts log a (length own) (omega (arith, h.few)) own_data.0 own_data.1 (omega (arith, h.small))) []) G p q h.holds

  pub gives_one : {n m : ℕ} → n < m → n + data_in a ≤ m → m ≤ most_count
      → Gives (report_of a [] own ∷ []) log n notes content end m notes-left content-left
  unfolding adds_all
  gives_one {n} {m} less room most = record {
    adds_them = λ G p q h.
        let w : Holds (adds G (report_of a [] own)) end p q notes-left content-left = adds_one (omega arith) (omega arith) h in
        record {
          holds = w;
          few = omega (arith, h.few, noted_most (report_of a [] own ∷ []) h.holds w);
          small = omega (arith, h.small, h.holds.stored, w.stored, content_more G (report_of a [] own), content_in_lem a own);
        };
  }

-- a byte of load data, and those behind it that join its note
length_loaded : (l : List ℕ) → length (map rules.loaded l) ≡ length l
length_loaded [] = refl
length_loaded (b ∷ l) = ap suc (length_loaded l)

loaded_content : (G : Given) (l : List ℕ) → length (adds_all G (map rules.loaded l)).content ≡ length G.content + length l
unfolding adds_all
loaded_content G [] = omega arith
loaded_content G (b ∷ l) = omega (arith, loaded_content (adds G (rules.loaded b)) l, content_more G (rules.loaded b))

gives_loads : {log end : Log} {i : ℕ} {notes content notes-left content-left : List ℕ} (b : ℕ) (l : List ℕ)
    → ((G : Given) (n : ℕ) (p q : List ℕ) → n < i → Held G log n p q notes content → Holds (adds_all (adds G (rules.loaded b)) (map rules.loaded l)) end p q notes-left content-left)
    → (n : ℕ) → n < i → Gives (map rules.loaded (b ∷ l)) log n notes content end (i + length l) notes-left content-left
unfolding adds_all
gives_loads b l k n less = record {
  adds_them = λ G p q h.
      let w = k G n p q less h in
      record {
        holds = w;
        few = omega (arith, h.few, length_loaded l, noted_most (map rules.loaded (b ∷ l)) h.holds w);
        small = omega (arith, h.small, h.holds.stored, w.stored, loaded_content G (b ∷ l));
      };
}

abbrev loads_of : ℕ → Log → Log → Loads
loads_of i one all = record { at = i + (all.run - one.run); log = all }

-- the run of the last note never shrinks
pub run_grows : {one all : Log} {raw notes content notes-left content-left : List ℕ} → AddRunDone one raw notes content all notes-left content-left
    → one.run ≤ all.run
run_grows {one} {all} {raw} k = go (joinable one (length raw)) refl
  where
    go : (t : Bool) → joinable one (length raw) ≡ t → one.run ≤ all.run
    go true e = omega (arith, ap (λ (l : Log). l.run) (k.adds_it e).grew)
    go false e = omega (arith, ap (λ (l : Log). l.run) (k.beyond e).0)

pub loads : (s : List ℕ) (b i : ℕ) {log one all : Log} {own notes content notes-mid content-mid notes-left content-left : List ℕ} → i ≤ length s
    → length s ≤ most_count → 1 ≤ length own
    → AddDone log (variant.Loaded b) own notes content one notes-mid content-mid
    → AddRunDone one (drop i s) notes-mid content-mid all notes-left content-left
    → LoadDone s b i log notes content (loads_of i one all) notes-left content-left
unfolding adds_all
loads s b i {log} {one} {all} {own} {notes} {content} {notes-mid} {content-mid} {notes-left} {content-left} near most some k j = go (joinable one (length (drop i s))) refl
  where
    first : (G : Given) (n : ℕ) (p q : List ℕ) → n < i → Held G log n p q notes content → Holds (adds G (rules.loaded b)) one p q notes-mid content-mid
    first G n p q less h = adds_one k (some, omega arith) (omega arith) (omega arith) h

    behind : (n : ℕ) → all.run - one.run ≡ n → Logged log notes content (rules.loaded b ∷ map rules.loaded (take n (drop i s))) all notes-left content-left
    behind n e =
        subst (λ (g : List rules.Report). Logged log notes content (rules.loaded b ∷ g) all notes-left content-left)
        (append-nil (map rules.loaded (take (all.run - one.run) (drop i s))) ∙ ap (λ (m : ℕ). map rules.loaded (take m (drop i s))) e)
        (Logged.one k (Logged.run j Logged.none))

    go : (t : Bool) → joinable one (length (drop i s)) ≡ t → LoadDone s b i log notes content (loads_of i one all) notes-left content-left
    go true e =
        let d = j.adds_it e in
        let n = joins one (drop i s) in
        let within = run_within one (drop i s) refl in
        let l = take n (drop i s) in
        let size : length l ≡ n = length-take-le n (drop i s) within.1 in
        let grew : all.run - one.run ≡ n = omega (arith, ap (λ (x : Log). x.run) d.grew) in
        let place : i + (all.run - one.run) ≡ i + length l = omega (arith, size) in
        record {
          more = l;
          is = ap (λ (m : ℕ). take m (drop i s)) (sym size);
          plain = run_all is_data (longest_run - one.run) (drop i s);
          at = place;
          gives = rw place (gives_loads b l (λ G n p q less h. run_holds e d (adds G (rules.loaded b)) p q (first G n p q less h)));
          logged = behind n grew;
          near = omega (arith, place, size, within.1, length-drop i s);
        }
    go false e =
        let same = j.beyond e in
        let place : i + (all.run - one.run) ≡ i + 0 = omega (arith, ap (λ (l : Log). l.run) same.0) in
        record {
          more = [];
          is = refl;
          plain = none;
          at = place;
          gives = rw (place, same.0, same.1, same.2) (gives_loads b [] first);
          logged = behind 0 (omega (arith, ap (λ (x : Log). x.run) same.0));
          near = omega (arith, place);
        }
