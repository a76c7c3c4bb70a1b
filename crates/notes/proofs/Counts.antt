-- How much is noted of reports: at most a note of five bytes for each, and data for load bytes and control blocks only.
use Prim.Native.Nat.{ℕ, zero, suc, ◌+◌, ◌*◌, ◌≤◌}
use native.Mathlib.Omega.{arith}
use mathlib.Core.Path.{◌≡◌, refl, sym, ap, ◌∙◌}
use mathlib.Core.Bool.{Bool, true, false, cond}
use mathlib.Core.List.{List, [], ◌∷◌, ◌++◌, append-nil}
use lib.Dec.{ltb}
use lib.ListN.{length, replicate, length-append}
use Rattle.serial_rules.specs.Link.{Report, need_more, character, reply, escape_state, event, address, block, loaded, ended, error, restart, refusal}
use Rattle.answers.specs.Reports.{answer_for}
use Rattle.notes.specs.Notes.{Given, given, run_note, notes_in, noted, longest_run, adds, adds_all}
use Rattle.notes.specs.Logs.{data_in}
use Rattle.notes.proofs.Laws.{run_length}

-- the data of a report
abbrev pub content_in : Report → List ℕ
content_in need_more = []
content_in (character b) = []
content_in (reply s) = []
content_in (escape_state on) = []
content_in (event y x a) = []
content_in (address t b3 b2 b1 b0) = []
content_in (block h) = h
content_in (loaded b) = b ∷ []
content_in (ended t) = []
content_in (error n t) = []
content_in restart = []
content_in (refusal n) = []

pub data_counted : (r : Report) → data_in (answer_for r) ≡ length (content_in r)
data_counted need_more = refl
data_counted (character b) = refl
data_counted (reply s) = refl
data_counted (escape_state on) = refl
data_counted (event y x a) = refl
data_counted (address t b3 b2 b1 b0) = refl
data_counted (block h) = refl
data_counted (loaded b) = refl
data_counted (ended t) = refl
data_counted (error n t) = refl
data_counted restart = refl
data_counted (refusal n) = refl

adds_content : (g : Given) (r : Report) → (adds g r).content ≡ g.content ++ content_in r
unfolding adds
adds_content g need_more = sym (append-nil g.content)
adds_content g (character b) = sym (append-nil g.content)
adds_content g (reply s) = sym (append-nil g.content)
adds_content g (escape_state on) = sym (append-nil g.content)
adds_content g (event y x a) = sym (append-nil g.content)
adds_content g (address t b3 b2 b1 b0) = sym (append-nil g.content)
adds_content g (block h) = refl
adds_content g (loaded b) = go (ltb g.run longest_run)
  where
    go : (t : Bool) → (cond t (given g.notes (suc g.run) (g.content ++ (b ∷ []))) (given (notes_in g) 1 (g.content ++ (b ∷ [])))).content ≡ g.content ++ (b ∷ [])
    go true = refl
    go false = refl
adds_content g (ended t) = sym (append-nil g.content)
adds_content g (error n t) = sym (append-nil g.content)
adds_content g restart = sym (append-nil g.content)
adds_content g (refusal n) = sym (append-nil g.content)

pub content_more : (g : Given) (r : Report) → length (adds g r).content ≡ length g.content + length (content_in r)
content_more g r = ap length (adds_content g r) ∙ length-append g.content (content_in r)

noted_five : (g : Given) (a b c d e : ℕ) → length (notes_in (noted g (a ∷ b ∷ c ∷ d ∷ e ∷ []))) ≤ length (notes_in g) + 5
noted_five g a b c d e = rw (append-nil, length-append) (omega arith)

notes_more : (g : Given) (r : Report) → length (notes_in (adds g r)) ≤ length (notes_in g) + 5
unfolding adds
notes_more g need_more = omega arith
notes_more g (character b) = noted_five g 1 b 0 0 0
notes_more g (reply s) = omega arith
notes_more g (escape_state on) = noted_five g 2 (cond on 1 0) 0 0 0
notes_more g (event y x a) = noted_five g 3 y x a 0
notes_more g (address t b3 b2 b1 b0) = noted_five g _ b3 b2 b1 b0
notes_more g (block h) = noted_five g 9 (length h) 0 0 0
notes_more g (loaded b) = go (ltb g.run longest_run)
  where
    go : (t : Bool) → length (notes_in (cond t (given g.notes (suc g.run) (g.content ++ (b ∷ []))) (given (notes_in g) 1 (g.content ++ (b ∷ []))))) ≤ length (notes_in g) + 5
    go true = rw (length-append, length-append) (omega (arith, run_length (suc g.run)))
    go false = rw (length-append (notes_in g) (run_note 1)) (omega arith)
notes_more g (ended t) = noted_five g 14 _ 0 0 0
notes_more g (error n t) = omega arith
notes_more g restart = omega arith
notes_more g (refusal n) = omega arith

-- one report more behind others, and others behind them
pub adds_append : (g : Given) (l m : List Report) → adds_all g (l ++ m) ≡ adds_all (adds_all g l) m
unfolding adds_all
adds_append g [] m = refl
adds_append g (r ∷ l) m = adds_append (adds g r) l m

pub adds_snoc : (g : Given) (l : List Report) (r : Report) → adds_all g (l ++ (r ∷ [])) ≡ adds (adds_all g l) r
unfolding adds_all
adds_snoc g l r = adds_append g l (r ∷ [])

pub notes_most : (g : Given) (l : List Report) → length (notes_in (adds_all g l)) ≤ length (notes_in g) + 5 * length l
unfolding adds_all
notes_most g [] = omega arith
notes_most g (r ∷ l) = omega (arith, notes_most (adds g r) l, notes_more g r)

-- what changes nothing is not noted
pub adds_quiet : (g : Given) (l : List Report) (n : ℕ) → adds_all g (l ++ replicate n need_more) ≡ adds_all g l
unfolding adds_all adds
adds_quiet g [] zero = refl
adds_quiet g [] (suc n) = adds_quiet g [] n
adds_quiet g (r ∷ l) n = adds_quiet (adds g r) l n
