-- What a reader of many bytes passed over, as notes of five bytes and as data: nothing reported is lost. The first byte of a note is its kind, and its
-- values follow: 1 a character, 2 the Escape state, 3 an event, 4 an address, 9 a control block with its length, 10 execute, 11 a load, 12 a save, 13 load
-- data with its number of bytes, 14 the end of a load (0) or of a save (1). Load data and the bytes of control blocks are the data.
use Rattle.std.specs.Prelude.{ℕ, suc, cond, List, [], ◌∷◌, ◌++◌, eqb, ltb, length}
use Rattle.serial_rules.specs.Link.{load, save, Transfer, Target, setting, executing, opening, Report, need_more, character, reply, escape_state, event, address, block, loaded, ended, error, restart, refusal}

-- the notes before the last one, where this is of load data, and how many bytes it has; and the data
pub record Given : Type 0 where
  pub notes : List ℕ
  pub run : ℕ
  pub content : List ℕ

abbrev pub given : List ℕ → ℕ → List ℕ → Given
given w n d = record { notes = w; run = n; content = d }

abbrev pub nothing : Given
nothing = given [] 0 []

-- the note of load data; none where there is none
abbrev pub run_note : ℕ → List ℕ
run_note n = cond (eqb n 0) [] (13 ∷ n ∷ 0 ∷ 0 ∷ 0 ∷ [])

-- all notes
abbrev pub notes_in : Given → List ℕ
notes_in g = g.notes ++ run_note g.run

-- one more note
abbrev pub noted : Given → List ℕ → Given
noted g w = given (notes_in g ++ w) 0 g.content

-- the most load bytes of a note
abbrev pub longest_run : ℕ
longest_run = 255

abbrev pub address_kind : Target → ℕ
address_kind setting = 4
address_kind executing = 10
address_kind (opening load) = 11
address_kind (opening save) = 12

abbrev pub transfer_number : Transfer → ℕ
transfer_number load = 0
transfer_number save = 1

-- the note of a report, but of load data, which shares one; and none of what is not passed over
abbrev pub note_of : Report → List ℕ
note_of need_more = []
note_of (character b) = 1 ∷ b ∷ 0 ∷ 0 ∷ 0 ∷ []
note_of (reply s) = []
note_of (escape_state on) = 2 ∷ cond on 1 0 ∷ 0 ∷ 0 ∷ 0 ∷ []
note_of (event y x a) = 3 ∷ y ∷ x ∷ a ∷ 0 ∷ []
note_of (address t b3 b2 b1 b0) = address_kind t ∷ b3 ∷ b2 ∷ b1 ∷ b0 ∷ []
note_of (block h) = 9 ∷ length h ∷ 0 ∷ 0 ∷ 0 ∷ []
note_of (loaded b) = []
note_of (ended t) = 14 ∷ transfer_number t ∷ 0 ∷ 0 ∷ 0 ∷ []
note_of (error n t) = []
note_of restart = []
note_of (refusal n) = []

-- One more report. Load bytes with nothing else reported between them are one note, 255 of them at most.
unfoldable pub adds : Given → Report → Given
adds g need_more = g
adds g (character b) = noted g (note_of (character b))
adds g (reply s) = g
adds g (escape_state on) = noted g (note_of (escape_state on))
adds g (event y x a) = noted g (note_of (event y x a))
adds g (address t b3 b2 b1 b0) = noted g (note_of (address t b3 b2 b1 b0))
adds g (block h) = given (notes_in g ++ note_of (block h)) 0 (g.content ++ h)
adds g (loaded b) = cond (ltb g.run longest_run) (given g.notes (suc g.run) (g.content ++ (b ∷ []))) (given (notes_in g) 1 (g.content ++ (b ∷ [])))
adds g (ended t) = noted g (note_of (ended t))
adds g (error n t) = g
adds g restart = g
adds g (refusal n) = g

unfoldable pub adds_all : Given → List Report → Given
adds_all g [] = g
adds_all g (r ∷ l) = adds_all (adds g r) l

-- the notes and the data of reports
abbrev pub notes_of : List Report → List ℕ
notes_of l = notes_in (adds_all nothing l)

abbrev pub data_of : List Report → List ℕ
data_of l = (adds_all nothing l).content
