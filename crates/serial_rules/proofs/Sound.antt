-- A reader that started fresh: what it finishes on any stream of bytes is a request whose fields keep their rules, and writing them
-- gives the bytes that it read.
use Prim.Native.Nat.{ℕ, zero, suc, ◌≤◌}
use mathlib.Core.Path.{◌≡◌, refl, subst}
use mathlib.Core.Bool.{Bool, true, false, cond}
use mathlib.Core.List.{List, [], ◌∷◌, ◌++◌}
use native.Mathlib.Omega.{arith}
use lib.Dec.{eqb}
use lib.ListN.{get_or}
use Rattle.serial_rules.specs.Escape.{escape, Piece, pending, data_byte, mark, piece_of}
use Rattle.serial_rules.specs.Marks.{style_of, code_in}
use Rattle.serial_rules.specs.Call.{code_of, body_of, has_return, call_ok, Carrier, serial, parallel, style_ok, encoding_of}
use Rattle.serial_rules.specs.Body.{Turn, more, done, refused, body_turn}
use Rattle.serial_rules.specs.Fields.{fields_of}
use Rattle.serial_rules.specs.Reader.{Reader, stopped, outside, inside, Answer, need_more, character, request, refusal, Step, gives, piece_outside, piece_inside, starts, begun, outside_step, turned, inside_step, step}
use Rattle.serial_rules.specs.Stream.{reader_after, raw_of}
use Rattle.serial_rules.proofs.Limits.{starts_style}
use Rattle.serial_rules.proofs.Trip.{Goes, goes_append, All, all_snoc}
use Rattle.serial_rules.proofs.Finished.{RequestRewritten, rewritten}

abbrev Byte : ℕ → Type 0
Byte b = b ≤ 255

byte_at : (l : List ℕ) → All Byte l → (i : ℕ) → get_or l i 0 ≤ 255
byte_at [] a i = omega arith
byte_at (x ∷ l) a zero = a.0
byte_at (x ∷ l) a (suc i) = byte_at l a.1 i

-- inside a request every byte so far needed more
abbrev SoundReader : Carrier → Reader → Type 0
SoundReader carrier stopped = Unit
SoundReader carrier (outside e) = Unit
SoundReader carrier (inside e style code s) = (style_ok carrier style ≡ true) × Goes code [] s × All Byte s

-- a finished request keeps its rules
pub record Good (carrier : Carrier) (style code : ℕ) (body : List ℕ) : Type 0 where
  pub style_ok_lem : style_ok carrier style ≡ true
  pub fields_ok : RequestRewritten code body

abbrev Finishes : Carrier → Answer → Type 0
Finishes carrier need_more = Unit
Finishes carrier (character b) = Unit
Finishes carrier (request style code s) = Good carrier style code s
Finishes carrier (refusal n) = Unit

record Steps (carrier : Carrier) (o : Step) : Type 0 where
  answer : Finishes carrier o.answer
  next : SoundReader carrier o.next

piece_byte : (e : Bool) (x b : ℕ) → x ≤ 255 → piece_of e x ≡ data_byte b → b ≤ 255
piece_byte true x b h q = go (eqb x escape) q
  where
    go : (t : Bool) → cond t (data_byte escape) (mark x) ≡ data_byte b → b ≤ 255
    go true q = let r : escape ≡ b = cc in omega arith
    go false q = let z : ◌≡◌ {A = ℕ} 0 1 = cc in absurd (omega arith)
piece_byte false x b h q = go (eqb x escape) q
  where
    go : (t : Bool) → cond t pending (data_byte x) ≡ data_byte b → b ≤ 255
    go true q = let z : ◌≡◌ {A = ℕ} 0 1 = cc in absurd (omega arith)
    go false q = let r : x ≡ b = cc in omega arith

inside_byte : (carrier : Carrier) (e : Bool) (x b : ℕ) → x ≤ 255 → piece_inside carrier e x ≡ data_byte b → b ≤ 255
inside_byte serial e x b h q = piece_byte e x b h q
inside_byte parallel e x b h q = let r : x ≡ b = cc in omega arith

inside_stands : (carrier : Carrier) (e : Bool) (style code : ℕ) (s : List ℕ) (x : ℕ) → x ≤ 255 → SoundReader carrier (inside e style code s)
    → Steps carrier (inside_step style code s (piece_inside carrier e x))
inside_stands carrier e style code s x h st = go (piece_inside carrier e x) refl
  where
    turn : (b : ℕ) → b ≤ 255 → (t : Turn) → body_turn code s b ≡ t → Steps carrier (turned style code s b t)
    turn b m more q = record { answer = tt; next = (st.0, goes_append code [] s (b ∷ []) st.1 (q, tt), all_snoc Byte s b st.2 m) }
    turn b m done q =
        record {
          answer = record {
            style_ok_lem = st.0;
            fields_ok = rewritten code (s ++ (b ∷ [])) (byte_at (s ++ (b ∷ [])) (all_snoc Byte s b st.2 m))
                (record { init = s; last = b; joined = refl; goes = st.1; ends = q });
          };
          next = tt;
        }
    turn b m (refused n) q = record { answer = tt; next = tt }

    go : (p : Piece) → piece_inside carrier e x ≡ p → Steps carrier (inside_step style code s p)
    go pending q = record { answer = tt; next = st }
    go (data_byte b) q = turn b (inside_byte carrier e x b h q) (body_turn code s b) refl
    go (mark m) q = record { answer = tt; next = tt }

rdch_good : RequestRewritten 0 []
unfolding fields_of code_of body_of call_ok has_return
rdch_good = record { code_is = refl; body_is = refl; ok = refl; short = omega arith }

begun_stands : (carrier : Carrier) (style code : ℕ) → style_ok carrier style ≡ true → Steps carrier (begun style code)
begun_stands carrier style code s = go (eqb code 0)
  where
    go : (t : Bool) → Steps carrier (cond t (gives (request style 0 []) (outside false)) (gives need_more (inside false style code [])))
    go true = record { answer = record { style_ok_lem = s; fields_ok = rdch_good }; next = tt }
    go false = record { answer = tt; next = (s, tt, tt) }

mark_stands : (carrier : Carrier) (m : ℕ) → m ≤ 255 → Steps carrier (outside_step carrier (mark m))
mark_stands carrier m h = go (starts carrier m) refl
  where
    go : (t : Bool) → starts carrier m ≡ t → Steps carrier (cond t (begun (style_of m) (code_in m)) (gives (refusal 4) stopped))
    go true s = begun_stands carrier (style_of m) (code_in m) (starts_style carrier m h s)
    go false s = record { answer = tt; next = tt }

outside_stands : (carrier : Carrier) (e : Bool) (x : ℕ) → x ≤ 255 → Steps carrier (outside_step carrier (piece_outside carrier e x))
outside_stands parallel e x h = mark_stands parallel x h
outside_stands serial true x h = go (eqb x escape)
  where
    go : (t : Bool) → Steps serial (outside_step serial (cond t (data_byte escape) (mark x)))
    go true = record { answer = tt; next = tt }
    go false = mark_stands serial x h
outside_stands serial false x h = go (eqb x escape)
  where
    go : (t : Bool) → Steps serial (outside_step serial (cond t pending (data_byte x)))
    go true = record { answer = tt; next = tt }
    go false = record { answer = tt; next = tt }

step_stands : (carrier : Carrier) (r : Reader) (x : ℕ) → x ≤ 255 → SoundReader carrier r → Steps carrier (step carrier r x)
unfolding step
step_stands carrier stopped x h st = record { answer = tt; next = tt }
step_stands carrier (outside e) x h st = outside_stands carrier e x h
step_stands carrier (inside e style code s) x h st = inside_stands carrier e style code s x h st

stream_stands : (carrier : Carrier) (r : Reader) (l : List ℕ) → All Byte l → SoundReader carrier r → SoundReader carrier (reader_after carrier r l)
unfolding reader_after
stream_stands carrier r [] a st = st
stream_stands carrier r (x ∷ l) a st = stream_stands carrier (step carrier r x).next l a.1 (step_stands carrier r x a.0 st).next

-- Whatever bytes a fresh reader took, a request that the next byte finishes keeps its rules.
pub finished_good : (carrier : Carrier) (l : List ℕ) (x style code : ℕ) (body : List ℕ) → All Byte l → x ≤ 255
    → (step carrier (reader_after carrier (outside false) l) x).answer ≡ request style code body → Good carrier style code body
finished_good carrier l x style code body a h e =
    subst (Finishes carrier) e (step_stands carrier (reader_after carrier (outside false) l) x h (stream_stands carrier (outside false) l a tt)).answer

-- The raw bytes that a finished request stands for are the encoding of its fields.
pub raw_encoding : (carrier : Carrier) (style code : ℕ) (body : List ℕ) → RequestRewritten code body
    → raw_of carrier (request style code body) ≡ encoding_of carrier style (fields_of code body).call (fields_of code body).block (fields_of code body).text
unfolding encoding_of
raw_encoding carrier style code body w = rw (w.code_is, w.body_is)
