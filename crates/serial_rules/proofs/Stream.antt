-- Reading then writing gives the bytes: over any stream without a refused byte the encodings of what was finished, joined, then the raw
-- bytes of the part that is open, are the bytes taken. Each step keeps this, whatever the call.
use Prim.Native.Nat.{ℕ, ◌+◌, ◌*◌, ◌/◌, ◌%◌}
use mathlib.Core.Path.{◌≡◌, refl, sym, ap, ◌∙◌}
use mathlib.Core.Bool.{Bool, true, false, cond}
use mathlib.Core.List.{List, [], ◌∷◌, ◌++◌, append_assoc, append-nil}
use native.Mathlib.Omega.{arith}
use lib.Dec.{eqb}
use borrow.Author.Tests.{eqb-true}
use Rattle.serial_rules.specs.Escape.{escape, escaped, Piece, pending, data_byte, mark, piece_of}
use Rattle.serial_rules.specs.Marks.{style_of, code_in, starts_request}
use Rattle.serial_rules.specs.Call.{Carrier, serial, parallel, carried, heading}
use Rattle.serial_rules.specs.Body.{Turn, more, done, refused, body_turn}
use Rattle.serial_rules.specs.Reader.{Reader, stopped, outside, inside, Answer, need_more, character, request, refusal, Step, gives, piece_outside, piece_inside, starts, begun, outside_step, turned, inside_step, step}
use Rattle.serial_rules.specs.Stream.{reader_after, answers, raw_of, finished, seen, opened, Accepted}
use Rattle.serial_rules.proofs.Escape.{escaped_append, escaped_one}
use Rattle.serial_rules.proofs.Limits.{code_most}

pub carried_append : (carrier : Carrier) (a b : List ℕ) → carried carrier (a ++ b) ≡ carried carrier a ++ carried carrier b
carried_append serial a b = escaped_append a b
carried_append parallel a b = refl

-- what a step takes in is what it finishes and leaves open
abbrev Kept : Carrier → List ℕ → ℕ → Step → Type 0
Kept carrier before x o = Accepted (o.answer ∷ []) → before ++ (x ∷ []) ≡ raw_of carrier o.answer ++ opened carrier o.next

-- the raw bytes of a data byte
data_raw : (carrier : Carrier) (e : Bool) (x b : ℕ) → piece_inside carrier e x ≡ data_byte b → seen e carrier ++ (x ∷ []) ≡ carried carrier (b ∷ [])
data_raw parallel true x b h = let q : x ≡ b = cc in rw q
data_raw parallel false x b h = let q : x ≡ b = cc in rw q
data_raw serial true x b h = go (eqb x escape) refl h
  where
    go : (t : Bool) → eqb x escape ≡ t → cond t (data_byte escape) (mark x) ≡ data_byte b → escape ∷ x ∷ [] ≡ escaped (b ∷ [])
    go true p q = let r : escape ≡ b = cc in rw (escaped_one b, ← r, eqb-true x escape p)
    go false p q = let z : ◌≡◌ {A = ℕ} 0 1 = cc in absurd (omega arith)
data_raw serial false x b h = go (eqb x escape) refl h
  where
    go : (t : Bool) → eqb x escape ≡ t → cond t pending (data_byte x) ≡ data_byte b → x ∷ [] ≡ escaped (b ∷ [])
    go true p q = let z : ◌≡◌ {A = ℕ} 0 1 = cc in absurd (omega arith)
    go false p q = let r : x ≡ b = cc in rw (escaped_one b, ← r, p)

pending_raw : (carrier : Carrier) (e : Bool) (x : ℕ) → piece_inside carrier e x ≡ pending → seen e carrier ++ (x ∷ []) ≡ seen true carrier
pending_raw parallel e x h = let z : ◌≡◌ {A = ℕ} 0 1 = cc in absurd (omega arith)
pending_raw serial true x h = go (eqb x escape) h
  where
    go : (t : Bool) → cond t (data_byte escape) (mark x) ≡ pending → escape ∷ x ∷ [] ≡ escape ∷ []
    go true q = let z : ◌≡◌ {A = ℕ} 0 1 = cc in absurd (omega arith)
    go false q = let z : ◌≡◌ {A = ℕ} 0 1 = cc in absurd (omega arith)
pending_raw serial false x h = go (eqb x escape) refl h
  where
    go : (t : Bool) → eqb x escape ≡ t → cond t pending (data_byte x) ≡ pending → x ∷ [] ≡ escape ∷ []
    go true p q = rw (eqb-true x escape p)
    go false p q = let z : ◌≡◌ {A = ℕ} 0 1 = cc in absurd (omega arith)

-- inside a request
module _ (carrier : Carrier) (style code : ℕ) (s : List ℕ) where
  abbrev head : List ℕ
  head = heading carrier style code

  -- a data byte behind the body so far
  behind : (e : Bool) (x b : ℕ) → piece_inside carrier e x ≡ data_byte b
      → ((head ++ carried carrier s) ++ seen e carrier) ++ (x ∷ []) ≡ head ++ carried carrier (s ++ (b ∷ []))
  behind e x b h =
      append_assoc (head ++ carried carrier s) (seen e carrier) (x ∷ [])
      ∙ ap (λ (l : List ℕ). (head ++ carried carrier s) ++ l) (data_raw carrier e x b h)
      ∙ append_assoc head (carried carrier s) (carried carrier (b ∷ []))
      ∙ ap (λ (l : List ℕ). head ++ l) (sym (carried_append carrier s (b ∷ [])))

  inside_kept : (e : Bool) (x : ℕ) → Kept carrier ((head ++ carried carrier s) ++ seen e carrier) x (inside_step style code s (piece_inside carrier e x))
  inside_kept e x = go (piece_inside carrier e x) refl
    where
      turn : (b : ℕ) → piece_inside carrier e x ≡ data_byte b → (t : Turn)
          → Kept carrier ((heading carrier style code ++ carried carrier s) ++ seen e carrier) x (turned style code s b t)
      turn b h more a = behind e x b h ∙ sym (append-nil (heading carrier style code ++ carried carrier (s ++ (b ∷ []))))
      turn b h done a = behind e x b h ∙ sym (append-nil (heading carrier style code ++ carried carrier (s ++ (b ∷ []))))
      turn b h (refused n) a = absurd a

      go : (p : Piece) → piece_inside carrier e x ≡ p
          → Kept carrier ((heading carrier style code ++ carried carrier s) ++ seen e carrier) x (inside_step style code s p)
      go pending h a =
          append_assoc (heading carrier style code ++ carried carrier s) (seen e carrier) (x ∷ [])
          ∙ ap (λ (l : List ℕ). (heading carrier style code ++ carried carrier s) ++ l) (pending_raw carrier e x h)
      go (data_byte b) h a = turn b h (body_turn code s b) a
      go (mark m) h a = absurd a

-- outside: a mark that starts a request is its heading
marked : (carrier : Carrier) (m : ℕ) → starts carrier m ≡ true → seen true carrier ++ (m ∷ []) ≡ heading carrier (style_of m) (code_in m)
unfolding starts_request
marked serial m h = let q : m ≡ m / 32 * 32 + m % 32 = omega arith in ap (λ (z : ℕ). escape ∷ z ∷ []) q
marked parallel m h =
    let n = code_most m h in
    let q : m ≡ m % 32 = omega arith in
    ap (λ (z : ℕ). z ∷ []) q

pub carried_none : (carrier : Carrier) → carried carrier [] ≡ []
unfolding escaped
carried_none serial = refl
carried_none parallel = refl

begun_kept : (carrier : Carrier) (m : ℕ) (before : List ℕ) → before ++ (m ∷ []) ≡ heading carrier (style_of m) (code_in m)
    → Kept carrier before m (begun (style_of m) (code_in m))
begun_kept carrier m before h = go (eqb (code_in m) 0) refl
  where
    go : (t : Bool) → eqb (code_in m) 0 ≡ t → Kept carrier before m (cond t (gives (request (style_of m) 0 []) (outside false)) (gives need_more (inside false (style_of m) (code_in m) [])))
    go true e a =
        h ∙ ap (heading carrier (style_of m)) (eqb-true (code_in m) 0 e)
        ∙ sym (append-nil (heading carrier (style_of m) 0 ++ carried carrier []) ∙ ap (λ (l : List ℕ). heading carrier (style_of m) 0 ++ l) (carried_none carrier) ∙ append-nil (heading carrier (style_of m) 0))
    go false e a =
        h
        ∙ sym (append-nil (heading carrier (style_of m) (code_in m) ++ carried carrier []) ∙ ap (λ (l : List ℕ). heading carrier (style_of m) (code_in m) ++ l) (carried_none carrier) ∙ append-nil (heading carrier (style_of m) (code_in m)))

mark_kept : (carrier : Carrier) (m : ℕ) (before : List ℕ) → before ≡ seen true carrier → Kept carrier before m (outside_step carrier (mark m))
mark_kept carrier m before e = go (starts carrier m) refl
  where
    go : (t : Bool) → starts carrier m ≡ t → Kept carrier before m (cond t (begun (style_of m) (code_in m)) (gives (refusal 4) stopped))
    go true h a = begun_kept carrier m before (rw e (marked carrier m h)) a
    go false h a = absurd a

-- a mark comes after an escape
mark_after : (e : Bool) (x m : ℕ) → piece_of e x ≡ mark m → Kept serial (seen e serial) x (outside_step serial (mark m))
mark_after true x m h = go (eqb x escape) h
  where
    go : (t : Bool) → cond t (data_byte escape) (mark x) ≡ mark m → Kept serial (escape ∷ []) x (outside_step serial (mark m))
    go true q = let z : ◌≡◌ {A = ℕ} 0 1 = cc in absurd (omega arith)
    go false q = let r : x ≡ m = cc in rw r (mark_kept serial m (escape ∷ []) refl)
mark_after false x m h = go (eqb x escape) h
  where
    go : (t : Bool) → cond t pending (data_byte x) ≡ mark m → Kept serial [] x (outside_step serial (mark m))
    go true q = let z : ◌≡◌ {A = ℕ} 0 1 = cc in absurd (omega arith)
    go false q = let z : ◌≡◌ {A = ℕ} 0 1 = cc in absurd (omega arith)

outside_kept : (carrier : Carrier) (e : Bool) (x : ℕ) → Kept carrier (seen e carrier) x (outside_step carrier (piece_outside carrier e x))
outside_kept parallel true x = mark_kept parallel x [] refl
outside_kept parallel false x = mark_kept parallel x [] refl
outside_kept serial e x = go (piece_of e x) refl
  where
    go : (p : Piece) → piece_of e x ≡ p → Kept serial (seen e serial) x (outside_step serial p)
    go pending h a = pending_raw serial e x h
    go (data_byte b) h a = data_raw serial e x b h ∙ sym (append-nil (escaped (b ∷ [])))
    go (mark m) h a = mark_after e x m h a

step_kept : (carrier : Carrier) (r : Reader) (x : ℕ) → Kept carrier (opened carrier r) x (step carrier r x)
unfolding step
step_kept carrier stopped x a = absurd a
step_kept carrier (outside e) x a = outside_kept carrier e x a
step_kept carrier (inside e style code s) x a = inside_kept carrier style code s e x a

accepted_first : (a : Answer) (l : List Answer) → Accepted (a ∷ l) → Accepted (a ∷ [])
accepted_first need_more l h = tt
accepted_first (character b) l h = tt
accepted_first (request style code s) l h = tt
accepted_first (refusal n) l h = h

accepted_rest : (a : Answer) (l : List Answer) → Accepted (a ∷ l) → Accepted l
accepted_rest need_more l h = h
accepted_rest (character b) l h = h
accepted_rest (request style code s) l h = h
accepted_rest (refusal n) l h = absurd h

pub stream_kept : (carrier : Carrier) (r : Reader) (l : List ℕ) → Accepted (answers carrier r l)
    → opened carrier r ++ l ≡ finished carrier (answers carrier r l) ++ opened carrier (reader_after carrier r l)
unfolding answers finished reader_after
stream_kept carrier r [] h = append-nil (opened carrier r)
stream_kept carrier r (x ∷ l) h =
    let o = step carrier r x in
    let rest = answers carrier o.next l in
    let q = stream_kept carrier o.next l (accepted_rest o.answer rest h) in
    sym (append_assoc (opened carrier r) (x ∷ []) l)
    ∙ ap (λ (z : List ℕ). z ++ l) (step_kept carrier r x (accepted_first o.answer rest h))
    ∙ append_assoc (raw_of carrier o.answer) (opened carrier o.next) l
    ∙ ap (λ (z : List ℕ). raw_of carrier o.answer ++ z) q
    ∙ sym (append_assoc (raw_of carrier o.answer) (finished carrier rest) (opened carrier (reader_after carrier o.next l)))
