-- Laws of the field writers: data bytes without an escape byte, the raw bytes of the rest by its first part, and what the writer promises.
use Prim.Native.Nat.{ℕ, suc, ◌+◌, ◌≤◌, ◌<◌}
use native.Mathlib.Numerals.{add-one}
use native.Mathlib.Omega.{arith}
use mathlib.Core.Path.{◌≡◌, refl, sym, ap, ◌∙◌}
use mathlib.Core.Bool.{Bool, true, false, cond}
use mathlib.Core.List.{List, [], ◌∷◌, ◌++◌}
use borrow.Author.Tests.{lt-ltb, le-ltb, ltb-false}
use lib.Dec.{eqb, ltb}
use lib.ListN.{length, take, drop, get_or, drop_of_length-le, take-append-drop}
use lib.Seq.{drop-cons}
use Rattle.std.specs.Prelude.{Ok, Err}
use Rattle.std.specs.Borrow.{Bor}
use Rattle.serial_rules.specs.Escape.{escape, escaped, escapes}
use Rattle.serial_rules.proofs.Escape.{escaped_append}
use Rattle.carrier.specs.declared.Carrier.{Carrier}
use Rattle.escape.specs.Put.{Put}
use Rattle.refusal.specs.declared.Refusal.TheVariants.{NoRoom}
use Rattle.room.specs.Carriers.{coded, joined}
use Rattle.room.proofs.Coded.{coded_append, coded_nothing}
use Rattle.fields.specs.Promise.{Encoded}

-- Data bytes without an escape byte stand as they are.
plain_more : (x : ℕ) (l : List ℕ) (t : Bool) → (escapes l ≡ 0 → escaped l ≡ l) → cond t 1 0 + escapes l ≡ 0
    → cond t (escape ∷ escape ∷ []) (x ∷ []) ++ escaped l ≡ x ∷ l
plain_more x l true rest h = absurd (omega (arith, h))
plain_more x l false rest h = ap (λ (s : List ℕ). x ∷ s) (rest (omega (arith, h)))

pub all_plain : (l : List ℕ) → escapes l ≡ 0 → escaped l ≡ l
unfolding escaped escapes
all_plain [] h = refl
all_plain (x ∷ l) h = plain_more x l (eqb x escape) (all_plain l) h

pub none_plain : (l : List ℕ) → false ≡ ltb 0 (escapes l) → escaped l ≡ l
none_plain l e = all_plain l (omega (arith, ltb-false 0 (escapes l) (sym e)))

-- The raw bytes of the rest: those of its first part, and of what is behind it.
pub escaped_piece : (rest piece behind : List ℕ) → rest ≡ piece ++ behind → escaped rest ≡ escaped piece ++ escaped behind
escaped_piece rest piece behind e = ap escaped e ∙ escaped_append piece behind

pub escaped_split : (n : ℕ) (rest : List ℕ) {piece behind : List ℕ} → piece ≡ take n rest → behind ≡ drop n rest → escaped rest ≡ escaped piece ++ escaped behind
escaped_split n rest {piece} {behind} p q = escaped_piece rest piece behind (rw (p, q) (sym (take-append-drop n rest)))

module _ (l : List ℕ) (i : ℕ) where
  pub escaped_next : i < length l → escaped (drop i l) ≡ escaped (get_or l i 0 ∷ []) ++ escaped (drop (i + 1) l)
  escaped_next h = escaped_piece (drop i l) (get_or l i 0 ∷ []) (drop (i + 1) l) (rw (add-one, drop-cons l i 0 h))

  pub escaped_end : length l ≤ i → escaped (drop i l) ≡ []
  unfolding escaped
  escaped_end h = ap escaped (drop_of_length-le l h)

module _ (carrier : Carrier) (fs : List (Bor (List ℕ))) (i : ℕ) where
  pub fields_next : (d : Bor (List ℕ)) → i < length fs
      → coded carrier (joined (drop i fs)) ≡ coded carrier (get_or fs i d).now ++ coded carrier (joined (drop (i + 1) fs))
  fields_next d h = rw (add-one, drop-cons fs i d h) (coded_append carrier (get_or fs i d).now (joined (drop (suc i) fs)))

  pub fields_end : length fs ≤ i → coded carrier (joined (drop i fs)) ≡ []
  fields_end h = rw (drop_of_length-le fs h) (coded_nothing carrier)

-- What a writer promises of a write and of a refusal.
module _ {w out : List ℕ} where
  pub encoded_done : {left : List ℕ} {n : ℕ} → Put w out left n → Encoded w out (Ok n) left
  encoded_done p = let e = le-ltb (length out) (length w) (omega (arith, p.count, p.room)) in record { answer = rw e; written = rw e p.count; bytes = rw e p.bytes }

  pub encoded_none : length out < length w → Encoded w out (Err NoRoom) out
  encoded_none h = let e = lt-ltb (length out) (length w) h in record { answer = rw e; written = rw e; bytes = rw e }
