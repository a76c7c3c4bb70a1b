-- Writes one after the other are one write; the escape bytes among those from a place on, and what the search for one passes.
use Prim.Native.Nat.{ℕ, suc, ◌+◌, ◌-◌, ◌≤◌, ◌<◌}
use native.Mathlib.Nat.{zero-add}
use native.Mathlib.Numerals.{add-one}
use native.Mathlib.Omega.{arith}
use mathlib.Core.Path.{◌≡◌, refl, sym, ap, ◌∙◌}
use mathlib.Core.Bool.{Bool, true, false, cond, ◌||◌, or_assoc, or-false}
use mathlib.Core.List.{List, [], ◌∷◌, ◌++◌, append_assoc, append-nil}
use borrow.Author.Tests.{lt-ltb}
use lib.Dec.{eqb, ltb}
use lib.ListN.{length, take, drop, get_or, set, length-append, length-drop, length-take, drop_of_length-le, take-append-drop}
use lib.Seq.{take_at, drop_at, drop-drop, drop-cons, set_at, take-suc, take_all}
use Rattle.serial_rules.specs.Escape.{escape, escapes}
use Rattle.serial_rules.proofs.Escape.{escaped_length, escaped_most}
use Rattle.escape.specs.Layer.{is_escape}
use Rattle.escape.specs.Put.{over, Put}

-- nothing written
pub put_none : {out : List ℕ} → Put [] out out 0
put_none = record { count = refl; bytes = refl; room = omega arith }

-- a write keeps the number of lent bytes
pub put_length : {w out left : List ℕ} {n : ℕ} → Put w out left n → length left ≡ length out
put_length p = rw (p.bytes, length-append, length-drop) (omega (arith, p.count, p.room))

-- the written bytes by another name
pub put_as : {w v out left : List ℕ} {n : ℕ} → w ≡ v → Put w out left n → Put v out left n
put_as e p = rw e at p

-- Writes compose: p at the start of `out`, which left `mid`, then w at the start of the tail `&mut mid[at..]`, which was lent and came
-- back as `back`.
pub put_tail : {p w out mid back : List ℕ} {at n : ℕ} → Put p out mid at → Put w (take (length mid - at) (drop at mid)) back n
    → Put (p ++ w) out (take at mid ++ (back ++ drop (length mid - at) (drop at mid))) (at + n)
put_tail {p} {w} {out} {mid} {back} {at} {n} a b =
    let short : length (drop at mid) ≤ length mid - at = simp length-drop (omega arith) in
    let front : take at mid ≡ p = rw a.bytes (take_at p _ at (sym a.count)) in
    let tail : drop at mid ≡ drop at out = rw a.bytes (drop_at p _ at (sym a.count) ∙ ap (λ (m : ℕ). drop m out) (sym a.count)) in
    let all : take (length mid - at) (drop at mid) ≡ drop at out = take_all _ _ short ∙ tail in
    let part : back ≡ w ++ drop (at + length w) out = b.bytes ∙ rw (all, drop-drop) in
    record {
      count = rw (length-append, ← a.count, ← b.count);
      bytes = rw (front, part, drop_of_length-le _ short, append-nil, append_assoc, length-append, ← a.count);
      room = omega (arith, a.room, simp (all, length-drop) at b.room);
    }

-- the tail has room for w where the lent bytes had room for p and w
pub tail_room : {p : List ℕ} (w : List ℕ) {out mid : List ℕ} {at : ℕ} → Put p out mid at → length p + length w ≤ length out
    → length w ≤ length (take (length mid - at) (drop at mid))
tail_room w a h = simp (length-take, length-drop) (omega (arith, a.count, put_length a))

-- one more byte, behind the first i
pub put_next : (l : List ℕ) {out left : List ℕ} {i : ℕ} → i < length l → i < length out → Put (take i l) out left i
    → Put (take (i + 1) l) out (set left i (get_or l i 0)) (i + 1)
put_next l {out} {left} {i} h room p =
    let b = get_or l i 0 in
    let e : take (i + 1) l ≡ take i l ++ (b ∷ []) = rw (add-one, take-suc l i 0 h) in
    let n : length (take i l) ≡ i = sym p.count in
    let m : length (take (i + 1) l) ≡ suc i = rw (e, length-append, n) (omega arith) in
    let first : left ≡ take i l ++ (get_or out i 0 ∷ drop (suc i) out) = p.bytes ∙ rw (n, drop-cons out i 0 room) in
    let whole : over (take (i + 1) l) out ≡ take i l ++ (b ∷ drop (suc i) out) = rw (m, e, append_assoc) in
    record {
      count = rw m (omega arith);
      bytes = ap (λ (x : List ℕ). set x i b) first ∙ set_at (take i l) _ _ b i n ∙ sym whole;
      room = omega arith;
    }

-- The escape bytes from i on.
module _ (l : List ℕ) (i : ℕ) where
  pub escapes_more : i < length l → escapes (drop i l) ≡ is_escape (get_or l i 0) + escapes (drop (i + 1) l)
  unfolding escapes
  escapes_more h = rw (add-one, drop-cons l i 0 h)

  pub escapes_none : length l ≤ i → escapes (drop i l) ≡ 0
  unfolding escapes
  escapes_none h = rw (drop_of_length-le l h)

-- the escape bytes of a piece and of the rest behind it; no more than the bytes
escapes_append : (a b : List ℕ) → escapes (a ++ b) ≡ escapes a + escapes b
unfolding escapes
escapes_append [] b = sym (zero-add (escapes b))
escapes_append (x ∷ a) b = rw (escapes_append a b) (omega arith)

pub escapes_split : (n : ℕ) (l : List ℕ) → escapes (take n l) + escapes (drop n l) ≡ escapes l
escapes_split n l = sym (escapes_append (take n l) (drop n l)) ∙ ap escapes (take-append-drop n l)

pub escapes_most : (l : List ℕ) → escapes l ≤ length l
escapes_most l = omega (arith, escaped_length l, escaped_most l)

-- Whether an escape byte stands among bytes: among the first i, which is found, or from i on.
some_more : (t : Bool) (n : ℕ) → ltb 0 (cond t 1 0 + n) ≡ (t || ltb 0 n)
some_more true n = lt-ltb 0 (1 + n) (omega arith)
some_more false n = ap (ltb 0) (zero-add n)

module _ (l : List ℕ) (i : ℕ) (found : Bool) where
  pub escape_more : {more : Bool} → i < length l → more ≡ (found || eqb (get_or l i 0) escape) → (found || ltb 0 (escapes (drop i l))) ≡ ltb 0 (escapes l)
      → (more || ltb 0 (escapes (drop (i + 1) l))) ≡ ltb 0 (escapes l)
  escape_more h e inv =
      let t = eqb (get_or l i 0) escape in
      rw e (or_assoc found t (ltb 0 (escapes (drop (i + 1) l))) ∙ (rw (escapes_more l i h, some_more t) at inv))

  pub escape_all : length l ≤ i → (found || ltb 0 (escapes (drop i l))) ≡ ltb 0 (escapes l) → found ≡ ltb 0 (escapes l)
  escape_all h inv = sym (or-false found) ∙ (rw (escapes_none l i h) at inv)

-- what counting the escape bytes needs, and looking for one
pub ruleset counting = (escapes_more, escapes_none)

pub ruleset pieces = (escapes_split, escapes_most)

pub ruleset searching = (escape_more, escape_all)
