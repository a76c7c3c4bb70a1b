-- Texts written one after the other are one text.
use Prim.Native.Nat.{ℕ, ◌+◌, ◌≤◌}
use native.Mathlib.Omega.{arith}
use native.Mathlib.Nat.{add_assoc, add-zero}
use mathlib.Core.Path.{◌≡◌, refl, ap, sym, ◌∙◌}
use mathlib.Core.List.{List, [], ◌∷◌, ◌++◌, append_assoc, append-nil}
use lib.ListN.{length, take, drop, set, length-set, length-append, take-append-drop}
use lib.Seq.{take_at, drop_at, drop-drop, sets-eq, length-take-le}
use Rattle.script_text.specs.Write.{put, Wrote}

put_put : (at : ℕ) (t u l : List ℕ) → at + length t ≤ length l → put (at + length t) u (put at t l) ≡ put at (t ++ u) l
unfolding put
put_put at t u l h =
    let p : List ℕ = take at l ++ t in
    let e : length p ≡ at + length t = simp (length-append, length-take-le at l (omega arith)) in
    let d : drop (at + length t + length u) (p ++ drop (at + length t) l) ≡ drop (at + length (t ++ u)) l =
    sym (drop-drop (length u) (at + length t) (p ++ drop (at + length t) l))
    ∙ ap (drop (length u)) (drop_at p (drop (at + length t) l) (at + length t) e)
    ∙ drop-drop (length u) (at + length t) l
    ∙ simp (length-append, add_assoc) in
    rw (take_at p (drop (at + length t) l) (at + length t) e, d, append_assoc (take at l) t u)

pub wrote_then : {at : ℕ} {t l m : List ℕ} {k : ℕ} {u : List ℕ} {m' : List ℕ} {k' : ℕ}
    → Wrote at t l m k → Wrote k u m m' k' → Wrote at (t ++ u) l m' k'
wrote_then {at} {t} {l} {m} {k} {u} {m'} {k'} w v =
    record {
      next = simp length-append (omega arith);
      long = v.long ∙ w.long;
      room = omega arith;
      text = v.text ∙ rw (w.next, w.text, put_put at t u l (omega arith));
    }

pub wrote_nothing : (at : ℕ) (l : List ℕ) → at ≤ length l → Wrote at [] l l at
unfolding put
wrote_nothing at l h =
    record {
      next = sym (add-zero at);
      long = refl;
      room = h;
      text = rw (append-nil, add-zero, take-append-drop);
    }

pub wrote_byte : (at b : ℕ) (l : List ℕ) → at + 1 ≤ length l → Wrote at (b ∷ []) l (set l at b) (at + 1)
unfolding put
wrote_byte at b l h = record { next = refl; long = simp length-set; room = h; text = sets-eq (b ∷ []) l at h }
