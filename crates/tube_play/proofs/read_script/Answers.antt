-- The bytes of one more read stand behind those that came before, and are the next that the input loses.
use Rattle.std.proofs.Common.{ℕ, ◌+◌, ◌≤◌, ◌≡◌, List, ◌++◌, length, take, sym, ◌∙◌, append_assoc, arith}
use Rattle.std.proofs.Math.Seq.{take-append-add}
use Rattle.std.proofs.lemmas.List.{take-append-le, length-take, length-drop}
use Rattle.std.specs.Io.KnownBytes.{Consumes}
use Rattle.std.specs.Prelude.{Option, None, Some}
use borrow.Rule.Slice.PartMut.{put_mid, post_of, same_len_mid}
use Rattle.tube_play.proofs.read_script.Goals as goal

consumes_then : (a b c : Option (List ℕ)) (xs ys : List ℕ) → Consumes a b xs → Consumes b c ys → Consumes a c (xs ++ ys)
consumes_then None b c xs ys h k = tt
consumes_then (Some a) None c xs ys h k = absurd h
consumes_then (Some a) (Some b) None xs ys h k = absurd k
consumes_then (Some a) (Some b) (Some c) xs ys h k = rw (h, k) (sym (append_assoc xs ys c))

-- the front of a list of which the part from a on was read over
front : (a n k : ℕ) (s buf : List ℕ) → a ≤ length s → n ≤ length buf → take (a + n) (put_mid a k s buf) ≡ take a s ++ take n buf
front a n k s buf h m =
    let e : length (take a s) ≡ a = rw length-take (omega arith) in
    (rw e at (take-append-add (take a s) (buf ++ post_of a k s) n)) ∙ rw (take-append-le n buf (post_of a k s) m)

pub loop-preserved : goal.loop-preserved
loop-preserved g c =
    let l = c.loop in
    record {
      within = simp (same_len_mid l.got _ l.script c.read.new.buf c.read.auto.buf) (omega (arith, c.in-Ok.ensures.bound.0, simp (length-take, length-drop) at c.read.auto.buf));
      bytes = rw (front l.got c.in-Ok.n _ l.script c.read.new.buf l.invariant.within c.in-Ok.ensures.bound.0) (consumes_then _ _ _ _ _ l.invariant.bytes c.in-Ok.ensures.bytes.0);
    }
