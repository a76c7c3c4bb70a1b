-- The two ends of `write_text`: refused with nothing written, and written whole.
use Prim.Native.Nat.{ℕ, ◌+◌, ◌*◌, ◌≤◌, ◌<◌}
use native.Mathlib.Omega.{arith}
use borrow.Author.Tests.{leb-true, le-leb}
use mathlib.Core.Bool.{Bool, true, false, cond, ◌&&◌, true≢false}
use mathlib.Core.Path.{◌≡◌, refl, ap, sym, ◌∙◌}
use mathlib.Core.List.{List, ◌++◌}
use lib.Dec.{leb}
use lib.ListN.{length, drop, get_or}
use lib.Seq.{length-take-le}
use Rattle.script_lines.specs.Text.{lines_of, end_of, text_of}
use Rattle.script_text.specs.Text.{fits, TextDone}
use Rattle.script_text.specs.Write.{put, Wrote}
use Rattle.script_lines.proofs.Room.{always_enough, text_length}

-- so `write_text` writes it into a buffer of 49165 bytes
always_fits : (results : List ℕ) (played answer : ℕ) (out : List ℕ) → played ≤ 4096 → ((i : ℕ) → get_or results i 0 < 256) → answer < 256
    → 3 * played ≤ length results → 49165 ≤ length out → fits results played answer out ≡ true
unfolding fits
always_fits results played answer out h₁ h₂ h₃ h₄ h₅ =
    let h = always_enough results played answer h₁ h₂ h₃ in
    rw (le-leb (3 * played) (length results) h₄, le-leb (length (text_of results played answer)) (length out) (omega arith))

both : (a b : Bool) → (a && b) ≡ true → (a ≡ true) × (b ≡ true)
both true b h = (refl, h)
both false b h = absurd (true≢false (sym h))

-- what the test says, either way
module _ (results : List ℕ) (played answer : ℕ) (out : List ℕ) {ok : Bool}
    (e : ok ≡ (leb (3 * played) (length results) && leb (length (text_of results played answer)) (length out))) (h : ok ≡ true) where
  pub held : 3 * played ≤ length results
  held = leb-true (3 * played) (length results) (both _ _ (sym e ∙ h)).0

  pub enough : length (lines_of played results) + length (end_of played answer) ≤ length out
  enough =
      omega (arith, text_length results played answer 0, leb-true (length (text_of results played answer)) (length out) (both (leb (3 * played) (length results)) _ (sym e ∙ h)).1)

-- what is lent are bytes
module _ (results : List ℕ) (played answer : ℕ) (out : List ℕ) (bytes : (i : ℕ) → get_or results i 0 < 256) (byte : answer < 256) where
  -- a buffer that always holds the text
  with_room : {r : ℕ} → r ≡ cond (fits results played answer out) (length (text_of results played answer)) 0
      → played ≤ 4096 → 3 * played ≤ length results → 49165 ≤ length out → r ≡ length (text_of results played answer)
  with_room e h₁ h₂ h₃ = e ∙ rw (always_fits results played answer out h₁ bytes byte h₂ h₃)

  refused : fits results played answer out ≡ false → TextDone results played answer out 0 out
  refused e =
      record { length_is = rw e; text = rw e; enough = with_room (rw e); within = omega arith; taken = refl }

  pub short : {ok : Bool} → ok ≡ (leb (3 * played) (length results) && leb (length (text_of results played answer)) (length out)) → ok ≡ false
      → TextDone results played answer out 0 out
  unfolding fits
  short e h = refused (sym e ∙ h)

  pub full : {left : List ℕ} {r : ℕ} → 3 * played ≤ length results → Wrote 0 (lines_of played results ++ end_of played answer) out left r
      → TextDone results played answer out r left
  unfolding fits text_of put
  full {left} {r} h w =
      let t : List ℕ = lines_of played results ++ end_of played answer in
      let z : 0 + length t ≡ length t = omega arith in
      let f : fits results played answer out ≡ true = rw (le-leb (3 * played) (length results) h, le-leb (length t) (length out) (omega arith)) in
      let b : r ≤ length left = omega arith in
      record {
        length_is = rw f (w.next ∙ z);
        enough = with_room (rw f (w.next ∙ z));
        text = rw f (w.text ∙ ap (λ (i : ℕ). t ++ drop i out) z);
        within = b;
        taken = sym (length-take-le r left b);
      }
