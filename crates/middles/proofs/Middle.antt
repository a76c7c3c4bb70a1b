-- Plain bytes in the middle of a field need more: one law for each kind of field.
use Prim.Native.Nat.{ℕ, suc, ◌+◌, ◌-◌, ◌≤◌, ◌<◌}
use native.Mathlib.Omega.{arith}
use mathlib.Core.Path.{◌≡◌, refl, ap, ◌∙◌}
use mathlib.Core.Bool.{Bool, true, false, cond}
use mathlib.Core.List.{List, [], ◌∷◌, ◌++◌, append_assoc, append-nil}
use lib.Dec.{eqb, ltb}
use lib.ListN.{length, get_or, drop, length-append, get_or-append}
use lib.Seq.{drop-append-le, get_or-append_seam}
use borrow.Author.Tests.{lt-ltb, le-ltb, ltb-true, ltb-false, ne_eqb, eqb-true, eqb-false}
use Rattle.serial_rules.specs.Call.{return}
use Rattle.serial_rules.specs.Body.{more, done, string_turn, fixed_turn, word_turn, find_turn, name_turn, ended, body_turn, longest_body}
use Rattle.turns.specs.Plain.{plain, Plains, none, one}
use Rattle.turns.proofs.Plain.{no_return}
use Rattle.middles.specs.Ahead.{word_ahead, find_ahead, file_ahead, ahead_in}
use Rattle.bodies.proofs.Bytes.{ended_last}

-- the rules of OSWORD's and OSFIND's bodies behind their first bytes
word_rest : (s : List ℕ) (b : ℕ) → 2 ≤ length s → word_turn s b ≡ fixed_turn (length s - 2) (get_or s 1 0)
word_rest [] b e = absurd (omega arith)
word_rest (a ∷ []) b e = absurd (omega arith)
word_rest (a ∷ k ∷ s) b e = ap (λ (n : ℕ). fixed_turn n k) (omega arith)

find_rest : (s : List ℕ) (b : ℕ) → 1 ≤ length s → find_turn s b ≡ cond (eqb (get_or s 0 0) 0) done (string_turn (length s - 1) b)
find_rest [] b e = absurd (omega arith)
find_rest (a ∷ s) b e =
    let h : length s ≡ suc (length s) - 1 = omega arith in
    ap (λ (n : ℕ). cond (eqb a 0) done (string_turn n b)) h

-- Behind the bytes s of a body of this code n more plain bytes need more, and leave the count below the code's longest body; where there are
-- some, it is below that already.
pub record AheadDone (code : ℕ) (s : List ℕ) (n : ℕ) : Type 0 where
  pub below : 0 < n → length s < longest_body code
  pub fits : length s < longest_body code → length s + n < longest_body code
  pub needs : (xs : List ℕ) (b : ℕ) → Plains xs → plain b ≡ true → length xs < n → body_turn code (s ++ xs) b ≡ more

-- no byte at all
ahead_none : (code : ℕ) (s : List ℕ) {n : ℕ} → n ≡ 0 → AheadDone code s n
ahead_none code s e = record { below = λ h. absurd (omega arith); fits = λ h. omega arith; needs = λ xs b ps p h. absurd (omega arith) }

-- a turn of a fixed number of bytes, and one of a string, for which there is room
fixed_goes : (n last : ℕ) → n < last → fixed_turn n last ≡ more
fixed_goes n last h = rw (lt-ltb n last h)

string_goes : (n b : ℕ) → n < 255 → plain b ≡ true → string_turn n b ≡ more
string_goes n b h p = rw (no_return b p, lt-ltb n 255 h)

name_goes : (n b : ℕ) → n < 255 → plain b ≡ true → name_turn n b ≡ more
name_goes n b h p = rw (no_return b p, lt-ltb n 255 h)

-- so many bytes
module _ (code last : ℕ) (turns : (s : List ℕ) (b : ℕ) → body_turn code s b ≡ fixed_turn (length s) last) (longest : longest_body code ≡ last + 1) where
  ahead_fixed : (s : List ℕ) {n : ℕ} → n ≡ last - length s → AheadDone code s n
  ahead_fixed s {n} e = record {
    below = λ h. rw longest (omega arith);
    fits = λ h. rw longest (omega (arith, rw longest at h));
    needs = λ xs b ps p h. let k = length-append s xs in turns (s ++ xs) b ∙ fixed_goes (length (s ++ xs)) last (omega arith);
  }

ahead_0A : (s : List ℕ) {n : ℕ} → n ≡ 4 - length s → AheadDone 0x0A s n
unfolding body_turn longest_body
ahead_0A = ahead_fixed 0x0A 4 (λ s b. refl) refl

ahead_0C : (s : List ℕ) {n : ℕ} → n ≡ 5 - length s → AheadDone 0x0C s n
unfolding body_turn longest_body
ahead_0C = ahead_fixed 0x0C 5 (λ s b. refl) refl

ahead_16 : (s : List ℕ) {n : ℕ} → n ≡ 13 - length s → AheadDone 0x16 s n
unfolding body_turn longest_body
ahead_16 = ahead_fixed 0x16 13 (λ s b. refl) refl

-- a string that is the whole body
ahead_02 : (s : List ℕ) {n : ℕ} → n ≡ 255 - length s → AheadDone 0x02 s n
unfolding body_turn longest_body
ahead_02 s {n} e = record {
  below = λ h. omega arith;
  fits = λ h. omega arith;
  needs = λ xs b ps p h. let k = length-append s xs in string_goes (length (s ++ xs)) b (omega arith) p;
}

-- OSWORD's block
ahead_08 : (s : List ℕ) {n : ℕ} → 2 ≤ length s → get_or s 1 0 < 256 → n ≡ get_or s 1 0 - (length s - 2) → AheadDone 0x08 s n
unfolding body_turn longest_body
ahead_08 s {n} two byte e = record {
  below = λ h. omega arith;
  fits = λ h. omega arith;
  needs = λ xs b ps p h.
      let k = length-append s xs in
      let same = get_or-append s xs 0 1 (omega arith) in
      word_rest (s ++ xs) b (omega arith) ∙ fixed_goes (length (s ++ xs) - 2) (get_or (s ++ xs) 1 0) (omega arith);
}

-- the string of an OSFIND that opens
ahead_12 : (s : List ℕ) {n : ℕ} → 1 ≤ length s → (get_or s 0 0 ≡ 0 → ⊥) → n ≡ 256 - length s → AheadDone 0x12 s n
unfolding body_turn longest_body
ahead_12 s {n} some opens e = record {
  below = λ h. omega arith;
  fits = λ h. omega arith;
  needs = λ xs b ps p h.
      let k = length-append s xs in
      let same = get_or-append s xs 0 0 (omega arith) in
      find_rest (s ++ xs) b (omega arith) ∙ rw (same, ne_eqb (get_or s 0 0) 0 opens) (string_goes (length (s ++ xs) - 1) b (omega arith) p);
}

-- OSFILE's block
ahead_block : (s : List ℕ) {n : ℕ} → n ≡ 16 - length s → length s < 16 → AheadDone 0x14 s n
unfolding body_turn longest_body
ahead_block s {n} e short = record {
  below = λ h. omega arith;
  fits = λ h. omega arith;
  needs = λ xs b ps p h. let k = length-append s xs in rw (lt-ltb (length (s ++ xs)) 16 (omega arith));
}

-- OSFILE's name: plain bytes do not end it
ended_snoc : (l : List ℕ) (b : ℕ) → ended (l ++ (b ∷ [])) ≡ eqb b return
ended_snoc l b =
    let k = length-append l (b ∷ []) in
    let last : length (l ++ (b ∷ [])) - 1 ≡ length l = omega arith in
    ended_last (l ++ (b ∷ [])) (omega arith) ∙ rw (last, get_or-append_seam l b [] 0)

not_ended : (l xs : List ℕ) → Plains xs → ended l ≡ false → ended (l ++ xs) ≡ false
not_ended l [] none h = rw (append-nil l) h
not_ended l (x ∷ xs) (one p ps) h = rw append_assoc at (not_ended (l ++ (x ∷ [])) xs ps (ended_snoc l x ∙ no_return x p))

ahead_name : (s : List ℕ) {n : ℕ} → n ≡ 271 - length s → 16 ≤ length s → ended (drop 16 s) ≡ false → AheadDone 0x14 s n
unfolding body_turn longest_body
ahead_name s {n} e long goes = record {
  below = λ h. omega arith;
  fits = λ h. omega arith;
  needs = λ xs b ps p h.
      let k = length-append s xs in
      rw (le-ltb (length (s ++ xs)) 16 (omega arith), drop-append-le 16 s xs long, not_ended (drop 16 s) xs ps goes)
      (name_goes (length (s ++ xs) - 16) b (omega arith) p);
}

-- what holds on both sides holds of the choice
pick : {code : ℕ} {s : List ℕ} (t : Bool) {m n : ℕ} → (t ≡ true → AheadDone code s m) → (t ≡ false → AheadDone code s n) → AheadDone code s (cond t m n)
pick true f g = f refl
pick false f g = g refl

word_holds : (s : List ℕ) → (2 ≤ length s → get_or s 1 0 < 256) → AheadDone 0x08 s (word_ahead s)
word_holds s byte =
    pick (ltb (length s) 2) (λ _. ahead_none 0x08 s refl)
    (λ e. let two = ltb-false (length s) 2 e in ahead_08 s two (byte two) refl)

find_holds : (s : List ℕ) → AheadDone 0x12 s (find_ahead s)
find_holds s =
    pick (eqb (length s) 0) (λ _. ahead_none 0x12 s refl)
    (λ e. pick (eqb (get_or s 0 0) 0) (λ _. ahead_none 0x12 s refl)
    (λ f. let some = eqb-false (length s) 0 e in ahead_12 s (omega arith) (eqb-false (get_or s 0 0) 0 f) refl))

file_holds : (s : List ℕ) → AheadDone 0x14 s (file_ahead s)
file_holds s =
    pick (ltb (length s) 16) (λ e. ahead_block s refl (ltb-true (length s) 16 e))
    (λ e. pick (ended (drop 16 s)) (λ _. ahead_none 0x14 s refl) (λ f. ahead_name s refl (ltb-false (length s) 16 e) f))

-- the bytes ahead need more, whatever the code
pub ahead_holds : (code : ℕ) (s : List ℕ) → (2 ≤ length s → get_or s 1 0 < 256) → AheadDone code s (ahead_in code s)
unfolding ahead_in
ahead_holds code s byte =
    pick (eqb code 0x02) (λ e. rw (eqb-true code 0x02 e) (ahead_02 s refl))
    (λ _. pick (eqb code 0x08) (λ e. rw (eqb-true code 0x08 e) (word_holds s byte))
    (λ _. pick (eqb code 0x0A) (λ e. rw (eqb-true code 0x0A e) (ahead_0A s refl))
    (λ _. pick (eqb code 0x0C) (λ e. rw (eqb-true code 0x0C e) (ahead_0C s refl))
    (λ _. pick (eqb code 0x12) (λ e. rw (eqb-true code 0x12 e) (find_holds s))
    (λ _. pick (eqb code 0x14) (λ e. rw (eqb-true code 0x14 e) (file_holds s))
    (λ _. pick (eqb code 0x16) (λ e. rw (eqb-true code 0x16 e) (ahead_16 s refl))
    (λ _. ahead_none code s refl)))))))
