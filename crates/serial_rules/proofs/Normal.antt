-- Reading then writing gives the normal bytes: a reply that was read fits its kind, and its bytes are those read, in their normal form.
use Prim.Native.Nat.{ℕ, suc, ◌+◌, ◌-◌, ◌≤◌, ◌<◌}
use mathlib.Core.Path.{◌≡◌, refl, sym, ap, subst, ◌∙◌}
use mathlib.Core.Bool.{Bool, true, false, cond, ◌||◌}
use mathlib.Core.List.{List, [], ◌∷◌, ◌++◌}
use native.Mathlib.Omega.{arith}
use lib.Dec.{eqb, ltb}
use lib.ListN.{length, take, drop, length-append, length-drop, take-append-drop}
use lib.Seq.{take_at, drop_at, get_or_at, length-take-le}
use borrow.Author.Tests.{eq-eqb, ltb-true, ltb-false, eqb-true, eqb-false}
use Rattle.serial_rules.specs.Fields.{at}
use Rattle.serial_rules.specs.Call.{return, has_return}
use Rattle.serial_rules.specs.Body.{more, done, refused, string_turn}
use Rattle.serial_rules.specs.Reply.{Kind, osrdch, oscli, osbyte_low, osbyte_high, osword, osword0, osargs, osbget, osbput, osfind_close, osfind_open, osfile, osgbpb, fixed, line, shape_of, shape_turn, longest, reply_bytes, reply_ok, flag, reply_read, normal_of}
use Rattle.serial_rules.proofs.Ends.{Ends, last, next, positive}
use Rattle.serial_rules.proofs.Replies.{second_at}

abbrev Different : Type 0
Different = ◌≡◌ {A = ℕ} 0 1

-- what a turn says of its byte
fixed_last : (k n b : ℕ) → shape_turn (fixed k) n b ≡ done → k - 1 ≤ n
unfolding shape_turn
fixed_last k n b d = go (ltb n (k - 1)) refl d
  where
    go : (t : Bool) → ltb n (k - 1) ≡ t → cond t more done ≡ done → k - 1 ≤ n
    go true e q = let z : Different = cc in absurd (omega arith)
    go false e q = ltb-false n (k - 1) e

fixed_next : (k n b : ℕ) → shape_turn (fixed k) n b ≡ more → n < k - 1
unfolding shape_turn
fixed_next k n b d = go (ltb n (k - 1)) refl d
  where
    go : (t : Bool) → ltb n (k - 1) ≡ t → cond t more done ≡ more → n < k - 1
    go true e q = ltb-true n (k - 1) e
    go false e q = let z : Different = cc in absurd (omega arith)

line_turn : (k b : ℕ) → shape_turn line (suc k) b ≡ string_turn k b
unfolding shape_turn
line_turn k b = let p : suc k - 1 ≡ k = omega arith in simp (positive k, p)

string_last : (k b : ℕ) → string_turn k b ≡ done → b ≡ return
string_last k b d = go (eqb b return) (ltb k 255) refl d
  where
    go : (t u : Bool) → eqb b return ≡ t → cond t done (cond u more (refused 6)) ≡ done → b ≡ return
    go true u e q = eqb-true b return e
    go false true e q = let z : Different = cc in absurd (omega arith)
    go false false e q = let z : Different = cc in absurd (omega arith)

string_next : (k b : ℕ) → string_turn k b ≡ more → (eqb b return ≡ false) × (k < 255)
string_next k b d = go (eqb b return) (ltb k 255) refl refl d
  where
    go : (t u : Bool) → eqb b return ≡ t → ltb k 255 ≡ u → cond t done (cond u more (refused 6)) ≡ more → (eqb b return ≡ false) × (k < 255)
    go true u e f q = let z : Different = cc in absurd (omega arith)
    go false true e f q = (e, ltb-true k 255 f)
    go false false e f q = let z : Different = cc in absurd (omega arith)

first_last : (b : ℕ) → shape_turn line 0 b ≡ done → flag b ≡ true
unfolding shape_turn
first_last b d = go (flag b) refl d
  where
    go : (t : Bool) → flag b ≡ t → cond t done more ≡ done → flag b ≡ true
    go true e q = e
    go false e q = let z : Different = cc in absurd (omega arith)

first_next : (b : ℕ) → shape_turn line 0 b ≡ more → flag b ≡ false
unfolding shape_turn
first_next b d = go (flag b) refl d
  where
    go : (t : Bool) → flag b ≡ t → cond t done more ≡ more → flag b ≡ false
    go true e q = let z : Different = cc in absurd (omega arith)
    go false e q = e

-- how many bytes a fixed reply has
fixed_length : (k : ℕ) {n : ℕ} {s : List ℕ} → n < k → Ends (fixed k) n s → n + length s ≡ k
fixed_length k h (last n b d) = omega (arith, fixed_last k n b d)
fixed_length k h (next n b s d w) = let g = fixed_next k n b d in omega (arith, fixed_length k (omega arith) w)

-- a line behind its first byte
record Text (n : ℕ) (u : List ℕ) : Type 0 where
  text : List ℕ
  joined : text ++ (return ∷ []) ≡ u
  clean : has_return text ≡ false
  short : n + length text ≤ 255

line_text : (k : ℕ) {n : ℕ} {u : List ℕ} → n ≡ suc k → k ≤ 255 → Ends line n u → Text k u
unfolding has_return
line_text k e h (last n b d) =
    let q = string_last k b (sym (line_turn k b) ∙ ap (λ (i : ℕ). shape_turn line i b) (sym e) ∙ d) in
    record { text = []; joined = ap (λ (x : ℕ). x ∷ []) (sym q); clean = refl; short = omega arith }
line_text k e h (next n b s d w) =
    let q = string_next k b (sym (line_turn k b) ∙ ap (λ (i : ℕ). shape_turn line i b) (sym e) ∙ d) in
    let t = line_text (suc k) (ap suc e) (omega (arith, q.1)) w in
    record { text = b ∷ t.text; joined = ap (λ (l : List ℕ). b ∷ l) t.joined; clean = ap (λ (x : Bool). x || has_return t.text) q.0 ∙ t.clean; short = omega (arith, t.short) }

-- The reply read from the bytes s by its kind fits it, its string is short, and its bytes are the normal ones.
pub record ReplyRewritten (k : Kind) (s : List ℕ) : Type 0 where
  pub fits : reply_ok k (reply_read k s).reply (reply_read k s).block (reply_read k s).text ≡ true
  pub short : length (reply_read k s).text ≤ 255
  pub bytes : reply_bytes (reply_read k s).reply (reply_read k s).block (reply_read k s).text ≡ normal_of k s

pub positive_of : (n : ℕ) → (n ≡ 0 → ⊥) → 0 < n
positive_of n h = go (eqb n 0) refl
  where
    go : (t : Bool) → eqb n 0 ≡ t → 0 < n
    go true e = absurd (h (eqb-true n 0 e))
    go false e = let g = eqb-false n 0 e in omega arith

-- so many bytes, one by one
one_byte : (s : List ℕ) → length s ≡ 1 → (x : ℕ) × (s ≡ x ∷ [])
one_byte [] h = absurd (omega (arith, h))
one_byte (x ∷ []) h = (x, refl)
one_byte (x ∷ y ∷ s) h = absurd (omega (arith, h))

two_bytes : (s : List ℕ) → length s ≡ 2 → (x y : ℕ) × (s ≡ x ∷ y ∷ [])
two_bytes [] h = absurd (omega (arith, h))
two_bytes (x ∷ s) h = let t = one_byte s (omega (arith, h)) in (x, t.0, ap (λ (l : List ℕ). x ∷ l) t.1)

three_bytes : (s : List ℕ) → length s ≡ 3 → (x y z : ℕ) × (s ≡ x ∷ y ∷ z ∷ [])
three_bytes [] h = absurd (omega (arith, h))
three_bytes (x ∷ s) h = let t = two_bytes s (omega (arith, h)) in (x, t.0, t.1, ap (λ (l : List ℕ). x ∷ l) t.2)

some_bytes : (n : ℕ) (s : List ℕ) → length s ≡ suc n → (x : ℕ) × (b : List ℕ) × (s ≡ x ∷ b) × (length b ≡ n)
some_bytes n [] h = absurd (omega (arith, h))
some_bytes n (x ∷ b) h = (x, b, refl, omega (arith, h))

fixed_size : (k : ℕ) {s : List ℕ} → 0 < k → Ends (fixed k) 0 s → length s ≡ k
fixed_size k h w = omega (arith, fixed_length k h w)

word_case : (n : ℕ) (s : List ℕ) → length s ≡ n → ReplyRewritten (osword n) s
unfolding reply_ok reply_read reply_bytes normal_of has_return
word_case n s h = record { fits = simp (eq-eqb (length s) n h); short = omega arith; bytes = refl }

args_case : (x : ℕ) (b : List ℕ) → length b ≡ 4 → ReplyRewritten osargs (x ∷ b)
unfolding reply_ok reply_read reply_bytes normal_of has_return
args_case x b h = record { fits = simp (eq-eqb (length b) 4 h); short = omega arith; bytes = refl }

file_case : (x : ℕ) (b : List ℕ) → length b ≡ 16 → ReplyRewritten osfile (x ∷ b)
unfolding reply_ok reply_read reply_bytes normal_of has_return
file_case x b h = record { fits = simp (eq-eqb (length b) 16 h); short = omega arith; bytes = refl }

gbpb_case : (p : List ℕ) (x y : ℕ) → length p ≡ 13 → ReplyRewritten osgbpb (p ++ (x ∷ y ∷ []))
unfolding reply_ok reply_read reply_bytes normal_of has_return
gbpb_case p x y h =
    let t = take_at p (x ∷ y ∷ []) 13 h in
    let a : at (p ++ (x ∷ y ∷ [])) 13 ≡ x = get_or_at p x (y ∷ []) 0 13 h in
    let b : at (p ++ (x ∷ y ∷ [])) 14 ≡ y = second_at p x y h in
    record {
      fits = simp (t, eq-eqb (length p) 13 h);
      short = omega arith;
      bytes = rw (t, a, b, drop_at p (x ∷ y ∷ []) 13 h);
    }

gbpb_joined : (s : List ℕ) (x y : ℕ) → length s ≡ 15 → drop 13 s ≡ x ∷ y ∷ [] → ReplyRewritten osgbpb s
gbpb_joined s x y n e =
    subst (ReplyRewritten osgbpb) (ap (λ (l : List ℕ). take 13 s ++ l) (sym e) ∙ take-append-drop 13 s) (gbpb_case (take 13 s) x y (length-take-le 13 s (omega (arith, n))))

gbpb_split : (s : List ℕ) → length s ≡ 15 → ReplyRewritten osgbpb s
gbpb_split s n = let t = two_bytes (drop 13 s) (omega (arith, n, length-drop 13 s)) in gbpb_joined s t.0 t.1 n t.2

gone_case : (x : ℕ) → flag x ≡ true → ReplyRewritten osword0 (x ∷ [])
unfolding reply_ok reply_read reply_bytes normal_of has_return
gone_case x h = record { fits = rw h; short = rw h (omega arith); bytes = rw h }

typed_case : (x : ℕ) (t : List ℕ) → flag x ≡ false → has_return t ≡ false → length t ≤ 255 → ReplyRewritten osword0 (x ∷ (t ++ (return ∷ [])))
unfolding reply_ok reply_read reply_bytes normal_of
typed_case x t h c m =
    let e : take (length (x ∷ (t ++ (return ∷ []))) - 2) (t ++ (return ∷ [])) ≡ t = take_at t (return ∷ []) (suc (length (t ++ (return ∷ []))) - 2) (omega (arith, length-append t (return ∷ []))) in
    record { fits = rw (h, e, c); short = rw (h, e) m; bytes = rw (h, e) }

pub read_then_written : (k : Kind) (s : List ℕ) → Ends (shape_of k) 0 s → (longest (shape_of k) ≡ 0 → ⊥) → ReplyRewritten k s
unfolding reply_ok reply_read reply_bytes normal_of has_return
read_then_written osrdch s w h = let t = two_bytes s (fixed_size 2 (omega arith) w) in rw t.2 record { fits = refl; short = omega arith; bytes = refl }
read_then_written oscli s w h = let t = one_byte s (fixed_size 1 (omega arith) w) in rw t.1 record { fits = refl; short = omega arith; bytes = refl }
read_then_written osbyte_low s w h = let t = one_byte s (fixed_size 1 (omega arith) w) in rw t.1 record { fits = refl; short = omega arith; bytes = refl }
read_then_written osbyte_high s w h = let t = three_bytes s (fixed_size 3 (omega arith) w) in rw t.3 record { fits = refl; short = omega arith; bytes = refl }
read_then_written (osword n) s w h = word_case n s (fixed_size n (positive_of n h) w)
read_then_written osword0 s (last n b d) h = gone_case b (first_last b d)
read_then_written osword0 s (next n b u d w) h =
    let t = line_text 0 refl (omega arith) w in
    rw (← t.joined) (typed_case b t.text (first_next b d) t.clean (omega (arith, t.short)))
read_then_written osargs s w h = let t = some_bytes 4 s (fixed_size 5 (omega arith) w) in rw t.2 (args_case t.0 t.1 t.3)
read_then_written osbget s w h = let t = two_bytes s (fixed_size 2 (omega arith) w) in rw t.2 record { fits = refl; short = omega arith; bytes = refl }
read_then_written osbput s w h = let t = one_byte s (fixed_size 1 (omega arith) w) in rw t.1 record { fits = refl; short = omega arith; bytes = refl }
read_then_written osfind_close s w h = let t = one_byte s (fixed_size 1 (omega arith) w) in rw t.1 record { fits = refl; short = omega arith; bytes = refl }
read_then_written osfind_open s w h = let t = one_byte s (fixed_size 1 (omega arith) w) in rw t.1 record { fits = refl; short = omega arith; bytes = refl }
read_then_written osfile s w h = let t = some_bytes 16 s (fixed_size 17 (omega arith) w) in rw t.2 (file_case t.0 t.1 t.3)
read_then_written osgbpb s w h = gbpb_split s (fixed_size 15 (omega arith) w)
