-- Reading then writing: a request that the reader finished has fields that keep their rules, and their body is the body read.
use Prim.Native.Nat.{ℕ, suc, ◌-◌, ◌<◌, ◌≤◌}
use mathlib.Core.Path.{◌≡◌, refl, sym, ap, subst, ◌∙◌}
use mathlib.Core.Bool.{Bool, true, false, cond, true≢false}
use mathlib.Core.List.{List, [], ◌∷◌, ◌++◌, append_assoc, append-nil}
use native.Mathlib.Omega.{arith}
use native.Mathlib.Decide.{dec_le}
use lib.Dec.{ltb, leb, eqb}
use lib.ListN.{length, get_or, take, drop, length-append, length-drop, take-append-drop, drop_of_length-le}
use lib.Seq.{drop_at, length-take-le}
use borrow.Author.Tests.{le-ltb, le-leb, eqb-true, leb-true, ltb-true, ltb-false}
use Rattle.serial_rules.specs.Call.{Call, oscli, osbyte_low, osbyte_high, osword, osword0, osargs, osbget, osbput, osfind_close, osfind_open, osfile, osgbpb, code_of, body_of, return, has_return, call_ok}
use Rattle.serial_rules.specs.Body.{more, done, refused, string_turn, fixed_turn, checked_turn, name_turn, ended, file_turn, body_turn}
use Rattle.serial_rules.specs.Fields.{Fields, fields, fields_of}
use Rattle.serial_rules.proofs.Trip.{Goes, Whole, All, NoReturn, all_snoc}
use Rattle.serial_rules.proofs.Fields.{fields_back}

-- a list is empty or has a last byte
data Ends : List ℕ → Type 0 where
  nil : Ends []
  snoc : (u : List ℕ) (x : ℕ) → Ends (u ++ (x ∷ []))

ends_of : (l : List ℕ) → Ends l
ends_of [] = nil
ends_of (x ∷ l) = go (ends_of l)
  where
    go : {l : List ℕ} → Ends l → Ends (x ∷ l)
    go nil = snoc [] x
    go (snoc u y) = snoc (x ∷ u) y

-- the last byte of a part that needs more
goes_last : (code : ℕ) (s u : List ℕ) (x : ℕ) → Goes code s (u ++ (x ∷ [])) → body_turn code (s ++ u) x ≡ more
goes_last code s [] x g = rw (append-nil s) g.0
goes_last code s (b ∷ u) x g = rw (← append_assoc s (b ∷ []) u) (goes_last code (s ++ (b ∷ [])) u x g.1)

goes_first : (code : ℕ) (s u : List ℕ) (x : ℕ) → Goes code s (u ++ (x ∷ [])) → Goes code s u
goes_first code s [] x g = tt
goes_first code s (b ∷ u) x g = (g.0, goes_first code (s ++ (b ∷ [])) u x g.1)

goes_behind : (code : ℕ) (s u t : List ℕ) → Goes code s (u ++ t) → Goes code (s ++ u) t
goes_behind code s [] t g = rw (append-nil s) g
goes_behind code s (b ∷ u) t g = rw (← append_assoc s (b ∷ []) u) (goes_behind code (s ++ (b ∷ [])) u t g.1)

-- turns that are told apart
more_done : {A : Type 0} → more ≡ done → A
more_done e = let z : ◌≡◌ {A = ℕ} 0 1 = cc in absurd (omega arith)

refused_done : {A : Type 0} (n : ℕ) → refused n ≡ done → A
refused_done n e = let z : ◌≡◌ {A = ℕ} 0 1 = cc in absurd (omega arith)

done_more : {A : Type 0} → done ≡ more → A
done_more e = let z : ◌≡◌ {A = ℕ} 0 1 = cc in absurd (omega arith)

refused_more : {A : Type 0} (n : ℕ) → refused n ≡ more → A
refused_more n e = let z : ◌≡◌ {A = ℕ} 0 1 = cc in absurd (omega arith)

fixed_done : (n last : ℕ) → fixed_turn n last ≡ done → last ≤ n
fixed_done n last h = go (ltb n last) refl h
  where
    go : (t : Bool) → ltb n last ≡ t → cond t more done ≡ done → last ≤ n
    go true e q = more_done q
    go false e q = ltb-false n last e

fixed_more : (n last : ℕ) → fixed_turn n last ≡ more → n < last
fixed_more n last h = go (ltb n last) refl h
  where
    go : (t : Bool) → ltb n last ≡ t → cond t more done ≡ more → n < last
    go true e q = ltb-true n last e
    go false e q = done_more q

checked_done : (n last : ℕ) (ok : Bool) → checked_turn n last ok ≡ done → (last ≤ n) × (ok ≡ true)
checked_done n last ok h = go (ltb n last) refl ok h
  where
    go : (t : Bool) → ltb n last ≡ t → (ok : Bool) → cond t more (cond ok done (refused 9)) ≡ done → (last ≤ n) × (ok ≡ true)
    go true e ok q = more_done q
    go false e true q = (ltb-false n last e, refl)
    go false e false q = refused_done 9 q

checked_more : (n last : ℕ) (ok : Bool) → checked_turn n last ok ≡ more → n < last
checked_more n last ok h = go (ltb n last) refl ok h
  where
    go : (t : Bool) → ltb n last ≡ t → (ok : Bool) → cond t more (cond ok done (refused 9)) ≡ more → n < last
    go true e ok q = ltb-true n last e
    go false e true q = done_more q
    go false e false q = refused_more 9 q

string_done : (n b : ℕ) → string_turn n b ≡ done → eqb b return ≡ true
string_done n b h = go (eqb b return) refl (ltb n 255) h
  where
    go : (t : Bool) → eqb b return ≡ t → (u : Bool) → cond t done (cond u more (refused 6)) ≡ done → eqb b return ≡ true
    go true e u q = e
    go false e true q = more_done q
    go false e false q = refused_done 6 q

string_more : (n b : ℕ) → string_turn n b ≡ more → (NoReturn b) × (n < 255)
string_more n b h = go (eqb b return) refl (ltb n 255) refl h
  where
    go : (t : Bool) → eqb b return ≡ t → (u : Bool) → ltb n 255 ≡ u → cond t done (cond u more (refused 6)) ≡ more → (NoReturn b) × (n < 255)
    go true e u f q = done_more q
    go false e true f q = (e, ltb-true n 255 f)
    go false e false f q = refused_more 6 q

-- a part whose every turn is a string's, behind a prefix p: no return in it, and at most 255 bytes
module _ (code : ℕ) (p : List ℕ) (turn : (u : List ℕ) (b : ℕ) → body_turn code (p ++ u) b ≡ more → (NoReturn b) × (length u < 255)) where
  string_part : (u t : List ℕ) → All NoReturn u → length u ≤ 255 → Goes code (p ++ u) t → (All NoReturn (u ++ t)) × (length (u ++ t) ≤ 255)
  string_part u [] a h g = rw append-nil (a, h)
  string_part u (b ∷ t) a h g =
      let x = turn u b g.0 in
      rw (← append_assoc u (b ∷ []) t)
      (string_part (u ++ (b ∷ [])) t (all_snoc NoReturn u b a x.0) (omega (arith, length-append u (b ∷ []))) (rw append_assoc at g.1))

no_return : (t : List ℕ) → All NoReturn t → has_return t ≡ false
unfolding has_return
no_return [] a = refl
no_return (x ∷ t) a = rw a.0 (no_return t a.1)

-- What is to be shown of a finished body.
pub record RequestRewritten (code : ℕ) (body : List ℕ) : Type 0 where
  pub code_is : code_of (fields_of code body).call ≡ code
  pub body_is : body_of (fields_of code body).call (fields_of code body).block (fields_of code body).text ≡ body
  pub ok : call_ok (fields_of code body).call (fields_of code body).block (fields_of code body).text ≡ true
  pub short : length (fields_of code body).text ≤ 255

-- the number of bytes before the last of a body of fixed length
fixed_long : (code last : ℕ) (w : List ℕ) → ((u : List ℕ) (b : ℕ) → body_turn code u b ≡ more → length u < last) → Goes code [] w → length w ≤ last
fixed_long code last w rule g = go w (ends_of w) g
  where
    go : (w : List ℕ) → Ends w → Goes code [] w → length w ≤ last
    go w nil g = omega arith
    go w (snoc u x) g = omega (arith, rule u x (goes_last code [] u x g), length-append u (x ∷ []))

-- it is the body of some call whose fields keep their rules
by_call : (code : ℕ) (body : List ℕ) (call : Call) (b t : List ℕ) → code_of call ≡ code → body_of call b t ≡ body → call_ok call b t ≡ true → length t ≤ 255
    → RequestRewritten code body
by_call code body call b t c e ok short =
    let f : fields_of code body ≡ fields call b t = rw (← c, ← e) (fields_back call b t ok) in
    record {
      code_is = ap (λ (g : Fields). code_of g.call) f ∙ c;
      body_is = ap (λ (g : Fields). body_of g.call g.block g.text) f ∙ e;
      ok = ap (λ (g : Fields). call_ok g.call g.block g.text) f ∙ ok;
      short = rw f short;
    }

cli_back : (body : List ℕ) → Whole 0x02 body → RequestRewritten 0x02 body
unfolding body_turn code_of body_of call_ok
cli_back body w =
    let t = w.init in
    let r : w.last ≡ return = eqb-true w.last return (string_done (length t) w.last w.ends) in
    let s = string_part 0x02 [] (λ u b h. string_more (length u) b h) [] t tt (omega arith) w.goes in
    by_call 0x02 body oscli [] t refl (ap (λ (x : ℕ). t ++ (x ∷ [])) (sym r) ∙ w.joined) (rw (no_return t s.0)) s.1

-- bodies of fixed length: the bytes before the last
length_is : (code last : ℕ) (w : List ℕ) → ((u : List ℕ) (b : ℕ) → body_turn code u b ≡ more → length u < last) → Goes code [] w → last ≤ length w → length w ≡ last
length_is code last w rule g h = let m = fixed_long code last w rule g in omega arith

pub zero_long : (l : List ℕ) → length l ≡ 0 → l ≡ []
zero_long [] h = refl
zero_long (x ∷ l) h = absurd (omega arith)

one_long : (l : List ℕ) → length l ≡ 1 → l ≡ get_or l 0 0 ∷ []
one_long [] h = absurd (omega arith)
one_long (x ∷ []) h = refl
one_long (x ∷ y ∷ l) h = absurd (omega arith)

two_long : (l : List ℕ) → length l ≡ 2 → l ≡ get_or l 0 0 ∷ get_or l 1 0 ∷ []
two_long [] h = absurd (omega arith)
two_long (x ∷ []) h = absurd (omega arith)
two_long (x ∷ y ∷ []) h = refl
two_long (x ∷ y ∷ z ∷ l) h = absurd (omega arith)

first_of : (l : List ℕ) (n : ℕ) → length l ≡ suc n → l ≡ get_or l 0 0 ∷ drop 1 l
first_of [] n h = absurd (omega arith)
first_of (x ∷ l) n h = refl

low_back : (body : List ℕ) → Whole 0x04 body → RequestRewritten 0x04 body
unfolding body_turn code_of body_of call_ok has_return
low_back body w =
    let c = checked_done (length w.init) 1 (ltb w.last 0x80) w.ends in
    let n = length_is 0x04 1 w.init (λ u b h. checked_more (length u) 1 (ltb b 0x80) h) w.goes c.0 in
    by_call 0x04 body (osbyte_low (get_or w.init 0 0) w.last) [] [] refl
    (ap (λ (l : List ℕ). l ++ (w.last ∷ [])) (sym (one_long w.init n)) ∙ w.joined) (rw c.1) (omega arith)

high_back : (body : List ℕ) → Whole 0x06 body → RequestRewritten 0x06 body
unfolding body_turn code_of body_of call_ok has_return
high_back body w =
    let c = checked_done (length w.init) 2 (leb 0x80 w.last) w.ends in
    let n = length_is 0x06 2 w.init (λ u b h. checked_more (length u) 2 (leb 0x80 b) h) w.goes c.0 in
    by_call 0x06 body (osbyte_high (get_or w.init 0 0) (get_or w.init 1 0) w.last) [] [] refl
    (ap (λ (l : List ℕ). l ++ (w.last ∷ [])) (sym (two_long w.init n)) ∙ w.joined) (rw c.1) (omega arith)

line_back : (body : List ℕ) → Whole 0x0A body → RequestRewritten 0x0A body
unfolding body_turn code_of body_of call_ok has_return
line_back body w =
    let n = length_is 0x0A 4 w.init (λ u b h. fixed_more (length u) 4 h) w.goes (fixed_done (length w.init) 4 w.ends) in
    let five : length body ≡ 5 = rw (← w.joined, length-append w.init (w.last ∷ [])) (omega arith) in
    by_call 0x0A body osword0 body [] refl refl (rw five) (omega arith)

args_back : (body : List ℕ) → Whole 0x0C body → RequestRewritten 0x0C body
unfolding body_turn code_of body_of call_ok has_return
args_back body w =
    let n = length_is 0x0C 5 w.init (λ u b h. fixed_more (length u) 5 h) w.goes (fixed_done (length w.init) 5 w.ends) in
    let four : length (drop 1 w.init) ≡ 4 = rw (length-drop 1 w.init) (omega arith) in
    by_call 0x0C body (osargs (get_or w.init 0 0) w.last) (drop 1 w.init) [] refl
    (ap (λ (l : List ℕ). l ++ (w.last ∷ [])) (sym (first_of w.init 4 n)) ∙ w.joined) (rw four) (omega arith)

bget_back : (body : List ℕ) → Whole 0x0E body → RequestRewritten 0x0E body
unfolding body_turn code_of body_of call_ok has_return
bget_back body w =
    let n = length_is 0x0E 0 w.init (λ u b h. fixed_more (length u) 0 h) w.goes (omega arith) in
    by_call 0x0E body (osbget w.last) [] [] refl (ap (λ (l : List ℕ). l ++ (w.last ∷ [])) (sym (zero_long w.init n)) ∙ w.joined) refl (omega arith)

bput_back : (body : List ℕ) → Whole 0x10 body → RequestRewritten 0x10 body
unfolding body_turn code_of body_of call_ok has_return
bput_back body w =
    let n = length_is 0x10 1 w.init (λ u b h. fixed_more (length u) 1 h) w.goes (fixed_done (length w.init) 1 w.ends) in
    by_call 0x10 body (osbput (get_or w.init 0 0) w.last) [] [] refl (ap (λ (l : List ℕ). l ++ (w.last ∷ [])) (sym (one_long w.init n)) ∙ w.joined) refl (omega arith)

gbpb_back : (body : List ℕ) → Whole 0x16 body → RequestRewritten 0x16 body
unfolding body_turn code_of body_of call_ok has_return
gbpb_back body w =
    let n = length_is 0x16 13 w.init (λ u b h. fixed_more (length u) 13 h) w.goes (fixed_done (length w.init) 13 w.ends) in
    by_call 0x16 body (osgbpb w.last) w.init [] refl w.joined (rw n) (omega arith)

word_back : (body : List ℕ) → ((i : ℕ) → get_or body i 0 ≤ 255) → Whole 0x08 body → RequestRewritten 0x08 body
unfolding body_turn code_of body_of call_ok has_return
word_back body bytes w = go w.init w.joined w.goes w.ends
  where
    first : (t : Bool) → cond t (refused 9) more ≡ done → ⊥
    first true q = refused_done 9 q
    first false q = more_done q

    not_zero : (t : Bool) → cond t (refused 9) more ≡ more → t ≡ false
    not_zero true q = refused_more 9 q
    not_zero false q = refl

    long : (a k : ℕ) (s : List ℕ) → Ends s → Goes 0x08 (a ∷ k ∷ []) s → length s ≤ k
    long a k s nil g = omega arith
    long a k s (snoc u x) g = omega (arith, fixed_more (length u) k (goes_last 0x08 (a ∷ k ∷ []) u x g), length-append u (x ∷ []))

    go : (i : List ℕ) → i ++ (w.last ∷ []) ≡ body → Goes 0x08 [] i → body_turn 0x08 i w.last ≡ done → RequestRewritten 0x08 body
    go [] j g e = absurd (first (eqb w.last 0) e)
    go (a ∷ []) j g e = more_done e
    go (a ∷ k ∷ s) j g e =
        let n : length s ≡ k = omega (arith, fixed_done (length s) k e, long a k s (ends_of s) g.1.1) in
        let small : k ≤ 255 = subst (λ (l : List ℕ). get_or l 1 0 ≤ 255) (sym j) (bytes 1) in
        by_call 0x08 body (osword a w.last) s [] refl (ap (λ (m : ℕ). a ∷ m ∷ (s ++ (w.last ∷ []))) n ∙ j)
        (rw (not_zero (eqb a 0) g.0, le-leb (length s) 255 (omega arith))) (omega arith)

find_back : (body : List ℕ) → Whole 0x12 body → RequestRewritten 0x12 body
unfolding body_turn code_of body_of call_ok has_return
find_back body w = go w.init w.joined w.goes w.ends
  where
    close : (a : ℕ) (s : List ℕ) → eqb a 0 ≡ true → a ∷ (s ++ (w.last ∷ [])) ≡ body → Goes 0x12 (a ∷ []) s → RequestRewritten 0x12 body
    close a [] z j g = by_call 0x12 body (osfind_close w.last) [] [] refl (ap (λ (x : ℕ). x ∷ w.last ∷ []) (sym (eqb-true a 0 z)) ∙ j) refl (omega arith)
    close a (x ∷ s) z j g = done_more (rw z at g.0)

    open_turn : (a : ℕ) → eqb a 0 ≡ false → (u : List ℕ) (b : ℕ) → body_turn 0x12 (a ∷ u) b ≡ more → (NoReturn b) × (length u < 255)
    open_turn a z u b h = string_more (length u) b (rw z at h)

    go : (i : List ℕ) → i ++ (w.last ∷ []) ≡ body → Goes 0x12 [] i → body_turn 0x12 i w.last ≡ done → RequestRewritten 0x12 body
    go [] j g e = more_done e
    go (a ∷ s) j g e = by (eqb a 0) refl
      where
        by : (t : Bool) → eqb a 0 ≡ t → RequestRewritten 0x12 body
        by true z = close a s z j g.1
        by false z =
            let r : w.last ≡ return = eqb-true w.last return (string_done (length s) w.last (rw z at e)) in
            let p = string_part 0x12 (a ∷ []) (open_turn a z) [] s tt (omega arith) g.1 in
            by_call 0x12 body (osfind_open a) [] s refl (ap (λ (x : ℕ). a ∷ (s ++ (x ∷ []))) (sym r) ∙ j) (rw (z, no_return s p.0)) p.1

-- OSFILE: the name, behind a block of sixteen bytes
ended_snoc : (u : List ℕ) (x : ℕ) → ended (u ++ (x ∷ [])) ≡ eqb x return
unfolding ended
ended_snoc [] x = refl
ended_snoc (y ∷ []) x = refl
ended_snoc (y ∷ z ∷ u) x = ended_snoc (z ∷ u) x

name_not_done : (n b : ℕ) → name_turn n b ≡ done → ⊥
name_not_done n b h = go (eqb b return) (leb n 255) (ltb n 255) h
  where
    go : (t u v : Bool) → cond t (cond u more (refused 6)) (cond v more (refused 6)) ≡ done → ⊥
    go true true v q = more_done q
    go true false v q = refused_done 6 q
    go false u true q = more_done q
    go false u false q = refused_done 6 q

file_done : (s : List ℕ) (b : ℕ) → file_turn s b ≡ done → (16 ≤ length s) × (ended (drop 16 s) ≡ true)
file_done s b h = go (ltb (length s) 16) refl (ended (drop 16 s)) refl h
  where
    go : (t : Bool) → ltb (length s) 16 ≡ t → (u : Bool) → ended (drop 16 s) ≡ u → cond t more (cond u done (name_turn (length s - 16) b)) ≡ done
        → (16 ≤ length s) × (ended (drop 16 s) ≡ true)
    go true p u q h = more_done h
    go false p true q h = (ltb-false (length s) 16 p, q)
    go false p false q h = absurd (name_not_done (length s - 16) b h)

file_more : (s : List ℕ) (b : ℕ) → 16 ≤ length s → file_turn s b ≡ more → (ended (drop 16 s) ≡ false) × (name_turn (length s - 16) b ≡ more)
file_more s b l h = go (ended (drop 16 s)) refl (rw (le-ltb (length s) 16 l) at h)
  where
    go : (u : Bool) → ended (drop 16 s) ≡ u → cond u done (name_turn (length s - 16) b) ≡ more → (ended (drop 16 s) ≡ false) × (name_turn (length s - 16) b ≡ more)
    go true q h = done_more h
    go false q h = (q, h)

return_more : (n : ℕ) → name_turn n return ≡ more → n ≤ 255
return_more n h = go (leb n 255) refl h
  where
    go : (u : Bool) → leb n 255 ≡ u → cond u more (refused 6) ≡ more → n ≤ 255
    go true p q = leb-true n 255 p
    go false p q = refused_more 6 q

module _ (b : List ℕ) (sixteen : length b ≡ 16) where
  -- a name that goes on has no return in it
  clean : (u t : List ℕ) → All NoReturn u → Goes 0x14 (b ++ u) t → ended (u ++ t) ≡ false → All NoReturn (u ++ t)
  unfolding body_turn
  clean u [] a g e = rw append-nil a
  clean u (y ∷ []) a g e = all_snoc NoReturn u y a (sym (ended_snoc u y) ∙ e)
  clean u (y ∷ z ∷ t) a g e =
      let v = u ++ (y ∷ []) in
      let at-v : (b ++ u) ++ (y ∷ []) ≡ b ++ v = append_assoc b u (y ∷ []) in
      let long : 16 ≤ length (b ++ v) = omega (arith, length-append b v) in
      let f = file_more (b ++ v) z long (rw at-v at g.1.0) in
      let n : ended v ≡ false = ap ended (sym (drop_at b v 16 sixteen)) ∙ f.0 in
      rw (← append_assoc u (y ∷ []) (z ∷ t))
      (clean v (z ∷ t) (all_snoc NoReturn u y a (sym (ended_snoc u y) ∙ n)) (rw at-v at g.1) (rw (append_assoc u (y ∷ []) (z ∷ t)) e))

  -- the whole: the block, the name, its return, A
  named : (t : List ℕ) (x a : ℕ) (body : List ℕ) → ((b ++ t) ++ (x ∷ [])) ++ (a ∷ []) ≡ body → Goes 0x14 [] ((b ++ t) ++ (x ∷ []))
      → body_turn 0x14 ((b ++ t) ++ (x ∷ [])) a ≡ done → RequestRewritten 0x14 body
  unfolding body_turn code_of body_of call_ok
  named t x a body j g e =
      let w = (b ++ t) ++ (x ∷ []) in
      let d = file_done w a e in
      let tail : drop 16 w ≡ t ++ (x ∷ []) = ap (drop 16) (append_assoc b t (x ∷ [])) ∙ drop_at b (t ++ (x ∷ [])) 16 sixteen in
      let r : x ≡ return = eqb-true x return (sym (ended_snoc t x) ∙ ap ended (sym tail) ∙ d.1) in
      let long : 16 ≤ length (b ++ t) = omega (arith, length-append b t) in
      let f = file_more (b ++ t) x long (goes_last 0x14 [] (b ++ t) x g) in
      let n : length (b ++ t) - 16 ≡ length t = omega (arith, length-append b t) in
      let short : length t ≤ 255 = return_more (length t) (rw (n, r) at f.1) in
      let rest : Goes 0x14 b t = goes_behind 0x14 [] b t (goes_first 0x14 [] (b ++ t) x g) in
      let c : All NoReturn t = clean [] t tt (rw (append-nil b) rest) (ap ended (sym (drop_at b t 16 sixteen)) ∙ f.0) in
      by_call 0x14 body (osfile a) b t refl
      (sym (append_assoc b t (return ∷ a ∷ [])) ∙ ap (λ (y : ℕ). (b ++ t) ++ (y ∷ a ∷ [])) (sym r) ∙ sym (append_assoc (b ++ t) (x ∷ []) (a ∷ [])) ∙ j)
      (rw (sixteen, no_return t c)) short

no_block : (a : ℕ) → body_turn 0x14 [] a ≡ done → ⊥
unfolding body_turn
no_block a e = let d = file_done [] a e in omega arith

past_block : (u : List ℕ) (x a : ℕ) → body_turn 0x14 (u ++ (x ∷ [])) a ≡ done → 16 ≤ length u
unfolding body_turn ended
past_block u x a e =
    let d = file_done (u ++ (x ∷ [])) a e in
    elim (dec_le 16 (length u)) [
      | yes h ↦ h
      | no h ↦ absurd (true≢false (sym d.1 ∙ ap ended (drop_of_length-le (u ++ (x ∷ [])) {i = 16} (omega (arith, h, length-append u (x ∷ []))))))
    ]

file_back : (body : List ℕ) → Whole 0x14 body → RequestRewritten 0x14 body
file_back body w = go w.init (ends_of w.init) w.joined w.goes w.ends
  where
    go : (i : List ℕ) → Ends i → i ++ (w.last ∷ []) ≡ body → Goes 0x14 [] i → body_turn 0x14 i w.last ≡ done → RequestRewritten 0x14 body
    go i nil j g e = absurd (no_block w.last e)
    go i (snoc u x) j g e =
        let l = past_block u x w.last e in
        let whole : take 16 u ++ drop 16 u ≡ u = take-append-drop 16 u in
        named (take 16 u) (length-take-le 16 u l) (drop 16 u) x w.last body
        (ap (λ (v : List ℕ). (v ++ (x ∷ [])) ++ (w.last ∷ [])) whole ∙ j)
        (subst (λ (v : List ℕ). Goes 0x14 [] (v ++ (x ∷ []))) (sym whole) g)
        (subst (λ (v : List ℕ). body_turn 0x14 (v ++ (x ∷ [])) w.last ≡ done) (sym whole) e)

-- A finished body of any code: by the code, and there is no other.
module _ (code : ℕ) (body : List ℕ) where
  or_else : (n : ℕ) → (Whole n body → RequestRewritten n body) → Whole code body → (eqb code n ≡ false → RequestRewritten code body) → RequestRewritten code body
  or_else n back w else = go (eqb code n) refl
    where
      go : (t : Bool) → eqb code n ≡ t → RequestRewritten code body
      go true e = let c = eqb-true code n e in subst (λ (k : ℕ). RequestRewritten k body) (sym c) (back (subst (λ (k : ℕ). Whole k body) c w))
      go false e = else e

  pub rewritten : ((i : ℕ) → get_or body i 0 ≤ 255) → Whole code body → RequestRewritten code body
  unfolding body_turn
  rewritten bytes w =
      or_else 0x02 (cli_back body) w
      (λ h₁. or_else 0x04 (low_back body) w
      (λ h₂. or_else 0x06 (high_back body) w
      (λ h₃. or_else 0x08 (word_back body bytes) w
      (λ h₄. or_else 0x0A (line_back body) w
      (λ h₅. or_else 0x0C (args_back body) w
      (λ h₆. or_else 0x0E (bget_back body) w
      (λ h₇. or_else 0x10 (bput_back body) w
      (λ h₈. or_else 0x12 (find_back body) w
      (λ h₉. or_else 0x14 (file_back body) w
      (λ h₁₀. or_else 0x16 (gbpb_back body) w
      (λ h₁₁. refused_done 4 (rw (h₁, h₂, h₃, h₄, h₅, h₆, h₇, h₈, h₉, h₁₀, h₁₁) at w.ends))))))))))))
