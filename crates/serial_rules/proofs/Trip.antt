-- Writing then reading gives the request, finished at its last byte, whatever follows: on both carriers, for every call, by one
-- induction over the body so far.
use Prim.Native.Nat.{ℕ, zero, suc, ◌+◌, ◌-◌, ◌*◌, ◌/◌, ◌%◌, ◌<◌, ◌≤◌}
use mathlib.Core.Path.{◌≡◌, refl, sym, ap, subst, ◌∙◌}
use mathlib.Core.Bool.{Bool, true, false, cond, not, ◌&&◌, ◌||◌, true≢false}
use mathlib.Core.List.{List, [], ◌∷◌, ◌++◌, append_assoc, append-nil}
use native.Mathlib.Omega.{arith}
use lib.Dec.{eqb}
use lib.ListN.{length, drop, length-append}
use lib.Seq.{drop_at}
use borrow.Author.Tests.{ne_eqb, le-ltb, lt-ltb, eqb-true, leb-true, not-true}
use Rattle.serial_rules.specs.Escape.{escape}
use Rattle.serial_rules.specs.Marks.{bit, is_code, starts_request}
use Rattle.serial_rules.specs.Call.{Call, osrdch, oscli, osbyte_low, osbyte_high, osword, osword0, osargs, osbget, osbput, osfind_close, osfind_open, osfile, osgbpb, code_of, body_of, return, has_return, numbers_ok, block_ok, has_string, call_ok, Carrier, serial, parallel, carried, heading, style_ok, encoding_of}
use Rattle.serial_rules.specs.Body.{Turn, more, done, fixed_turn, name_turn, ended, file_turn, body_turn}
use Rattle.serial_rules.specs.Reader.{Reader, Answer, need_more, character, refusal, outside, inside, request, Step, begun, turned, step}
use Rattle.serial_rules.specs.Stream.{Fed, gave, fed_by, feed, answers, FirstAnswer}
use Rattle.serial_rules.proofs.Escape.{escaped_one}
use Rattle.serial_rules.proofs.Limits.{code_most, string_more, name_more, name_return}
use Rattle.serial_rules.proofs.Stream.{carried_append, carried_none}

-- what a step makes of the raw bytes that follow it
abbrev fed_step : Carrier → Step → List ℕ → Fed
fed_step carrier o r = fed_by o.answer o.next r (feed carrier o.next r)

-- the raw bytes of one data byte, inside a request
data_fed : (carrier : Carrier) (style code : ℕ) (s : List ℕ) (b : ℕ) (r : List ℕ)
    → feed carrier (inside false style code s) (carried carrier (b ∷ []) ++ r) ≡ fed_step carrier (turned style code s b (body_turn code s b)) r
unfolding feed step
data_fed parallel style code s b r = refl
data_fed serial style code s b r = rw (escaped_one b) (go (eqb b escape) refl)
  where
    go : (t : Bool) → eqb b escape ≡ t
        → feed serial (inside false style code s) (cond t (escape ∷ escape ∷ []) (b ∷ []) ++ r) ≡ fed_step serial (turned style code s b (body_turn code s b)) r
    go true e = ap (λ (x : ℕ). fed_step serial (turned style code s x (body_turn code s x)) r) (sym (eqb-true b escape e))
    go false e = simp e

-- each byte of t, after the body s, needs more
abbrev pub Goes : ℕ → List ℕ → List ℕ → Type 0
Goes code s [] = Unit
Goes code s (b ∷ t) = (body_turn code s b ≡ more) × Goes code (s ++ (b ∷ [])) t

goes_fed : (carrier : Carrier) (style code : ℕ) (s t r : List ℕ) → Goes code s t
    → feed carrier (inside false style code s) (carried carrier t ++ r) ≡ feed carrier (inside false style code (s ++ t)) r
goes_fed carrier style code s [] r g =
    ap (λ (l : List ℕ). feed carrier (inside false style code s) (l ++ r)) (carried_none carrier)
    ∙ ap (λ (u : List ℕ). feed carrier (inside false style code u) r) (sym (append-nil s))
goes_fed carrier style code s (b ∷ t) r g =
    ap (λ (l : List ℕ). feed carrier (inside false style code s) (l ++ r)) (carried_append carrier (b ∷ []) t)
    ∙ ap (feed carrier (inside false style code s)) (append_assoc (carried carrier (b ∷ [])) (carried carrier t) r)
    ∙ data_fed carrier style code s b (carried carrier t ++ r)
    ∙ ap (λ (x : Turn). fed_step carrier (turned style code s b x) (carried carrier t ++ r)) g.0
    ∙ goes_fed carrier style code (s ++ (b ∷ [])) t r g.1
    ∙ ap (λ (u : List ℕ). feed carrier (inside false style code u) r) (append_assoc s (b ∷ []) t)

-- a body that is whole: each byte but its last needs more, and the last ends it
pub record Whole (code : ℕ) (body : List ℕ) : Type 0 where
  pub init : List ℕ
  pub last : ℕ
  pub joined : init ++ (last ∷ []) ≡ body
  pub goes : Goes code [] init
  pub ends : body_turn code init last ≡ done

whole_fed : (carrier : Carrier) (style code : ℕ) (body r : List ℕ) → Whole code body
    → feed carrier (inside false style code []) (carried carrier body ++ r) ≡ gave (request style code body) (outside false) r
whole_fed carrier style code body r w =
    let t = w.init in
    let b = w.last in
    ap (λ (x : List ℕ). feed carrier (inside false style code []) (x ++ r)) (ap (carried carrier) (sym w.joined) ∙ carried_append carrier t (b ∷ []))
    ∙ ap (feed carrier (inside false style code [])) (append_assoc (carried carrier t) (carried carrier (b ∷ [])) r)
    ∙ goes_fed carrier style code [] t (carried carrier (b ∷ []) ++ r) w.goes
    ∙ data_fed carrier style code t b r
    ∙ ap (λ (x : Turn). fed_step carrier (turned style code t b x) r) w.ends
    ∙ ap (λ (x : List ℕ). gave (request style code x) (outside false) r) w.joined

-- the heading of a style and a code
start_fed : (carrier : Carrier) (style code : ℕ) (r : List ℕ) → style_ok carrier style ≡ true → is_code code ≡ true
    → feed carrier (outside false) (heading carrier style code ++ r) ≡ fed_step carrier (begun style code) r
unfolding feed step starts_request
start_fed serial style code r s k =
    let low = leb-true style 3 s in
    let most = code_most code k in
    let m = style * 32 + code in
    let d : (style * 32 + code) / 32 ≡ style = omega arith in
    let q : (style * 32 + code) % 32 ≡ code = omega arith in
    let n : eqb (style * 32 + code) escape ≡ false = ne_eqb m escape (λ h. omega arith) in
    let h : bit (style * 32 + code) 128 ≡ false = ne_eqb (m / 128 % 2) 1 (λ h. omega arith) in
    simp (n, h, q, d, k)
start_fed parallel style code r s k =
    let most = code_most code k in
    let z : style ≡ 0 = eqb-true style 0 s in
    let d : code / 32 ≡ 0 = omega arith in
    let q : code % 32 ≡ code = omega arith in
    simp (k, d, q, z)

-- a fact of each byte
abbrev pub All : (ℕ → Type 0) → List ℕ → Type 0
All P [] = Unit
All P (x ∷ l) = P x × All P l

pub all_snoc : (P : ℕ → Type 0) (u : List ℕ) (b : ℕ) → All P u → P b → All P (u ++ (b ∷ []))
all_snoc P [] b a p = (p, tt)
all_snoc P (x ∷ u) b a p = (a.0, all_snoc P u b a.1 p)

-- The one lemma of all the calls: after a prefix p, up to `most` bytes that pass Ok need more, whatever they are.
module _ (code most : ℕ) (p : List ℕ) (Ok : ℕ → Type 0)
    (rule : (u : List ℕ) (b : ℕ) → length u < most → All Ok u → Ok b → body_turn code (p ++ u) b ≡ more) where
  goes_from : (u t : List ℕ) → All Ok u → All Ok t → length u + length t ≤ most → Goes code (p ++ u) t
  goes_from u [] a o h = tt
  goes_from u (b ∷ t) a o h = (
    rule u b (omega arith) a o.0,
    rw (append_assoc p u (b ∷ []))
        (goes_from (u ++ (b ∷ [])) t (all_snoc Ok u b a o.0) o.1 (omega (arith, length-append u (b ∷ [])))),
  )

  goes_by : (t : List ℕ) → All Ok t → length t ≤ most → Goes code p t
  goes_by t o h = subst (λ (x : List ℕ). Goes code x t) (append-nil p) (goes_from [] t tt o (omega arith))

pub goes_append : (code : ℕ) (s t u : List ℕ) → Goes code s t → Goes code (s ++ t) u → Goes code s (t ++ u)
goes_append code s [] u g h = subst (λ (x : List ℕ). Goes code x u) (append-nil s) h
goes_append code s (b ∷ t) u g h = (g.0, goes_append code (s ++ (b ∷ [])) t u g.1 (rw append_assoc h))

abbrev Any : ℕ → Type 0
Any b = Unit

all_any : (t : List ℕ) → All Any t
all_any [] = tt
all_any (x ∷ t) = (tt, all_any t)

abbrev pub NoReturn : ℕ → Type 0
NoReturn b = eqb b return ≡ false

pub or_false : (a b : Bool) → a || b ≡ false → (a ≡ false) × (b ≡ false)
or_false true b h = absurd (true≢false h)
or_false false b h = (refl, h)

no_returns : (t : List ℕ) → has_return t ≡ false → All NoReturn t
unfolding has_return
no_returns [] h = tt
no_returns (x ∷ t) h = let e = or_false (eqb x return) (has_return t) h in (e.0, no_returns t e.1)

fixed_more : (n last : ℕ) → n < last → fixed_turn n last ≡ more
fixed_more n last h = simp (lt-ltb n last h)

fixed_done : (n last : ℕ) → n ≡ last → fixed_turn n last ≡ done
fixed_done n last h = simp (le-ltb n last (omega arith))

-- the end of a name
open_name : (u : List ℕ) → All NoReturn u → ended u ≡ false
unfolding ended
open_name [] a = refl
open_name (x ∷ []) a = a.0
open_name (x ∷ y ∷ u) a = open_name (y ∷ u) a.1

ended_name : (u : List ℕ) → ended (u ++ (return ∷ [])) ≡ true
unfolding ended
ended_name [] = refl
ended_name (x ∷ []) = refl
ended_name (x ∷ y ∷ u) = ended_name (y ∷ u)

file_open : (s : List ℕ) (b : ℕ) → 16 ≤ length s → ended (drop 16 s) ≡ false → file_turn s b ≡ name_turn (length s - 16) b
file_open s b h e = simp (le-ltb (length s) 16 h, e)

file_ended : (s : List ℕ) (b : ℕ) → 16 ≤ length s → ended (drop 16 s) ≡ true → file_turn s b ≡ done
file_ended s b h e = simp (le-ltb (length s) 16 h, e)

-- bodies of a fixed length, whose last byte stands at index n
fixed_whole : (code n : ℕ) → ((u : List ℕ) (b : ℕ) → length u < n → body_turn code u b ≡ more)
    → ((u : List ℕ) (b : ℕ) → length u ≡ n → body_turn code u b ≡ done) → (t : List ℕ) (b : ℕ) → length t ≡ n → Whole code (t ++ (b ∷ []))
fixed_whole code n still over t b h =
    record {
      init = t;
      last = b;
      joined = refl;
      goes = goes_by code n [] Any (λ u b h _ _. still u b h) t (all_any t) (omega arith);
      ends = over t b h;
    }

-- a list of n + 1 bytes has a last one
record Unsnoc (l : List ℕ) (n : ℕ) : Type 0 where
  init : List ℕ
  last : ℕ
  joined : init ++ (last ∷ []) ≡ l
  long : length init ≡ n

unsnoc : (l : List ℕ) (n : ℕ) → length l ≡ suc n → Unsnoc l n
unsnoc [] n h = absurd (omega arith)
unsnoc (x ∷ []) n h = record { init = []; last = x; joined = refl; long = omega arith }
unsnoc (x ∷ y ∷ l) zero h = absurd (omega arith)
unsnoc (x ∷ y ∷ l) (suc n) h =
    let r = unsnoc (y ∷ l) n (omega arith) in
    record { init = x ∷ r.init; last = r.last; joined = ap (λ (k : List ℕ). x ∷ k) r.joined; long = ap suc r.long }

oscli_whole : (t : List ℕ) → length t ≤ 255 → All NoReturn t → Whole 0x02 (t ++ (return ∷ []))
unfolding body_turn
oscli_whole t h a =
    record { init = t; last = return; joined = refl; goes = goes_by 0x02 255 [] NoReturn (λ u b l _ o. string_more (length u) b o l) t a h; ends = refl }

osword_whole : (a : ℕ) (b : List ℕ) (out : ℕ) → eqb a 0 ≡ false → Whole 0x08 (a ∷ length b ∷ (b ++ (out ∷ [])))
unfolding body_turn
osword_whole a b out f =
    record {
      init = a ∷ length b ∷ b;
      last = out;
      joined = refl;
      goes = (simp f, (refl, goes_by 0x08 (length b) (a ∷ length b ∷ []) Any (λ u x h _ _. fixed_more (length u) (length b) h) b (all_any b) (omega arith)));
      ends = fixed_done (length b) (length b) refl;
    }

osword0_whole : (b : List ℕ) → length b ≡ 5 → Whole 0x0A b
unfolding body_turn
osword0_whole b h =
    let r = unsnoc b 4 h in
    subst (λ (x : List ℕ). Whole 0x0A x) r.joined
    (fixed_whole 0x0A 4 (λ u b l. fixed_more (length u) 4 l) (λ u b l. fixed_done (length u) 4 l) r.init r.last r.long)

open_whole : (a : ℕ) (t : List ℕ) → eqb a 0 ≡ false → length t ≤ 255 → All NoReturn t → Whole 0x12 (a ∷ (t ++ (return ∷ [])))
unfolding body_turn
open_whole a t f h n =
    record {
      init = a ∷ t;
      last = return;
      joined = refl;
      goes = (refl, goes_by 0x12 255 (a ∷ []) NoReturn (λ u b l _ o. simp (f, string_more (length u) b o l)) t n h);
      ends = simp f;
    }

osfile_whole : (b t : List ℕ) (a : ℕ) → length b ≡ 16 → length t ≤ 255 → All NoReturn t → Whole 0x14 (b ++ (t ++ (return ∷ a ∷ [])))
unfolding body_turn
osfile_whole b t a h l n =
    let long : (u : List ℕ) → length (b ++ u) ≡ 16 + length u = λ u. omega (arith, length-append b u) in
    let name : (u : List ℕ) → drop 16 (b ++ u) ≡ u = λ u. drop_at b u 16 h in
    record {
      init = (b ++ t) ++ (return ∷ []);
      last = a;
      joined = append_assoc (b ++ t) (return ∷ []) (a ∷ []) ∙ append_assoc b t (return ∷ a ∷ []);
      goes =
          goes_append 0x14 [] (b ++ t) (return ∷ [])
          (goes_append 0x14 [] b t (goes_by 0x14 16 [] Any (λ u x l _ _. simp (lt-ltb (length u) 16 l)) b (all_any b) (omega arith))
          (goes_by 0x14 255 b NoReturn
          (λ u x l o n. file_open (b ++ u) x (omega (arith, long u)) (ap ended (name u) ∙ open_name u o) ∙ name_more (length (b ++ u) - 16) x n (omega (arith, long u))) t n l))
          (file_open (b ++ t) return (omega (arith, long t)) (ap ended (name t) ∙ open_name t n) ∙ name_return (length (b ++ t) - 16) (omega (arith, long t)), tt);
      ends =
          file_ended ((b ++ t) ++ (return ∷ [])) a (omega (arith, length-append (b ++ t) (return ∷ []), long t))
          (ap ended (ap (drop 16) (append_assoc b t (return ∷ [])) ∙ name (t ++ (return ∷ []))) ∙ ended_name t);
    }

-- what call_ok says
record Facts (call : Call) (b t : List ℕ) : Type 0 where
  numbers : numbers_ok call ≡ true
  block : block_ok call (length b) ≡ true
  text : All NoReturn t

pub and_both : (a b : Bool) → a && b ≡ true → (a ≡ true) × (b ≡ true)
and_both true b h = (refl, h)
and_both false b h = absurd (true≢false (sym h))

facts : (call : Call) (b t : List ℕ) → call_ok call b t ≡ true → Facts call b t
unfolding call_ok
facts call b t h =
    let x = and_both (numbers_ok call) (block_ok call (length b) && ((has_string call || eqb (length t) 0) && not (has_return t))) h in
    let y = and_both (block_ok call (length b)) ((has_string call || eqb (length t) 0) && not (has_return t)) x.1 in
    let z = and_both (has_string call || eqb (length t) 0) (not (has_return t)) y.1 in
    record { numbers = x.0; block = y.0; text = no_returns t (not-true (has_return t) z.1) }

-- the body of every call that has one is whole
whole : (call : Call) (b t : List ℕ) → length t ≤ 255 → Facts call b t → eqb (code_of call) 0 ≡ false → Whole (code_of call) (body_of call b t)
unfolding code_of body_of body_turn
whole osrdch b t h f z = absurd (true≢false z)
whole oscli b t h f z = oscli_whole t h f.text
whole (osbyte_low x a) b t h f z = record { init = x ∷ []; last = a; joined = refl; goes = (refl, tt); ends = simp f.numbers }
whole (osbyte_high x y a) b t h f z = record { init = x ∷ y ∷ []; last = a; joined = refl; goes = (refl, (refl, tt)); ends = simp f.numbers }
whole (osword a out) b t h f z = osword_whole a b out (not-true (eqb a 0) f.numbers)
whole osword0 b t h f z = osword0_whole b (eqb-true (length b) 5 f.block)
whole (osargs y a) b t h f z =
    fixed_whole 0x0C 5 (λ u b l. fixed_more (length u) 5 l) (λ u b l. fixed_done (length u) 5 l) (y ∷ b) a (let e = eqb-true (length b) 4 f.block in omega arith)
whole (osbget y) b t h f z = record { init = []; last = y; joined = refl; goes = tt; ends = refl }
whole (osbput y a) b t h f z = record { init = y ∷ []; last = a; joined = refl; goes = (refl, tt); ends = refl }
whole (osfind_close y) b t h f z = record { init = 0 ∷ []; last = y; joined = refl; goes = (refl, tt); ends = refl }
whole (osfind_open a) b t h f z = open_whole a t (not-true (eqb a 0) f.numbers) h f.text
whole (osfile a) b t h f z = osfile_whole b t a (eqb-true (length b) 16 f.block) h f.text
whole (osgbpb a) b t h f z =
    fixed_whole 0x16 13 (λ u b l. fixed_more (length u) 13 l) (λ u b l. fixed_done (length u) 13 l) b a (eqb-true (length b) 13 f.block)

code_listed : (call : Call) → is_code (code_of call) ≡ true
unfolding code_of
code_listed osrdch = refl
code_listed oscli = refl
code_listed (osbyte_low x a) = refl
code_listed (osbyte_high x y a) = refl
code_listed (osword a out) = refl
code_listed osword0 = refl
code_listed (osargs y a) = refl
code_listed (osbget y) = refl
code_listed (osbput y a) = refl
code_listed (osfind_close y) = refl
code_listed (osfind_open a) = refl
code_listed (osfile a) = refl
code_listed (osgbpb a) = refl

-- the one call without a body
no_body : (call : Call) (b t : List ℕ) → eqb (code_of call) 0 ≡ true → body_of call b t ≡ []
unfolding code_of body_of
no_body osrdch b t h = refl
no_body oscli b t h = absurd (true≢false (sym h))
no_body (osbyte_low x a) b t h = absurd (true≢false (sym h))
no_body (osbyte_high x y a) b t h = absurd (true≢false (sym h))
no_body (osword a out) b t h = absurd (true≢false (sym h))
no_body osword0 b t h = absurd (true≢false (sym h))
no_body (osargs y a) b t h = absurd (true≢false (sym h))
no_body (osbget y) b t h = absurd (true≢false (sym h))
no_body (osbput y a) b t h = absurd (true≢false (sym h))
no_body (osfind_close y) b t h = absurd (true≢false (sym h))
no_body (osfind_open a) b t h = absurd (true≢false (sym h))
no_body (osfile a) b t h = absurd (true≢false (sym h))
no_body (osgbpb a) b t h = absurd (true≢false (sym h))

pub round_trip : (carrier : Carrier) (style : ℕ) (call : Call) (b t r : List ℕ) → style_ok carrier style ≡ true → call_ok call b t ≡ true → length t ≤ 255
    → feed carrier (outside false) (encoding_of carrier style call b t ++ r) ≡ gave (request style (code_of call) (body_of call b t)) (outside false) r
unfolding encoding_of
round_trip carrier style call b t r s ok h =
    ap (feed carrier (outside false)) (append_assoc (heading carrier style (code_of call)) (carried carrier (body_of call b t)) r)
    ∙ start_fed carrier style (code_of call) (carried carrier (body_of call b t) ++ r) s (code_listed call)
    ∙ go (eqb (code_of call) 0) refl
  where
    go : (z : Bool) → eqb (code_of call) 0 ≡ z
        → fed_step carrier (begun style (code_of call)) (carried carrier (body_of call b t) ++ r) ≡ gave (request style (code_of call) (body_of call b t)) (outside false) r
    go true z = rw (z, eqb-true (code_of call) 0 z, no_body call b t z, carried_none carrier)
    go false z = rw z (whole_fed carrier style (code_of call) (body_of call b t) r (whole call b t h (facts call b t ok) z))

-- what `feed` says of all the answers
fed_gives : (carrier : Carrier) (r : Reader) (l : List ℕ) (a : Answer) (q : Reader) (rest : List ℕ) → feed carrier r l ≡ gave a q rest
    → FirstAnswer carrier r l a q rest
unfolding feed answers
fed_gives carrier r [] a q rest h = let z : ◌≡◌ {A = ℕ} 0 1 = cc in absurd (omega arith)
fed_gives carrier r (x ∷ l) a q rest h = go (step carrier r x).answer refl (fed_gives carrier (step carrier r x).next l a q rest)
  where
    now : (b : Answer) → (step carrier r x).answer ≡ b → gave b (step carrier r x).next l ≡ gave a q rest → FirstAnswer carrier r (x ∷ l) a q rest
    now b e g =
        let at_a : b ≡ a = cc in
        let at-q : (step carrier r x).next ≡ q = cc in
        let at-l : l ≡ rest = cc in
        record { waits = 0; answers_are = rw (e, at_a, at-q, at-l); place = rw at-l (omega arith) }

    go : (b : Answer) → (step carrier r x).answer ≡ b
        → (feed carrier (step carrier r x).next l ≡ gave a q rest → FirstAnswer carrier (step carrier r x).next l a q rest) → FirstAnswer carrier r (x ∷ l) a q rest
    go need_more e later =
        let g = later (rw e at h) in
        record { waits = suc g.waits; answers_are = rw (e, g.answers_are); place = omega (arith, g.place) }
    go (character b) e later = now (character b) e (rw e at h)
    go (request style code s) e later = now (request style code s) e (rw e at h)
    go (refusal n) e later = now (refusal n) e (rw e at h)

-- Writing then reading: the request, finished at the last byte of its encoding, neither earlier nor later, whatever follows.
pub written_then_read : (carrier : Carrier) (style : ℕ) (call : Call) (b t r : List ℕ) → style_ok carrier style ≡ true → call_ok call b t ≡ true → length t ≤ 255
    → FirstAnswer carrier (outside false) (encoding_of carrier style call b t ++ r) (request style (code_of call) (body_of call b t)) (outside false) r
written_then_read carrier style call b t r s ok h =
    fed_gives carrier (outside false) (encoding_of carrier style call b t ++ r) (request style (code_of call) (body_of call b t)) (outside false) r
    (round_trip carrier style call b t r s ok h)
