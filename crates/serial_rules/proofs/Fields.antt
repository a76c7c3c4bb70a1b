-- The fields of a request that was written come out of its body as they went in.
use Prim.Native.Nat.{ℕ, suc, ◌-◌}
use mathlib.Core.Path.{◌≡◌, refl, sym, ap, ◌∙◌}
use mathlib.Core.Bool.{true, ◌&&◌, ◌||◌, not}
use mathlib.Core.List.{List, [], ◌∷◌, ◌++◌, append_assoc}
use native.Mathlib.Omega.{arith}
use lib.Dec.{eqb}
use lib.ListN.{length, take, length-append}
use lib.Seq.{take_at, drop_at, get_or_at}
use borrow.Author.Tests.{eqb-true, not-true}
use Rattle.serial_rules.specs.Call.{Call, osrdch, oscli, osbyte_low, osbyte_high, osword, osword0, osargs, osbget, osbput, osfind_close, osfind_open, osfile, osgbpb, code_of, body_of, return, numbers_ok, block_ok, has_string, has_return, call_ok}
use Rattle.serial_rules.specs.Fields.{fields, last, fields_of, asks, asked_by}
use Rattle.serial_rules.specs.Marks.{is_code}
use Rattle.serial_rules.specs.Reply.{kind_of, known, kind_in}
use Rattle.serial_rules.proofs.Trip.{and_both}

-- a call without a block or a string has an empty one beside it
none : (l : List ℕ) → eqb (length l) 0 ≡ true → l ≡ []
none [] h = refl
none (x ∷ l) h = let z = eqb-true (length (x ∷ l)) 0 h in absurd (omega arith)

record Parts (call : Call) (b t : List ℕ) : Type 0 where
  numbers : numbers_ok call ≡ true
  block : block_ok call (length b) ≡ true
  text : (has_string call || eqb (length t) 0) ≡ true

parts : (call : Call) (b t : List ℕ) → call_ok call b t ≡ true → Parts call b t
unfolding call_ok
parts call b t h =
    let x = and_both (numbers_ok call) (block_ok call (length b) && ((has_string call || eqb (length t) 0) && not (has_return t))) h in
    let y = and_both (block_ok call (length b)) ((has_string call || eqb (length t) 0) && not (has_return t)) x.1 in
    let z = and_both (has_string call || eqb (length t) 0) (not (has_return t)) y.1 in
    record { numbers = x.0; block = y.0; text = z.0 }

-- a list before a last byte
pub before_last : (l : List ℕ) (x : ℕ) → take (length (l ++ (x ∷ [])) - 1) (l ++ (x ∷ [])) ≡ l
before_last l x = take_at l (x ∷ []) (length (l ++ (x ∷ [])) - 1) (omega (arith, length-append l (x ∷ [])))

pub last_is : (l : List ℕ) (x : ℕ) → last (l ++ (x ∷ [])) ≡ x
last_is l x = get_or_at l x [] 0 (length (l ++ (x ∷ [])) - 1) (omega (arith, length-append l (x ∷ [])))

pub fields_back : (call : Call) (b t : List ℕ) → call_ok call b t ≡ true → fields_of (code_of call) (body_of call b t) ≡ fields call b t
unfolding code_of body_of fields_of
fields_back osrdch b t h = let p = parts osrdch b t h in rw (none b p.block, none t p.text)
fields_back oscli b t h = let p = parts oscli b t h in rw (none b p.block, before_last t return)
fields_back (osbyte_low x a) b t h = let p = parts (osbyte_low x a) b t h in rw (none b p.block, none t p.text)
fields_back (osbyte_high x y a) b t h = let p = parts (osbyte_high x y a) b t h in rw (none b p.block, none t p.text)
fields_back (osword a out) b t h =
    let p = parts (osword a out) b t h in
    rw (
      last_is (a ∷ length b ∷ b) out,
      take_at b (out ∷ []) (suc (suc (length (b ++ (out ∷ [])))) - 3) (omega (arith, length-append b (out ∷ []))),
      none t p.text,
    )
fields_back osword0 b t h = let p = parts osword0 b t h in rw (none t p.text)
fields_back (osargs y a) b t h =
    let p = parts (osargs y a) b t h in
    let four = eqb-true (length b) 4 p.block in
    rw (get_or_at b a [] 0 4 four, take_at b (a ∷ []) 4 four, none t p.text)
fields_back (osbget y) b t h = let p = parts (osbget y) b t h in rw (none b p.block, none t p.text)
fields_back (osbput y a) b t h = let p = parts (osbput y a) b t h in rw (none b p.block, none t p.text)
fields_back (osfind_close y) b t h = let p = parts (osfind_close y) b t h in rw (none b p.block, none t p.text)
fields_back (osfind_open a) b t h =
    let p = parts (osfind_open a) b t h in
    rw (
      not-true (eqb a 0) p.numbers,
      none b p.block,
      take_at t (return ∷ []) (suc (length (t ++ (return ∷ []))) - 2) (omega (arith, length-append t (return ∷ []))),
    )
fields_back (osfile a) b t h =
    let p = parts (osfile a) b t h in
    let sixteen = eqb-true (length b) 16 p.block in
    let name = t ++ (return ∷ a ∷ []) in
    let joined : (b ++ t ++ (return ∷ [])) ++ (a ∷ []) ≡ b ++ name =
    append_assoc (b ++ t) (return ∷ []) (a ∷ []) ∙ append_assoc b t (return ∷ a ∷ []) in
    let end : last (b ++ name) ≡ a = ap last (sym joined) ∙ last_is (b ++ t ++ (return ∷ [])) a in
    let long : length (b ++ name) - 18 ≡ length t = omega (arith, length-append b name, length-append t (return ∷ a ∷ [])) in
    rw (end, take_at b name 16 sixteen, drop_at b name 16 sixteen, long, take_at t (return ∷ a ∷ []) (length t) refl)
fields_back (osgbpb a) b t h =
    let p = parts (osgbpb a) b t h in
    let thirteen = eqb-true (length b) 13 p.block in
    rw (get_or_at b a [] 0 13 thirteen, take_at b (a ∷ []) 13 thirteen, none t p.text)

-- every call has a code of the table
pub code_listed : (call : Call) → is_code (code_of call) ≡ true
unfolding code_of
code_listed osrdch = refl
code_listed oscli = refl
code_listed (osbyte_low x a) = refl
code_listed (osbyte_high x y a) = refl
code_listed (osword a out) = refl
code_listed osword0 = refl
code_listed (osargs y a) = refl
code_listed (osbget y) = refl
code_listed (osbput y a) = refl
code_listed (osfind_close y) = refl
code_listed (osfind_open a) = refl
code_listed (osfile a) = refl
code_listed (osgbpb a) = refl

-- what a request that was written asks, and its kind, come out of its code and body
pub asked_back : (call : Call) (b t : List ℕ) → call_ok call b t ≡ true → asked_by (code_of call) (body_of call b t) ≡ asks (fields call b t)
unfolding asked_by
asked_back call b t h = rw (code_listed call, fields_back call b t h)

pub kind_back_lem : (call : Call) (b t : List ℕ) → call_ok call b t ≡ true → kind_in (code_of call) (body_of call b t) ≡ known (kind_of call)
unfolding kind_in
kind_back_lem call b t h = rw (code_listed call, fields_back call b t h)
