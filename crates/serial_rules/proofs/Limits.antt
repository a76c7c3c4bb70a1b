-- The limits of marks, strings, replies and begun calls, each beside its sentence and not by the test that the rules make of it.
use Prim.Native.Nat.{ℕ, ◌≤◌, ◌<◌, ◌/◌, ◌%◌}
use native.Mathlib.Omega.{arith}
use mathlib.Core.Path.{◌≡◌, refl, sym, ap, ◌∙◌}
use mathlib.Core.Bool.{Bool, true, false, not, ◌&&◌, true≢false}
use lib.Dec.{eqb, leb}
use borrow.Author.Tests.{le-ltb, lt-ltb, le-leb, leb-true, eq-eqb, eqb-false, not-true}
use Rattle.serial_rules.specs.Marks.{bit, is_code, style_of, code_in, starts_request}
use Rattle.serial_rules.specs.Call.{return, Carrier, serial, parallel, style_ok}
use Rattle.serial_rules.specs.Body.{more, refused, string_turn, name_turn}
use Rattle.serial_rules.specs.Fields.{asks_nothing, asked_by}
use Rattle.serial_rules.specs.Reader.{starts}
use Rattle.serial_rules.specs.Reply.{Kind, no_call, kind_in, shape_of, longest, reply_turn}
use Rattle.serial_rules.specs.Link.{Layer, frame, idle, waiting, live, stopped, denied, begins, begin_none}
use mathlib.Core.List.{List}
use lib.ListN.{length}

-- "bits 7 and 0 must be 0"; on the parallel side the code is plain, and odd ones are not listed
pub bit_7_set : (m : ℕ) → bit m 128 ≡ true → starts_request m ≡ false
unfolding starts_request
bit_7_set m h = rw h

pub odd_code : (code : ℕ) → bit code 1 ≡ true → is_code code ≡ false
odd_code code h = rw h

right_false : (a : Bool) → (a && false) ≡ false
right_false true = refl
right_false false = refl

pub bit_0_set : (m : ℕ) → bit m 1 ≡ true → starts_request m ≡ false
unfolding starts_request
bit_0_set m h =
    let low : m % 32 / 1 % 2 ≡ m / 1 % 2 = omega arith in
    rw (odd_code (code_in m) (ap (λ (k : ℕ). eqb k 1) low ∙ h)) (right_false (not (bit m 128)))

-- the highest code of the table
right_of : (a b : Bool) → a && b ≡ true → b ≡ true
right_of true b h = h
right_of false b h = absurd (true≢false (sym h))

left_of : (a b : Bool) → a && b ≡ true → a ≡ true
left_of true b h = refl
left_of false b h = h

pub code_most : (code : ℕ) → is_code code ≡ true → code ≤ 0x16
code_most code h = leb-true code 0x16 (right_of (not (bit code 1)) (leb code 0x16) h)

-- a mark that starts a request has a style of its carrier
pub starts_style : (carrier : Carrier) (m : ℕ) → m ≤ 255 → starts carrier m ≡ true → style_ok carrier (style_of m) ≡ true
unfolding starts_request
starts_style serial m h s =
    let n = eqb-false (m / 128 % 2) 1 (not-true (bit m 128) (left_of (not (bit m 128)) (is_code (code_in m)) s)) in
    le-leb (m / 32) 3 (omega (arith, n))
starts_style parallel m h s = let n = code_most m s in eq-eqb (m / 32) 0 (omega arith)

-- "a string at its 256th byte": 255 bytes stand before it, and it is no return. A byte before that goes on.
module _ (n b : ℕ) (other : eqb b return ≡ false) where
  pub string_over : 255 ≤ n → string_turn n b ≡ refused 6
  string_over h = simp (other, le-ltb n 255 h)

  pub name_over : 255 ≤ n → name_turn n b ≡ refused 6
  name_over h = simp (other, le-ltb n 255 h)

  pub string_more : n < 255 → string_turn n b ≡ more
  string_more h = simp (other, lt-ltb n 255 h)

  pub name_more : n < 255 → name_turn n b ≡ more
  name_more h = simp (other, lt-ltb n 255 h)

pub name_return : (n : ℕ) → n ≤ 255 → name_turn n return ≡ more
name_return n h = simp (le-leb n 255 h)

-- A byte of a reply on the parallel side that has had all its bytes is 7, whatever it is; so is any of one that has none.
pub reply_over : (k : Kind) (s : List ℕ) (b : ℕ) → longest (shape_of k) ≤ length s → reply_turn k s b ≡ refused 7
unfolding reply_turn
reply_over k s b h = simp (le-ltb (length s) (longest (shape_of k)) h)

-- "Begun call: 7, 12", then 4 of a call that is none
pub none_stopped : begin_none stopped ≡ begins (denied 7) stopped
unfolding begin_none
none_stopped = refl

pub none_waiting : (l : Layer) (k : Kind) (s : List ℕ) → (begin_none (live l (frame (waiting k) s))).answer ≡ denied 12
unfolding begin_none
none_waiting l k s = refl

pub none_idle : (l : Layer) (s : List ℕ) → (begin_none (live l (frame idle s))).answer ≡ denied 4
unfolding begin_none
none_idle l s = refl

-- a code that no request has
pub no_code : (code : ℕ) (s : List ℕ) → is_code code ≡ false → (kind_in code s ≡ no_call) × (asked_by code s ≡ asks_nothing)
unfolding kind_in asked_by
no_code code s h = (rw h, rw h)
