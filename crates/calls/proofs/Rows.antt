-- What a row of the request table says of the rules of its call and of its body; what is given, against a row; the heading.
use Prim.Native.Nat.{ℕ, ◌+◌, ◌*◌, ◌≤◌}
use native.Mathlib.Omega.{arith}
use mathlib.Core.Path.{◌≡◌, refl}
use mathlib.Core.Bool.{Bool, true, false, cond, not, ◌&&◌, ◌||◌}
use mathlib.Core.List.{List, [], ◌∷◌, ◌++◌, append-nil}
use borrow.Author.Tests.{eq-eqb, ne_eqb, eqb-true, leb-true, leb-false}
use lib.Dec.{eqb, leb}
use lib.ListN.{length}
use Rattle.serial_rules.specs.Escape.{escape}
use Rattle.serial_rules.specs.Call.{Call, osrdch, oscli, osbyte_low, osbyte_high, osword, osword0, osargs, osbget, osbput, osfind_close, osfind_open, osfile, osgbpb, code_of, body_of, block_ok, has_string, numbers_ok, has_return, call_ok, heading, style_ok, encoding_of}
use Rattle.serial_rules.proofs.Trip.{and_both}
use Rattle.serial_rules.proofs.Replies.{no_text}
use Rattle.carrier.specs.declared.Carrier.{Carrier}
use Rattle.carrier.specs.declared.Carrier.TheVariants.{Serial, Parallel}
use Rattle.carrier.specs.Carriers.{carrier_of}
use Rattle.room.specs.Carriers.{coded}
use Rattle.fields.proofs.Padded.{padded_take}
use Rattle.fields.proofs.Wrote.{no_string}
use Rattle.calls.specs.Rows.{length_byte, head_in, tail_in, given_ok, block_length, head_of, tail_of, row_of, row_raw}

-- The length that a row asks of the block is the one that the call's rule asks; OSWORD takes every length that is a byte.
any_byte : (n : ℕ) (t : Bool) → leb n 255 ≡ t → eqb n (cond t n 0) ≡ t
any_byte n true e = eq-eqb n n refl
any_byte n false e = ne_eqb n 0 (λ z. omega (arith, z, leb-false n 255 e))

block_same : (call : Call) (n : ℕ) → eqb n (block_length call (length_byte n)) ≡ block_ok call n
block_same osrdch n = refl
block_same oscli n = refl
block_same (osbyte_low x a) n = refl
block_same (osbyte_high x y a) n = refl
block_same (osword a out) n = any_byte n (leb n 255) refl
block_same osword0 n = refl
block_same (osargs y a) n = refl
block_same (osbget y) n = refl
block_same (osbput y a) n = refl
block_same (osfind_close y) n = refl
block_same (osfind_open a) n = refl
block_same (osfile a) n = refl
block_same (osgbpb a) n = refl

-- The body is the numbers before, the block, the string and the numbers behind; a block or string that the call does not have is empty.
body_same : (call : Call) (b t : List ℕ) → block_ok call (length b) ≡ true → (has_string call || eqb (length t) 0) ≡ true
    → head_of call (length_byte (length b)) ++ (b ++ (t ++ tail_of call)) ≡ body_of call b t
unfolding body_of
body_same osrdch b t h k = rw (no_text b h, no_text t k)
body_same oscli b t h k = rw (no_text b h)
body_same (osbyte_low x a) b t h k = rw (no_text b h, no_text t k)
body_same (osbyte_high x y a) b t h k = rw (no_text b h, no_text t k)
body_same (osword a out) b t h k = rw (h, no_text t k)
body_same osword0 b t h k = rw (no_text t k, append-nil)
body_same (osargs y a) b t h k = rw (no_text t k)
body_same (osbget y) b t h k = rw (no_text b h, no_text t k)
body_same (osbput y a) b t h k = rw (no_text b h, no_text t k)
body_same (osfind_close y) b t h k = rw (no_text b h, no_text t k)
body_same (osfind_open a) b t h k = rw (no_text b h)
body_same (osfile a) b t h k = refl
body_same (osgbpb a) b t h k = rw (no_text t k)

-- a code is at most 22
code_small : (call : Call) → code_of call ≤ 22
unfolding code_of
code_small osrdch = omega arith
code_small oscli = omega arith
code_small (osbyte_low x a) = omega arith
code_small (osbyte_high x y a) = omega arith
code_small (osword a out) = omega arith
code_small osword0 = omega arith
code_small (osargs y a) = omega arith
code_small (osbget y) = omega arith
code_small (osbput y a) = omega arith
code_small (osfind_close y) = omega arith
code_small (osfind_open a) = omega arith
code_small (osfile a) = omega arith
code_small (osgbpb a) = omega arith

-- The numbers of the row of a call are those of its body; its code is small.
module _ (call : Call) (n : ℕ) where
  pub row_head : head_in (row_of call n) ≡ head_of call n
  unfolding row_of
  row_head = padded_take 3 (head_of call n)

  pub row_tail : tail_in (row_of call n) ≡ tail_of call
  unfolding row_of
  row_tail = padded_take 2 (tail_of call)

  pub row_code : (row_of call n).code ≤ 22
  unfolding row_of
  row_code = code_small call

-- What the row of a call says of it.
module _ (call : Call) (b t : List ℕ) where
  pub rules_same : given_ok (row_of call (length_byte (length b))) b t ≡ call_ok call b t
  unfolding row_of given_ok call_ok
  rules_same = rw block_same

  pub row_encoding : (carrier : Carrier) (style : ℕ) → call_ok call b t ≡ true
      → row_raw carrier style (row_of call (length_byte (length b))) b t ≡ encoding_of (carrier_of carrier) style call b t
  unfolding row_of encoding_of coded call_ok
  row_encoding carrier style ok =
      let strings = (has_string call || eqb (length t) 0) && not (has_return t) in
      let y = and_both (numbers_ok call) (block_ok call (length b) && strings) ok in
      let z = and_both (block_ok call (length b)) strings y.1 in
      let k = and_both (has_string call || eqb (length t) 0) (not (has_return t)) z.1 in
      rw (row_head, row_tail, body_same call b t z.0 k.0)

-- a string that a row does not have is empty, and then holds no return
pub no_string_given : (t : List ℕ) → eqb (length t) 0 ≡ (eqb (length t) 0 && not (has_return t))
no_string_given t = no_string t

-- The heading is the escape and the mark, or on the parallel side the second alone, which is the plain code.
pub style_fits : (carrier : Carrier) (style : ℕ) → style_ok (carrier_of carrier) style ≡ true → style ≤ 3
style_fits Serial style h = leb-true style 3 h
style_fits Parallel style h = omega (arith, eqb-true style 0 h)

pub heading_serial : (style code : ℕ) → escape ∷ (style * 32 + code) ∷ [] ≡ heading (carrier_of Serial) style code
heading_serial style code = refl

pub heading_parallel : (style code : ℕ) → style_ok (carrier_of Parallel) style ≡ true → (style * 32 + code) ∷ [] ≡ heading (carrier_of Parallel) style code
heading_parallel style code ok = let plain : style * 32 + code ≡ code = omega (arith, eqb-true style 0 ok) in rw plain
