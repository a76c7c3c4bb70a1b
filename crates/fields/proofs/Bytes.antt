-- The raw bytes of one data byte, and of one more.
use Prim.Native.Nat.{ℕ, ◌+◌, ◌≤◌}
use native.Mathlib.Omega.{arith}
use mathlib.Core.Path.{◌≡◌, refl, ap, ◌∙◌}
use mathlib.Core.Bool.{Bool, true, false, cond}
use mathlib.Core.List.{List, [], ◌∷◌}
use lib.ListN.{length, set}
use lib.Dec.{eqb}
use borrow.Author.Tests.{eqb-true}
use Rattle.serial_rules.specs.Escape.{escape, escaped}
use Rattle.serial_rules.proofs.Escape.{escaped_one}
use Rattle.escape.specs.Layer.{is_escape}
use Rattle.escape.specs.Put.{over, Put}

-- one byte stored at the start, once or twice
set_once : (out : List ℕ) (b : ℕ) → 1 ≤ length out → set (set out 0 b) 0 b ≡ over (b ∷ []) out
set_once [] b h = let z : ⊥ = omega arith in absurd z
set_once (x ∷ out) b h = refl

set_twice : (out : List ℕ) (b : ℕ) → 2 ≤ length out → set (set out 0 b) 1 b ≡ over (b ∷ b ∷ []) out
set_twice [] b h = let z : ⊥ = omega arith in absurd z
set_twice (x ∷ []) b h = let z : ⊥ = omega arith in absurd z
set_twice (x ∷ y ∷ out) b h = refl

-- One data byte, the escape twice, any other once: its length, and its write.
one_escape : (b : ℕ) → eqb b escape ≡ true → escaped (b ∷ []) ≡ b ∷ b ∷ []
one_escape b e = escaped_one b ∙ rw (e, eqb-true b escape e)

one_plain : (b : ℕ) → eqb b escape ≡ false → escaped (b ∷ []) ≡ b ∷ []
one_plain b e = escaped_one b ∙ rw e

pub one_length : (b : ℕ) → length (escaped (b ∷ [])) ≡ 1 + is_escape b
one_length b = go (eqb b escape) refl
  where
    go : (t : Bool) → eqb b escape ≡ t → length (escaped (b ∷ [])) ≡ 1 + cond t 1 0
    go true e = rw (one_escape b e)
    go false e = rw (one_plain b e)

pub put_one : (b : ℕ) {out : List ℕ} {more : ℕ} → more ≡ is_escape b → length (escaped (b ∷ [])) ≤ length out
    → Put (escaped (b ∷ [])) out (set (set out 0 b) more b) (1 + more)
put_one b {out} {more} m h = go (eqb b escape) refl m
  where
    go : (t : Bool) → eqb b escape ≡ t → more ≡ cond t 1 0 → Put (escaped (b ∷ [])) out (set (set out 0 b) more b) (1 + more)
    go true e k = let w = one_escape b e in let n = ap length w in
        rw (w, k) (record { count = refl; bytes = set_twice out b (omega arith); room = omega arith })
    go false e k = let w = one_plain b e in let n = ap length w in
        rw (w, k) (record { count = refl; bytes = set_once out b (omega arith); room = omega arith })
