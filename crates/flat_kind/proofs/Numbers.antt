-- The conversions between a kind and its number, there and back.
use Prim.Native.Nat.{ℕ, zero, suc, ◌≤◌, ◌<◌}
use native.Mathlib.Omega.{arith}
use mathlib.Core.Path.{◌≡◌, refl}
use mathlib.Core.Bool.{Bool, true, false, cond}
use lib.Dec.{leb}
use borrow.Author.Tests.{leb-true, leb-false}
use Rattle.std.specs.Prelude.{Some, None}
use Rattle.kind.specs.declared.CallKind.{CallKind}
use Rattle.kind.specs.declared.CallKind.TheVariants.{Osrdch, Oscli, OsbyteLow, OsbyteHigh, Osword, Osword0, Osargs, Osbget, Osbput, OsfindClose, OsfindOpen, Osfile, Osgbpb}
use Rattle.flat_kind.specs.Kinds.{kind_at, last_call, known_kind, kind_number, kind_out}

-- what holds of the numbers below m, one by one, holds of every one of them
unfoldable pub Each : (ℕ → Type 0) → ℕ → Type 0
Each P zero = Unit
Each P (suc m) = P 0 × Each (λ (n : ℕ). P (suc n)) m

pub each : (P : ℕ → Type 0) (m : ℕ) → Each P m → (n : ℕ) → n < m → P n
unfolding Each
each P zero e n h = absurd (omega arith)
each P (suc m) e zero h = e.0
each P (suc m) e (suc n) h = each (λ (k : ℕ). P (suc k)) m e.1 n (omega arith)

-- from a kind and back
pub kind_back_lem : (given : ℕ) (k : CallKind) → kind_at (kind_number k) (kind_out given k) ≡ k
kind_back_lem given Osrdch = refl
kind_back_lem given Oscli = refl
kind_back_lem given OsbyteLow = refl
kind_back_lem given OsbyteHigh = refl
kind_back_lem given (Osword n) = refl
kind_back_lem given Osword0 = refl
kind_back_lem given Osargs = refl
kind_back_lem given Osbget = refl
kind_back_lem given Osbput = refl
kind_back_lem given OsfindClose = refl
kind_back_lem given OsfindOpen = refl
kind_back_lem given Osfile = refl
kind_back_lem given Osgbpb = refl

-- the number of a kind is in range
pub kind_tag : (k : CallKind) → kind_number k ≤ 12
kind_tag Osrdch = omega arith
kind_tag Oscli = omega arith
kind_tag OsbyteLow = omega arith
kind_tag OsbyteHigh = omega arith
kind_tag (Osword n) = omega arith
kind_tag Osword0 = omega arith
kind_tag Osargs = omega arith
kind_tag Osbget = omega arith
kind_tag Osbput = omega arith
kind_tag OsfindClose = omega arith
kind_tag OsfindOpen = omega arith
kind_tag Osfile = omega arith
kind_tag Osgbpb = omega arith

-- from a number and back
abbrev pub KindSame : ℕ → ℕ → Type 0
KindSame out n = (kind_number (kind_at n out) ≡ n) × (kind_out out (kind_at n out) ≡ out)

pub kind_same : (out n : ℕ) → n < 13 → KindSame out n
unfolding Each
kind_same out = each (KindSame out) 13
    ((refl, refl), ((refl, refl), ((refl, refl), ((refl, refl), ((refl, refl), ((refl, refl), ((refl, refl), ((refl, refl), ((refl, refl), ((refl, refl), ((refl, refl), ((refl, refl), ((refl, refl), tt)))))))))))))

-- a number of a call, and one of none
pub kind_known : (n out : ℕ) {k : CallKind} → Some k ≡ known_kind n out → (n ≤ last_call) × (k ≡ kind_at n out)
kind_known n out {k} e = go (leb n last_call) refl e
  where
    go : (t : Bool) → leb n last_call ≡ t → Some k ≡ cond t (Some (kind_at n out)) None → (n ≤ last_call) × (k ≡ kind_at n out)
    go true low e = (leb-true n last_call low, cc)
    go false high e = cc

pub kind_unknown : (n out : ℕ) → None ≡ known_kind n out → last_call < n
kind_unknown n out e = go (leb n last_call) refl e
  where
    go : (t : Bool) → leb n last_call ≡ t → None ≡ cond t (Some (kind_at n out)) None → last_call < n
    go true low e = cc
    go false high e = leb-false n last_call high
