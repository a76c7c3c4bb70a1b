-- Runs of plain bytes: what can be copied without a look at each of them.
use Rattle.std.specs.Prelude.{ℕ, zero, suc, ◌≡◌, Bool, true, cond, not, ◌&&◌, List, [], ◌∷◌, eqb, length, take}
use Rattle.serial_rules.specs.Escape.{escape}
use Rattle.serial_rules.specs.Call.{return}
use Rattle.escape.specs.Put.{over}

-- neither the escape nor the return: such a byte is data in itself on either carrier, and it ends no string
abbrev pub plain : ℕ → Bool
plain b = not (eqb b escape) && not (eqb b return)

-- not the escape: such a byte is data in itself on the serial lead
abbrev pub is_data : ℕ → Bool
is_data b = not (eqb b escape)

-- bytes each of which is of a kind
pub data All (p : ℕ → Bool) : List ℕ → Type 0 where
  none : All p []
  one : {b : ℕ} {l : List ℕ} → p b ≡ true → All p l → All p (b ∷ l)

abbrev pub Plains : List ℕ → Type 0
Plains l = All plain l

-- how many bytes of a kind stand at the start, at most n
unfoldable pub run_of : (ℕ → Bool) → ℕ → List ℕ → ℕ
run_of p zero l = 0
run_of p (suc n) [] = 0
run_of p (suc n) (b ∷ l) = cond (p b) (suc (run_of p n l)) 0

-- What `copy_plain` promises of the raw bytes, the lent bytes before and after, and the result.
pub record PlainDone (raw out : List ℕ) (r : ℕ) (left : List ℕ) : Type 0 where
  pub count : r ≡ run_of plain (length out) raw
  pub bytes : left ≡ over (take r raw) out
