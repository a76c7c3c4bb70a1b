-- The table of answers (document 01: "When, and only then"), beside the rules: theorem `answered_as_listed` says that they agree.
use Rattle.std.specs.Prelude.{ℕ, ◌≡◌, Bool, cond, not, ◌&&◌, eqb}
use Rattle.chip_rules.specs.State.{State, held, fed, toward, chan, Access}
use Rattle.chip_rules.specs.Rules.{decode, exists, room}
use Rattle.chip_rules.specs.History.{View, sound, broken, says, after}

-- 2: "data write to a channel without room"
abbrev pub writes_without_room : State → Access → Bool
writes_without_room s a =
    (decode a).is_data
    && (a.write && not (room s.flags (fed a.side (decode a).register) (held (chan s (fed a.side (decode a).register)))))

-- 3: "data read of an empty channel"
abbrev pub reads_empty : State → Access → Bool
reads_empty s a = (decode a).is_data && (not a.write && eqb (held (chan s (toward a.side (decode a).register))) 0)

-- "Access: 1, then 2 or 3."
abbrev pub listed : {K : Type 0} → View K → Access → ℕ
listed (broken k) a = 1
listed (sound s) a = cond (not (exists a)) 1 (cond (writes_without_room s a) 2 (cond (reads_empty s a) 3 0))

-- "chip unchanged, byte 0" on every answer but 0
pub record Answered {K : Type 0} (v : View K) (a : Access) : Type 0 where
  pub number : (says v a).answer ≡ listed v a
  pub byte : ((says v a).answer ≡ 0 → ⊥) → (says v a).byte ≡ 0
  pub left : ((says v a).answer ≡ 0 → ⊥) → after v a ≡ v
