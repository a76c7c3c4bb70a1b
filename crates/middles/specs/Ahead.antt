-- Bytes in the middle of a field of a body.
use Rattle.std.specs.Prelude.{ℕ, ◌+◌, ◌-◌, cond, List, eqb, ltb, length, get_or, drop}
use Rattle.serial_rules.specs.Call.{string_limit, file_block}
use Rattle.serial_rules.specs.Body.{ended}

-- How many bytes behind the bytes s of a body need more, so long as they are plain (crate turns): up to the last byte of a block, to the place
-- where only a return may stand in a string, and to the name in OSFILE's block. Where a field of one byte comes next, none.
abbrev pub word_ahead : List ℕ → ℕ
word_ahead s = cond (ltb (length s) 2) 0 (get_or s 1 0 - (length s - 2))

abbrev pub find_ahead : List ℕ → ℕ
find_ahead s = cond (eqb (length s) 0) 0 (cond (eqb (get_or s 0 0) 0) 0 (string_limit + 1 - length s))

abbrev pub file_ahead : List ℕ → ℕ
file_ahead s = cond (ltb (length s) file_block) (file_block - length s) (cond (ended (drop file_block s)) 0 (string_limit + file_block - length s))

unfoldable pub ahead_in : ℕ → List ℕ → ℕ
ahead_in code s =
    cond (eqb code 0x02) (string_limit - length s)
    (cond (eqb code 0x08) (word_ahead s)
    (cond (eqb code 0x0A) (4 - length s)
    (cond (eqb code 0x0C) (5 - length s)
    (cond (eqb code 0x12) (find_ahead s)
    (cond (eqb code 0x14) (file_ahead s)
    (cond (eqb code 0x16) (13 - length s)
    0))))))
