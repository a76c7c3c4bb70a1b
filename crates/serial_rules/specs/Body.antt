-- One data byte against the body so far: the whole of the request protocol inside a request.
use Rattle.std.specs.Prelude.{ℕ, ◌-◌, Bool, false, cond, List, [], ◌∷◌, ltb, leb, eqb, length, drop}
use Rattle.serial_rules.specs.Call.{return, string_limit, file_block}

pub data Turn : Type 0 where
  more : Turn
  done : Turn
  refused : ℕ → Turn

-- a byte of a string, after n bytes of it: &0D ends it, and the 256th byte is refused ("a string at its 256th byte")
abbrev pub string_turn : ℕ → ℕ → Turn
string_turn n b = cond (eqb b return) done (cond (ltb n string_limit) more (refused 6))

-- the byte at index n of a body whose last byte has the index `last`
abbrev pub fixed_turn : ℕ → ℕ → Turn
fixed_turn n last = cond (ltb n last) more done

-- the same, where the last byte has to pass a test
abbrev pub checked_turn : ℕ → ℕ → Bool → Turn
checked_turn n last ok = cond (ltb n last) more (cond ok done (refused 9))

-- OSWORD: "A (not 0), in length (0 to 255), that many bytes, out length"; "OSWORD with A = 0 at that A"
abbrev pub word_turn : List ℕ → ℕ → Turn
word_turn [] b = cond (eqb b 0) (refused 9) more
word_turn (a ∷ []) b = more
word_turn (a ∷ k ∷ s) b = fixed_turn (length s) k

-- OSFIND: "0 Y, or A (not 0) string"
abbrev pub find_turn : List ℕ → ℕ → Turn
find_turn [] b = more
find_turn (a ∷ s) b = cond (eqb a 0) done (string_turn (length s) b)

-- a byte of a string that another field follows, after n bytes of it
abbrev pub name_turn : ℕ → ℕ → Turn
name_turn n b = cond (eqb b return) (cond (leb n string_limit) more (refused 6)) (cond (ltb n string_limit) more (refused 6))

-- the last byte is the &0D that ends a string
unfoldable pub ended : List ℕ → Bool
ended [] = false
ended (x ∷ []) = eqb x return
ended (x ∷ y ∷ s) = ended (y ∷ s)

-- OSFILE: "16 bytes, string, A"; "the name is read from the part of the body that starts after the block". The byte after the &0D is A.
abbrev pub file_turn : List ℕ → ℕ → Turn
file_turn s b = cond (ltb (length s) file_block) more (cond (ended (drop file_block s)) done (name_turn (length s - file_block) b))

-- the turn of a data byte b after the body bytes s of a request with this code; a code without a body takes none
unfoldable pub body_turn : ℕ → List ℕ → ℕ → Turn
body_turn code s b =
    cond (eqb code 0x02) (string_turn (length s) b)
    (cond (eqb code 0x04) (checked_turn (length s) 1 (ltb b 0x80))
    (cond (eqb code 0x06) (checked_turn (length s) 2 (leb 0x80 b))
    (cond (eqb code 0x08) (word_turn s b)
    (cond (eqb code 0x0A) (fixed_turn (length s) 4)
    (cond (eqb code 0x0C) (fixed_turn (length s) 5)
    (cond (eqb code 0x0E) (fixed_turn (length s) 0)
    (cond (eqb code 0x10) (fixed_turn (length s) 1)
    (cond (eqb code 0x12) (find_turn s b)
    (cond (eqb code 0x14) (file_turn s b)
    (cond (eqb code 0x16) (fixed_turn (length s) 13)
    (refused 4)))))))))))

-- how many bytes the longest body of a code has; 0 for a code without a body
unfoldable pub longest_body : ℕ → ℕ
longest_body code =
    cond (eqb code 0x02) 256
    (cond (eqb code 0x04) 2
    (cond (eqb code 0x06) 3
    (cond (eqb code 0x08) 258
    (cond (eqb code 0x0A) 5
    (cond (eqb code 0x0C) 6
    (cond (eqb code 0x0E) 1
    (cond (eqb code 0x10) 2
    (cond (eqb code 0x12) 257
    (cond (eqb code 0x14) 273
    (cond (eqb code 0x16) 14
    0))))))))))
