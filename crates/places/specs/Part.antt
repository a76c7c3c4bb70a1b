-- A part of bytes, as the program tells it.
use Rattle.std.specs.Prelude.{ℕ, List}
use Rattle.serial_rules.specs.Places.{PartAt}
use Rattle.places.specs.declared.Part.{Part}
use Rattle.places.specs.declared.Fields.{Fields}

-- the part is those bytes of s, behind the first `before` of them or at the end where s has fewer
abbrev pub PartDone : List ℕ → ℕ → List ℕ → Part → Type 0
PartDone s before bytes r = PartAt s before bytes r.start r.length

abbrev pub none : Part
none = record { start = 0; length = 0 }

-- what was said, with its block and its string
abbrev pub fields_at : {T : Type 0} → T → Part → Part → Fields T
fields_at said block text = record { said = said; block = block; text = text }
