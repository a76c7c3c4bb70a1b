-- What reading the fields of a request promises.
use Rattle.std.specs.Prelude.{ℕ, ◌+◌, ◌≡◌, Option, Some, None, true, false, cond, List, eqb, length, take, drop}
use Rattle.serial_rules.specs.Marks.{is_code}
use Rattle.serial_rules.specs.Call.{Call, has_string}
use Rattle.serial_rules.specs.Fields as rules
use Rattle.calls.specs.Calls.{call_of}
use Rattle.calls.specs.Rows.{block_length, head_of}
use Rattle.places.specs.Part.{PartDone}
use Rattle.calls.specs.declared.Call as program
use Rattle.places.specs.declared.Fields.{Fields}

-- A request read: its call with its numbers, and where its block and its string lie in the body.
abbrev pub Asked : Type 0
Asked = Fields program.Call

-- the fields of its call and of the parts of the body s that are its block and its string
abbrev pub fields_in : Asked → List ℕ → rules.Fields
fields_in a s = rules.fields (call_of a.said) (take a.block.length (drop a.block.start s)) (take a.text.length (drop a.text.start s))

-- how many bytes of a body stand before the block, the numbers before it; and before the string, the block too. What a call lacks is at 0.
abbrev pub block_before : Call → ℕ
block_before c = cond (eqb (block_length c 1) 0) 0 (length (head_of c 0))

abbrev pub text_before : Call → ℕ
text_before c = cond (has_string c) (length (head_of c 0) + block_length c 0) 0

-- The result has the fields f of the rules, and their parts are at their places in the body.
pub record AskedDone (s : List ℕ) (f : rules.Fields) (r : Asked) : Type 0 where
  pub call_is : call_of r.said ≡ f.call
  pub block_at : PartDone s (block_before f.call) f.block r.block
  pub text_at : PartDone s (text_before f.call) f.text r.text

-- What `read_request` promises of the code, the body and the result: the fields of a request, and no call just where no request has the code.
abbrev pub IsRequestRead : ℕ → List ℕ → Option Asked → Type 0
IsRequestRead code s (Some a) = (is_code code ≡ true) × AskedDone s (rules.fields_of code s) a
IsRequestRead code s None = is_code code ≡ false
