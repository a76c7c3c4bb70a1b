-- The program's kinds, as the rules speak of them.
use Rattle.std.specs.Prelude.{ℕ, Option, Some, None}
use Rattle.serial_rules.specs.Reply as rules
use Rattle.kind.specs.declared.CallKind.{CallKind}
use Rattle.kind.specs.declared.CallKind.TheVariants.{Osrdch, Oscli, OsbyteLow, OsbyteHigh, Osword, Osword0, Osargs, Osbget, Osbput, OsfindClose, OsfindOpen, Osfile, Osgbpb}
use Rattle.kind.specs.declared.Form.{Form}
use Rattle.kind.specs.declared.Form.TheVariants.{CarryA, Ack, Byte, CarryYX, Block, Line, ABlock, Plain, BlockCarryA}

abbrev pub kind_for : CallKind → rules.Kind
kind_for Osrdch = rules.osrdch
kind_for Oscli = rules.oscli
kind_for OsbyteLow = rules.osbyte_low
kind_for OsbyteHigh = rules.osbyte_high
kind_for (Osword n) = rules.osword n
kind_for Osword0 = rules.osword0
kind_for Osargs = rules.osargs
kind_for Osbget = rules.osbget
kind_for Osbput = rules.osbput
kind_for OsfindClose = rules.osfind_close
kind_for OsfindOpen = rules.osfind_open
kind_for Osfile = rules.osfile
kind_for Osgbpb = rules.osgbpb

abbrev pub found_for : Option CallKind → rules.Found
found_for (Some kind) = rules.known (kind_for kind)
found_for None = rules.no_call

-- the rules' number of a form
abbrev pub form_number : Form → ℕ
form_number CarryA = 0
form_number Ack = 1
form_number Byte = 2
form_number CarryYX = 3
form_number Block = 4
form_number Line = 5
form_number ABlock = 6
form_number Plain = 7
form_number BlockCarryA = 8

-- the bytes lent for a reply
abbrev pub reply_lent : ℕ
reply_lent = 257
