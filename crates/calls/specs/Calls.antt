-- The calls of the program, as the rules speak of them.
use Rattle.serial_rules.specs.Call as rules
use Rattle.calls.specs.declared.Call.{Call}
use Rattle.calls.specs.declared.Call.TheVariants.{Osrdch, Oscli, OsbyteLow, OsbyteHigh, Osword, Osword0, Osargs, Osbget, Osbput, OsfindClose, OsfindOpen, Osfile, Osgbpb}

abbrev pub call_of : Call → rules.Call
call_of Osrdch = rules.osrdch
call_of Oscli = rules.oscli
call_of (OsbyteLow x a) = rules.osbyte_low x a
call_of (OsbyteHigh x y a) = rules.osbyte_high x y a
call_of (Osword a out) = rules.osword a out
call_of Osword0 = rules.osword0
call_of (Osargs y a) = rules.osargs y a
call_of (Osbget y) = rules.osbget y
call_of (Osbput y a) = rules.osbput y a
call_of (OsfindClose y) = rules.osfind_close y
call_of (OsfindOpen a) = rules.osfind_open a
call_of (Osfile a) = rules.osfile a
call_of (Osgbpb a) = rules.osgbpb a
