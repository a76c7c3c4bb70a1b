-- Chains of steps one behind the other, and what of them is passed over.
use Prim.Native.Nat.{ℕ, zero, suc, ◌-◌}
use mathlib.Core.Path.{◌≡◌, refl}
use mathlib.Core.Bool.{true}
use mathlib.Core.List.{List, [], ◌∷◌, ◌++◌, map}
use native.Mathlib.Omega.{arith}
use lib.ListN.{length, take, drop, replicate, length-drop}
use lib.Seq.{take_all}
use Rattle.serial_rules.specs.Link as rules
use Rattle.serial_rules.specs.Record.{passes}
use Rattle.link.specs.declared.Link.{Link}
use Rattle.link.specs.declared.Stepped.{Stepped}
use Rattle.link.specs.View.{StepDone}
use Rattle.answers.specs.Reports.{report_of}
use Rattle.link_loop.specs.Run.{Runs, stop, took, Passed, none, next}

pub runs_more : {l q : Link} {reply own reply-mid own-mid reply-end own-end raw : List ℕ} {x : ℕ} {o : Stepped} {reports : List rules.Report}
    → Runs l reply own raw reports q reply-mid own-mid → StepDone q reply-mid own-mid x o reply-end own-end
    → Runs l reply own (raw ++ (x ∷ [])) (reports ++ (report_of o.answer reply-end own-end ∷ [])) o.link reply-end own-end
runs_more stop d = took d stop
runs_more (took e r) d = took e (runs_more r d)

pub runs_join : {l q p : Link} {reply own reply-mid own-mid reply-end own-end raw more : List ℕ} {reports others : List rules.Report}
    → Runs l reply own raw reports q reply-mid own-mid → Runs q reply-mid own-mid more others p reply-end own-end
    → Runs l reply own (raw ++ more) (reports ++ others) p reply-end own-end
runs_join stop r = r
runs_join (took e s) r = took e (runs_join s r)

pub passed_more : {l : List rules.Report} → Passed l → (r : rules.Report) → passes r ≡ true → Passed (l ++ (r ∷ []))
passed_more none r h = next h none
passed_more (next e p) r h = next e (passed_more p r h)

pub passed_waits : {l : List rules.Report} → Passed l → (n : ℕ) → Passed (l ++ replicate n rules.need_more)
unfolding passes
passed_waits (next e p) n = next e (passed_waits p n)
passed_waits none zero = none
passed_waits none (suc n) = next refl (passed_waits none n)

pub passed_loads : {l : List rules.Report} → Passed l → (w : List ℕ) → Passed (l ++ map rules.loaded w)
unfolding passes
passed_loads (next e p) w = next e (passed_loads p w)
passed_loads none [] = none
passed_loads none (b ∷ w) = next refl (passed_loads none w)

-- the raw bytes from a place on, as they are lent
pub tail_all : (raw : List ℕ) (j : ℕ) → take (length raw - j) (drop j raw) ≡ drop j raw
tail_all raw j = take_all (length raw - j) (drop j raw) (simp length-drop (omega arith))
