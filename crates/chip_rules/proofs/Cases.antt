-- The worked cases, by computation: each row is answered, and each case ends, as it is written down.
use mathlib.Core.Path.{◌≡◌, refl}
use mathlib.Core.List.{map}
use Rattle.chip_rules.specs.Rules.{capacity, room, n_flag, ready, low, status, control, clears, emptied, fresh, lines, take_oldest, append, perform}
use Rattle.chip_rules.specs.Cases.{answered, ended, worked, cases, further_cases}

pub every_case : map worked cases ≡ cases
unfolding capacity room n_flag ready low status control clears emptied fresh lines take_oldest append perform answered ended worked cases
every_case = refl

pub every_further_case : map worked further_cases ≡ further_cases
unfolding capacity room n_flag ready low status control clears emptied fresh lines take_oldest append perform answered ended worked further_cases
every_further_case = refl
