-- Every listed pair conflicts and differs, by computation: no case of document 01's list could be left out.
use mathlib.Core.Path.{◌≡◌, refl}
use mathlib.Core.Bool.{true, xor}
use mathlib.Core.List.{map}
use lib.ListN.{length, replicate}
use Rattle.chip_rules.specs.Rules.{capacity, room, n_flag, ready, low, status, control, clears, emptied, take_oldest, append, perform}
use Rattle.chip_rules.specs.Conflict.{tight, requests_conflict}
use Rattle.chip_rules.specs.Differ.{differs, pairs}

pub every_pair_differs : map differs pairs ≡ replicate (length pairs) true
unfolding capacity room n_flag ready low status control clears emptied take_oldest append perform tight xor requests_conflict differs pairs
every_pair_differs = refl
