-- The test of each channel, computed for all eight.
use Rattle.std.proofs.Common.{rules, tests}
use Rattle.std.proofs.lemmas.Iterator.{YieldsList-from_range}
use Rattle.std.proofs.lemmas.Iterator.Search.{all_from_yields_List}
use lib.Dec.{leb}
use mathlib.Core.Path.{refl, ◌∙◌}
use Rattle.word.specs.Word.{power, digit}
use Rattle.chip_rules.specs.Rules.{capacity}
use Rattle.chip.specs.Record.{valid_of}
use Rattle.chip.proofs.Chip.is_valid.Goals as goal

pub returns : goal.returns
unfolding valid_of capacity digit power
returns c =
    all_from_yields_List (λ k. leb (digit c.args.self.held k) (digit 0x0101020201010A01 k)) _ _ _ c.all.ensures.ran (YieldsList-from_range 0 8 8 refl refl) (λ x b q k. search (rules, tests))
    ∙ refl
