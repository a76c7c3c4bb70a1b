-- The flags are the rules' flags; the clear counts every channel as empty, and any other control byte leaves the channels.
use Rattle.chip.proofs.Steps.{clear_done, control_done}
use mathlib.Core.Path.{sym, ◌∙◌}
use Rattle.chip.specs.Record.{valid_of}
use Rattle.chip_rules.specs.Rules.{capacity}
use Rattle.word.specs.Word.{power, digit}
use Rattle.chip.proofs.Valid.control.Goals as goal
use Rattle.chip.proofs.Valid.control.Goals.{then-is_clear, else-is_clear}

pub invariant_of-result : goal.invariant_of-result
unfolding valid_of capacity digit power
invariant_of-result c =
    elim c.if-is_clear.branch [
      | then-is_clear w ↦ record { valid = rw w.held-is }
      | else-is_clear w ↦ record { valid = rw w.held-is c.args.self.valid }
    ]

pub returns : goal.returns
returns c =
    elim c.if-is_clear.branch [
      | then-is_clear w ↦ rw w.held-is (clear_done c.args.self.chip c.args.x c.flags_after-flags.result c.flags_after-flags.ensures (sym c.is_clear.ensures ∙ w.if-is_clear.true))
      | else-is_clear w ↦ rw w.held-is (control_done c.args.self.chip c.args.x c.flags_after-flags.result c.flags_after-flags.ensures (sym c.is_clear.ensures ∙ w.if-is_clear.false))
    ]
