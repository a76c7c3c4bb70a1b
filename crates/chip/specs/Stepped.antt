-- What the parts of `access` promise: an access is done, with a byte and the valid record left, or refused.
use Rattle.std.specs.Prelude.{ℕ, ◌≡◌, Result, MatchResult}
use Rattle.chip.specs.declared.Chip.{Chip}
use Rattle.chip.specs.declared.Refusal.{Refusal}
use Rattle.chip.specs.declared.Valid.{Valid}
use Rattle.chip.specs.Record.{state_of}
use Rattle.chip.specs.Promise.{number, AccessDone}
use Rattle.chip.specs.Steps.{StepDone}
use Rattle.chip_rules.specs.State.{refused, Access, Outcome}

-- of a valid record: the rules' outcome
abbrev pub Stepped : Chip → Outcome → Result (ℕ × Valid) Refusal → Type 0
Stepped chip o r = MatchResult r (λ d. StepDone chip o d.0 d.1.chip) (λ e. o ≡ refused (number e) (state_of chip))

-- of any record: what `access` promises
abbrev pub Served : Chip → Access → Result (ℕ × Valid) Refusal → Type 0
Served chip a r =
    MatchResult r (λ d. AccessDone chip a (record { answer = 0; byte = d.0 }) d.1.chip) (λ e. AccessDone chip a (record { answer = number e; byte = 0 }) chip)
