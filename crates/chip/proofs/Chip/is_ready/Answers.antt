-- The parasite's R3 shows N, every other status whether the channel towards the side holds a byte.
use Rattle.chip.proofs.Ports.{ready_n, ready_held}
use Rattle.chip.specs.Record.{state_of}
use Rattle.chip_rules.specs.State.{held, chan}
use Rattle.flags.specs.Flags.{flags_of}
use mathlib.Core.Path.{sym, ◌∙◌}
use Rattle.chip.proofs.Chip.is_ready.Goals as goal

pub returns-then-eq : goal.returns-then-eq
returns-then-eq c =
    let a = c.args in
    c.n_flag.ensures ∙ sym (ready_n (flags_of a.self.flags) a.port.side a.port.register (λ k. held (chan (state_of a.self) k)) (sym c.eq.ensures ∙ c.if-eq.true))

pub returns-else-eq : goal.returns-else-eq
returns-else-eq c =
    let a = c.args in
    (rw c.toward.ensures at c.holds_byte.ensures)
    ∙ ready_held (flags_of a.self.flags) a.port.side a.port.register (λ k. held (chan (state_of a.self) k)) (sym c.eq.ensures ∙ c.if-eq.false)
