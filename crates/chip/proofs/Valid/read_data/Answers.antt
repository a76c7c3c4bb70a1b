-- A channel that holds a byte gives up its oldest, and those behind it move down; an empty one is refused.
use Rattle.chip.proofs.Parts.{Left, within, take_done}
use Rattle.chip.proofs.Steps.{took, none}
use Rattle.chip.specs.Each.{each}
use Rattle.chip.specs.Record.{byte_of, state_of}
use Rattle.chip_rules.specs.State.{chan}
use Rattle.word.specs.Word.{digit}
use mathlib.Core.Path.{◌≡◌}
use mathlib.Core.List.{◌∷◌}
use native.Mathlib.Omega.{arith}
use Rattle.chip.proofs.Valid.read_data.Goals as goal
use Rattle.chip.proofs.Valid.read_data.Goals.{After-counted-chip}

pub returns-in_default : goal.returns-in_default
returns-in_default c =
    let a = c.args in
    let w = within a.self.chip a.channel.index a.channel.within a.self.valid in
    none a.self.chip a.channel.index a.channel.within (omega (arith, w.count, c.in_default.ensures))

pub moved_down-requires : goal.moved_down-requires
moved_down-requires c =
    let a = c.args in
    let w = within a.self.chip a.channel.index a.channel.within a.self.valid in
    omega (arith, w.count, w.most, w.enough, c.in-Some.ensures)

left : (c : After-counted-chip)
    → (chan (state_of c.args.self.chip) c.args.channel.index ≡ digit c.args.self.chip.oldest c.args.channel.index ∷ each (byte_of c.counted-chip.result c.args.channel.index) c.in-Some.fewer)
    × Left c.args.self.chip c.counted-chip.result c.args.channel.index (each (byte_of c.counted-chip.result c.args.channel.index) c.in-Some.fewer)
left c =
    let a = c.args in
    let w = within a.self.chip a.channel.index a.channel.within a.self.valid in
    take_done a.self.chip c.moved_down.result c.counted-chip.result a.channel.index a.channel.within a.self.valid (omega (arith, w.count, c.in-Some.ensures))
    c.moved_down.ensures c.counted-chip.ensures

pub invariant_of-result : goal.invariant_of-result
invariant_of-result c = record { valid = (left c).1.valid }

pub returns : goal.returns
returns c =
    let a = c.args in
    let l = left (goal.at.returns c).After-counted-chip in
    rw c.digit-byte.ensures (took a.self.chip a.channel.index (digit a.self.chip.oldest a.channel.index) _ c.counted-chip.result l.0 l.1)
