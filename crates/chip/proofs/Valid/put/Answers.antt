-- The byte is stored behind those held, where there is a place since there is room, and counted.
use Rattle.chip.proofs.Parts.{Left, within, put_done}
use Rattle.chip.specs.Record.{count_of, state_of}
use Rattle.chip_rules.specs.State.{chan}
use mathlib.Core.Path.{◌≡◌, ◌∙◌}
use mathlib.Core.List.{[], ◌∷◌, ◌++◌}
use native.Mathlib.Omega.{arith}
use Rattle.chip.proofs.Valid.put.Goals as goal
use Rattle.chip.proofs.Valid.put.Goals.{After-counted-chip}

pub stored-requires : goal.stored-requires
stored-requires c = let a = c.args in let w = within a.self.chip a.channel.index a.channel.within a.self.valid in omega (arith, w.enough)

pub overflow_add-n : goal.overflow_add-n
overflow_add-n c = let a = c.args in let w = within a.self.chip a.channel.index a.channel.within a.self.valid in omega (arith, w.enough, w.few)

left : (c : After-counted-chip) → Left c.args.self.chip c.counted-chip.result c.args.channel.index (chan (state_of c.args.self.chip) c.args.channel.index ++ (c.args.b ∷ []))
left c =
    let a = c.args in
    let e : c.count-n.result ≡ count_of a.self.chip a.channel.index = c.count-n.ensures ∙ (within a.self.chip a.channel.index a.channel.within a.self.valid).count in
    put_done a.self.chip c.stored.result c.counted-chip.result a.channel.index a.channel.within a.self.valid a.b c.requires
    (rw e at c.stored.ensures) (rw e at c.counted-chip.ensures)

pub invariant_of-result : goal.invariant_of-result
invariant_of-result c = record { valid = (left c).valid }

pub returns : goal.returns
returns c = let l = left (goal.at.returns c).After-counted-chip in record { state = l.state; free = l.free }
