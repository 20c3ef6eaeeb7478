-- The place at which the search stops is the first gap.
use Rattle.std.proofs.Common.{ℕ, Some, take, sym, ap, ◌∙◌, arith, position}
use Rattle.transfer.specs.Memory.{free}
use Rattle.transfer.proofs.Slotted.{gap_is}
use Rattle.transfer.proofs.memory.Slots.gap.Goals as goal

pub returns : goal.returns
returns c =
    gap_is (Some c.in_ok-gap.gap) c.args.wanted c.all.result.now c.args.self.now
    (sym c.in_ok-gap.was ∙ c.first_empty.ensures ∙ ap (λ (n : ℕ). position free (take n c.all.result.now)) c.from.ensures)
    (let l = c.all.ensures.count in omega (arith, c.requires)) c.all.ensures.slots
