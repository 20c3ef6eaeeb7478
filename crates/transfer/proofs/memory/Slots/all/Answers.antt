-- Each slot in its own bytes.
use Rattle.std.proofs.Common.{subst, ◌≡◌, ◌/◌, length, rules, ℕ, List, ap, ◌∙◌, map}
use Rattle.transfer.specs.Memory.{slot_read}
use Rattle.transfer.specs.Shapes.{Slotted}
use Rattle.transfer_theory.specs.Receiver.{Slot}
use Rattle.transfer.proofs.Slotted.{read_all, slotted}
use Rattle.transfer.proofs.memory.Slots.all.Goals as goal

pub returns-clause-slots : goal.returns-clause-slots
returns-clause-slots c =
    let q : length c.self.inside.memory.now / 215 ≡ 1000 = search rules in
    ap (λ (cs : List (List ℕ)). map slot_read cs) c.as_chunks.ensures.front ∙ read_all (length c.self.inside.memory.now / 215) c.self.inside.memory.now q ∙ c.self.view_is

pub returns-clause-shape : goal.returns-clause-shape
returns-clause-shape c = subst (λ (ss : List Slot). Slotted ss) c.self.view_is (slotted c.self.inside.memory.now)
