-- The slots have their shape, and the length its bound by the invariant.
use Rattle.std.proofs.Common.{subst}
use Rattle.transfer_theory.specs.Receiver.{Receiver}
use Rattle.transfer.specs.Shapes.{Shaped}
use Rattle.transfer.proofs.station.Ground.parts_there.Goals as goal

pub returns-clause-shape : goal.returns-clause-shape
returns-clause-shape c = subst (λ (v : Receiver). Shaped v) c.self.view_is (c.filled.ensures.shape, c.self.invariant)
