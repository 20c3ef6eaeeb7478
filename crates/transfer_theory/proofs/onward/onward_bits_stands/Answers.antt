-- The way on, with bits beneath.
use Rattle.transfer_theory.proofs.Following.{onward-bits}
use Rattle.transfer_theory.proofs.onward.onward_bits_stands.Goals as goal

pub returns : goal.returns
returns g c = λ bits e. onward-bits _ _ bits e
