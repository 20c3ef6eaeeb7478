-- Rounds in a row, for any line.
use Rattle.transfer_theory.proofs.InStep.{lockstep}
use Rattle.transfer_theory.proofs.onward.lockstep_stands.Goals as goal

pub returns : goal.returns
returns g c = lockstep _
