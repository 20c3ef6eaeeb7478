-- The way on, for any line.
use Rattle.transfer_theory.proofs.Following.{onward}
use Rattle.transfer_theory.proofs.onward.onward_stands.Goals as goal

pub returns : goal.returns
returns g c = onward _
