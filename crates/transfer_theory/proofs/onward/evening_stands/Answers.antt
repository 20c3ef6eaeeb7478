-- A bad evening, for any line.
use Rattle.transfer_theory.proofs.Pairs.{bad-evening}
use Rattle.transfer_theory.proofs.onward.evening_stands.Goals as goal

pub returns : goal.returns
returns g c = bad-evening _
