-- The cases at the edges.
use Rattle.transfer_theory.proofs.Edges.{cases-hold}
use Rattle.transfer_theory.proofs.cases_stand.Goals as goal

pub returns : goal.returns
returns c = cases-hold
