-- The laws of hearing.
use Rattle.transfer_theory.proofs.Ordering.{hearing-laws}
use Rattle.transfer_theory.proofs.onward.hearing_laws_stand.Goals as goal

pub returns : goal.returns
returns c = hearing-laws
