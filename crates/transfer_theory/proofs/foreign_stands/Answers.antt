-- Payloads of other files.
use Rattle.transfer_theory.proofs.Safety.{foreign-is-nothing}
use Rattle.transfer_theory.proofs.foreign_stands.Goals as goal

pub returns : goal.returns
returns c = foreign-is-nothing
