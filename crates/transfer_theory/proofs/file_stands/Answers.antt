-- The file promise.
use Rattle.transfer_theory.proofs.Safety.{file-right}
use Rattle.transfer_theory.proofs.file_stands.Goals as goal

pub returns : goal.returns
returns c = file-right
