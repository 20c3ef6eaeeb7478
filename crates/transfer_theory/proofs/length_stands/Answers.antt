-- The length, and that complete stays complete.
use Rattle.transfer_theory.proofs.Safety.{length-right, complete-stays}
use Rattle.transfer_theory.proofs.length_stands.Goals as goal

pub returns : goal.returns
returns c = record { length = length-right; complete = complete-stays }
