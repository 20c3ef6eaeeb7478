-- The line that brings each payload as it is.
use Rattle.transfer_theory.proofs.Following.{whole-line}
use Rattle.transfer_theory.proofs.onward.whole_line_stands.Goals as goal

pub returns : goal.returns
returns c = whole-line
