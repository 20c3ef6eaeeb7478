-- What is written, and the pattern over what is left, is the pattern over the whole.
use Rattle.std.proofs.Common.{◌≡◌}
use Rattle.bits.specs.Pattern.{patterned}
use Rattle.bits.proofs.Steps.{halfway}
use Rattle.bits.proofs.Rows.{after}
use Rattle.bits.proofs.scramble.add_row.Given as goal

abbrev pub invariant-loop-i : goal.invariant-loop-i
invariant-loop-i l = halfway l.i (after l.i 255) l.bits ≡ patterned l.initial.bits
