-- What is written, and the pattern over what is left, from its beginning, is what it is to be.
use Rattle.std.proofs.Common.{◌≡◌, ◌-◌, ◌≤◌, length}
use Rattle.bits.specs.Pattern.{patterned}
use Rattle.bits.proofs.Steps.{halfway}
use Rattle.bits.proofs.scramble.add_pattern.Given as goal

abbrev pub invariant-loop-at : goal.invariant-loop-at
invariant-loop-at l = (l.at ≤ length l.bits) × (halfway l.at 255 l.bits ≡ patterned l.initial.bits)

abbrev pub decreases-loop-at : goal.decreases-loop-at
decreases-loop-at l = length l.initial.bits - l.at
