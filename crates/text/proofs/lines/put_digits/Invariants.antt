-- What is written, and what the rest becomes, is the whole; the buffer keeps its length.
use Rattle.std.proofs.Common.{◌≡◌}
use Rattle.text.specs.Lines.{digit_of, digits}
use Rattle.text.proofs.Loops.{mapped}
use Rattle.text.proofs.lines.put_digits.Given as goal

abbrev pub invariant-loop-i : goal.invariant-loop-i
invariant-loop-i l = mapped digit_of l.i l.bits l.out ≡ digits l.bits
