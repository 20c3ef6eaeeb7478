-- What is written, and what the rest becomes, is the whole; the buffer keeps its length.
use Rattle.std.proofs.Common.{◌≡◌}
use Rattle.text.specs.Lines.{bit_of, bits_in}
use Rattle.text.proofs.Loops.{mapped}
use Rattle.text.proofs.lines.put_bits.Given as goal

abbrev pub invariant-loop-i : goal.invariant-loop-i
invariant-loop-i l = mapped bit_of l.i l.line l.out ≡ bits_in l.line
