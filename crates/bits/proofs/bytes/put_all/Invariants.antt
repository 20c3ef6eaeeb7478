-- The bits of the bytes so far stand in front; the rest of the buffer is as it was.
use Rattle.std.proofs.Common.{◌≡◌}
use Rattle.bits.proofs.Loops.{unpacked}
use Rattle.bits.proofs.bytes.put_all.Given as goal

abbrev pub invariant-loop-i : goal.invariant-loop-i
invariant-loop-i l = l.out ≡ unpacked l.i l.bytes l.initial.out
