-- With the pattern added, bits are bits.
use Rattle.std.proofs.Common.{T, ℕ, List, sym, subst}
use Rattle.bits.specs.Lists.{are_bits}
use Rattle.bits.proofs.Patterns.{pattern-laws}
use Rattle.frame.proofs.sending.scramble.Goals as goal

pub returns-clause-binary : goal.returns-clause-binary
returns-clause-binary c = subst (λ (xs : List ℕ). T (are_bits xs)) (sym c.add_pattern.ensures) (pattern-laws.bits c.unpack.new.out)
