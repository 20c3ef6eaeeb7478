use Rattle.rs_decoding.specs.Search.{Reduced, pivot_count}
use Rattle.rs_decoding.proofs.search.reduce.Given as goal

abbrev pub invariant-loop-i : goal.invariant-loop-i
invariant-loop-i l = Reduced l.i (pivot_count l.pivots) l.s l.vector
