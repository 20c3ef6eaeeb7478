use Rattle.std.proofs.Common.{◌≡◌, length}
use Rattle.rs_decoding.specs.Search.{Pivots, pivot_count}
use Rattle.rs_decoding.proofs.search.kernel.Given as goal

abbrev pub invariant-loop-degree : goal.invariant-loop-degree
invariant-loop-degree l = (length l.pivots ≡ 16) × (pivot_count l.pivots ≡ l.degree) × Pivots l.rows l.s l.pivots
