use Rattle.std.proofs.Common.{◌≡◌, ℕ, ◌<◌, ◌≤◌, length, get_or}
use Rattle.gf256.proofs.Ring.{◌⊕◌, ◌⊙◌}
use Rattle.rs_decoding.proofs.polynomial.take_in.Given as goal

abbrev pub invariant-loop-p : goal.invariant-loop-p
invariant-loop-p g l =
    (length l.values ≡ g.row.N)
    × ((k : ℕ) → k < l.p → get_or l.values k 0 ≡ l.a ⊕ (get_or l.points k 0 ⊙ get_or l.initial.values k 0))
    × ((k : ℕ) → l.p ≤ k → get_or l.values k 0 ≡ get_or l.initial.values k 0)
