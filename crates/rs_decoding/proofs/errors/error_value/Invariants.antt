use Rattle.std.proofs.Common.{◌≡◌, drop}
use Rattle.rs_decoding.specs.Decoding.{peel_others, others}
use Rattle.rs_decoding.proofs.errors.error_value.Given as goal

abbrev pub invariant-loop-k : goal.invariant-loop-k
invariant-loop-k l =
    (peel_others l.x (drop l.k l.roots) l.t ≡ peel_others l.x l.roots l.s)
    × (others l.x (drop l.k l.roots) l.x l.divisor ≡ others l.x l.roots l.x l.x)
