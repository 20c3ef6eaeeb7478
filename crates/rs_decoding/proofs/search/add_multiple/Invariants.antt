use Rattle.std.proofs.Common.{◌≡◌, ◌++◌, length, take, drop}
use Rattle.rs_decoding.specs.Decoding.{combine}
use Rattle.rs_decoding.proofs.search.add_multiple.Given as goal

abbrev pub invariant-loop-j : goal.invariant-loop-j
invariant-loop-j l =
    (length l.vector ≡ 17)
    × (take l.j l.vector ++ combine l.factor (drop l.j l.vector) (drop l.j l.other) ≡ combine l.factor l.initial.vector l.other)
