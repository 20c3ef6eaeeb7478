use Rattle.std.proofs.Common.{◌≡◌, ◌-◌, ◌++◌, length, take, drop}
use Rattle.rs_decoding.specs.Decoding.{peel}
use Rattle.rs_decoding.proofs.errors.peel_off.Given as goal

abbrev pub invariant-loop-j : goal.invariant-loop-j
invariant-loop-j l =
    (length l.t ≡ 32) × (drop l.j l.t ≡ drop l.j l.before) × (take l.j l.t ++ peel (l.count - l.j) l.y (drop l.j l.t) ≡ peel l.count l.y l.initial.t)
