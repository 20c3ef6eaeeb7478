-- The values are bytes, and those so far, with the bytes still to come, give those of the whole. Assumes nothing.
use Rattle.std.proofs.Common.{◌≡◌, ℕ, suc, ◌<◌, length, get_or, drop}
use Rattle.gf256.specs.Field.{power}
use Rattle.rs_theory.specs.Code.{value_from}
use Rattle.reed_solomon.proofs.decoder.values_at_powers.Given as goal

abbrev pub invariant-loop-b : goal.invariant-loop-b
invariant-loop-b l =
    (length l.s ≡ 32)
    × ((j : ℕ) → j < 32 → get_or l.s j 0 < 256)
    × ((j : ℕ) → j < 32 → value_from (power 2 (suc j)) (get_or l.s j 0) (drop l.b-index l.rest) ≡ value_from (power 2 (suc j)) 0 l.rest)
