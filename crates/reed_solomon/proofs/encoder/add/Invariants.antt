-- The places that were passed have both bytes, and those behind are as they were. Assumes nothing.
use Rattle.std.proofs.Common.{◌≡◌, ℕ, ◌<◌, ◌≤◌, length, get_or}
use lib.Bits.{bit_xor}
use Rattle.reed_solomon.proofs.encoder.add.Given as goal

abbrev pub invariant-loop-i : goal.invariant-loop-i
invariant-loop-i l =
    (length l.sum ≡ 32)
    × ((k : ℕ) → k < l.i → get_or l.sum k 0 ≡ bit_xor (get_or l.initial.sum k 0) (get_or l.other k 0))
    × ((k : ℕ) → l.i ≤ k → get_or l.sum k 0 ≡ get_or l.initial.sum k 0)
