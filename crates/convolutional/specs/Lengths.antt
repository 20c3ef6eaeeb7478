-- Which lengths the decoder takes. Assumes nothing.
use Rattle.std.specs.Prelude.{ℕ, ◌+◌, ◌*◌, Bool, ◌&&◌, ◌==◌, nat_le}

-- n bits, at most `most`, from 2 (n + 6) coded bits, by n + 6 columns of decisions
abbrev pub memory_fits : ℕ → ℕ → ℕ → ℕ → Bool
memory_fits most coded columns n = coded == 2 * (n + 6) && (columns == n + 6 && nat_le n most)

-- hard bits, for which costs of 16 bits do
abbrev pub hard_fits : ℕ → ℕ → ℕ → Bool
hard_fits coded columns n = memory_fits 16250 coded columns n

-- costs up to 255 each, for which 32 bits do
abbrev pub costs_fit : ℕ → ℕ → ℕ → Bool
costs_fit coded columns n = memory_fits 1000000 coded columns n
