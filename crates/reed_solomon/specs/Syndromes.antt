-- Syndromes: what the values of a word at 2^1 .. 2^32 are. Assumes nothing.
use Rattle.std.specs.Prelude.{◌≡◌, ℕ, suc, ◌<◌, List, slice_index}
use Rattle.gf256.specs.Field.{power}
use Rattle.rs_theory.specs.Code.{value_from}

-- the value of the word at 2^j
abbrev pub syndrome : ℕ → List ℕ → ℕ
syndrome j w = value_from (power 2 j) 0 w

-- s has the syndromes 1 to 32 of the word
abbrev pub AreSyndromes : List ℕ → List ℕ → Type 0
AreSyndromes s w = (j : ℕ) → j < 32 → slice_index s j ≡ syndrome (suc j) w
