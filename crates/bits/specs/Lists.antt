-- Lists of numbers that stand for bits and for bytes. Assumes nothing.
use Rattle.std.specs.Prelude.{ℕ, zero, suc, Bool, true, ◌&&◌, List, [], ◌∷◌, nat_lt}

-- each number is below m
unfoldable pub under : ℕ → List ℕ → Bool
under m [] = true
under m (x ∷ xs) = nat_lt x m && under m xs

-- bytes: each below 256
abbrev pub are_bytes : List ℕ → Bool
are_bytes xs = under 256 xs

-- bits: each 0 or 1
abbrev pub are_bits : List ℕ → Bool
are_bits xs = under 2 xs

-- n zeros
unfoldable pub zeros : ℕ → List ℕ
zeros zero = []
zeros (suc n) = 0 ∷ zeros n
