-- Hamming distance: at how many places two lists differ. Assumes nothing.
use Rattle.std.specs.Prelude.{ℕ, suc, ◌+◌, cond, List, [], ◌∷◌, length, ◌==◌}

-- whether two numbers differ, as 0 or 1
abbrev pub differ : ℕ → ℕ → ℕ
differ x y = cond (x == y) 0 1

-- a place that only one of the two has counts as one at which they differ
unfoldable pub distance : List ℕ → List ℕ → ℕ
distance [] ys = length ys
distance (x ∷ xs) [] = suc (length xs)
distance (x ∷ xs) (y ∷ ys) = differ x y + distance xs ys
