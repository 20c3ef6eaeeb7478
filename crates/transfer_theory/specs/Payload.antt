-- Payloads: 221 bytes, one builder for all kinds, and what is read of them. Assumes nothing.
use Rattle.std.specs.Prelude.{ℕ, ◌+◌, ◌-◌, ◌*◌, ◌/◌, ◌%◌, List, [], ◌∷◌, ◌++◌, length, take, drop, slice_index}
use Rattle.bits.specs.Lists.{zeros}

-- just n bytes: cut, or filled up with zeros
unfoldable pub filled : ℕ → List ℕ → List ℕ
filled n xs = take n (xs ++ zeros n)

-- kind, file, number (the high byte first), count of the bytes that follow, two bytes a and b, the bytes, zeros, and last what stands at the very end
unfoldable pub built : ℕ → ℕ → List ℕ → ℕ → ℕ → ℕ → List ℕ → List ℕ
built a b last kind file n bs = filled (221 - length last) (kind ∷ file ∷ n / 256 ∷ n % 256 ∷ length bs ∷ a ∷ b ∷ bs) ++ last

-- both bytes 0, and nothing at the end
abbrev pub payload : ℕ → ℕ → ℕ → List ℕ → List ℕ
payload kind file n bs = built 0 0 [] kind file n bs

-- what is read of a payload; no other byte is looked at
abbrev pub at : List ℕ → ℕ → ℕ
at p i = slice_index p i

abbrev pub kind_of : List ℕ → ℕ
kind_of p = at p 0

abbrev pub file_of : List ℕ → ℕ
file_of p = at p 1

abbrev pub number_of : List ℕ → ℕ
number_of p = 256 * at p 2 + at p 3

-- the bytes that its count counts; a count above 214 takes the 214 that are there
abbrev pub body_of : List ℕ → List ℕ
body_of p = take (at p 4) (drop 7 p)

abbrev pub length_of : List ℕ → ℕ
length_of p = 16777216 * at p 7 + 65536 * at p 8 + 256 * at p 9 + at p 10
