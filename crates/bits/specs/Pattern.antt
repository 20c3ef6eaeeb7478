-- The pseudo-random pattern that is added to the bits of a frame, from a register of eight bits. Assumes nothing.
use Rattle.std.specs.Prelude.{ℕ, zero, suc, ◌+◌, ◌*◌, ◌/◌, ◌%◌, List, [], ◌∷◌, length}

-- what is shifted in at the top: the sum of four places, modulo 2
abbrev pub feedback : ℕ → ℕ
feedback r = (r + r / 8 + r / 32 + r / 128) % 2

abbrev pub stepped : ℕ → ℕ
stepped r = r / 2 + 128 * feedback r

-- the first n bits that the register r gives
unfoldable pub pattern : ℕ → ℕ → List ℕ
pattern zero r = []
pattern (suc n) r = r % 2 ∷ pattern n (stepped r)

-- the sum of two lists of bits, place by place, modulo 2
unfoldable pub plus : List ℕ → List ℕ → List ℕ
plus [] ps = []
plus (x ∷ xs) [] = x ∷ xs
plus (x ∷ xs) (p ∷ ps) = (x + p) % 2 ∷ plus xs ps

-- bits with the pattern added from the register r on, however many there are
abbrev pub patterned_from : ℕ → List ℕ → List ℕ
patterned_from r xs = plus xs (pattern (length xs) r)

-- the register begins with eight ones
abbrev pub patterned : List ℕ → List ℕ
patterned xs = patterned_from 255 xs
