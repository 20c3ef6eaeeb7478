-- Bytes as bits, the highest bit of each byte first. Assumes nothing.
use Rattle.std.specs.Prelude.{ℕ, zero, suc, ◌+◌, ◌*◌, ◌/◌, ◌%◌, List, [], ◌∷◌, ◌++◌, take, drop, slice_index}

-- the eight bits of a byte
abbrev pub bits_of : ℕ → List ℕ
bits_of b = (b / 128) % 2 ∷ (b / 64) % 2 ∷ (b / 32) % 2 ∷ (b / 16) % 2 ∷ (b / 8) % 2 ∷ (b / 4) % 2 ∷ (b / 2) % 2 ∷ b % 2 ∷ []

-- the bits of all bytes, byte after byte
unfoldable pub all_bits : List ℕ → List ℕ
all_bits [] = []
all_bits (b ∷ bs) = bits_of b ++ all_bits bs

-- the bit at place i, 0 past the end
abbrev pub bit_at : List ℕ → ℕ → ℕ
bit_at xs i = slice_index xs i % 2

-- the byte of the first eight bits
abbrev pub byte_of : List ℕ → ℕ
byte_of xs =
    128 * bit_at xs 0 + 64 * bit_at xs 1 + 32 * bit_at xs 2 + 16 * bit_at xs 3 + 8 * bit_at xs 4 + 4 * bit_at xs 5 + 2 * bit_at xs 6 + bit_at xs 7

-- the first n bytes of a list of bits
unfoldable pub all_bytes : ℕ → List ℕ → List ℕ
all_bytes zero xs = []
all_bytes (suc n) xs = byte_of (take 8 xs) ∷ all_bytes n (drop 8 xs)
