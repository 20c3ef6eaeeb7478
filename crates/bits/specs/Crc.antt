-- The check of 16 bits: CRC-16 with polynomial 4129 (x^16 + x^12 + x^5 + 1), from 65535, highest bit first. Assumes nothing.
use Rattle.std.specs.Prelude.{ℕ, zero, suc, ◌*◌, ◌%◌, cond, List, [], ◌∷◌, bit_xor, nat_lt, slice_index}

-- one bit further: the register times x, modulo the polynomial
abbrev pub shifted : ℕ → ℕ
shifted c = cond (nat_lt c 32768) (2 * c) (bit_xor ((2 * c) % 65536) 4129)

unfoldable pub shifted_by : ℕ → ℕ → ℕ
shifted_by zero c = c
shifted_by (suc n) c = shifted_by n (shifted c)

-- one byte further
abbrev pub stirred : ℕ → ℕ → ℕ
stirred c b = shifted_by 8 (bit_xor c (256 * b))

-- two bytes further
abbrev pub stirred_two : ℕ → List ℕ → ℕ
stirred_two c pair = stirred (stirred c (slice_index pair 0)) (slice_index pair 1)

unfoldable pub crc_from : ℕ → List ℕ → ℕ
crc_from c [] = c
crc_from c (b ∷ bs) = crc_from (stirred c b) bs

abbrev pub crc : List ℕ → ℕ
crc bs = crc_from 65535 bs
