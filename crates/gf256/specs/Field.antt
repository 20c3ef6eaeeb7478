-- The field of 256 elements: bytes as polynomials over two elements, modulo x^8 + x^4 + x^3 + x^2 + 1. The sum is bit_xor. Assumes nothing.
use Rattle.std.specs.Prelude.{ℕ, zero, suc, ◌-◌, ◌*◌, ◌/◌, ◌%◌, cond, ◌==◌, bit_xor, nat_lt}

-- a byte times x: the bit that leaves at the top comes back as 29
abbrev pub twice : ℕ → ℕ
twice a = cond (nat_lt a 128) (2 * a) (bit_xor (2 * a - 256) 29)

-- a times the lowest n bits of b, lowest bit first
unfoldable pub product_by : ℕ → ℕ → ℕ → ℕ
product_by zero a b = 0
product_by (suc n) a b = bit_xor (cond (b % 2 == 1) a 0) (product_by n (twice a) (b / 2))

unfoldable pub product : ℕ → ℕ → ℕ
product a b = product_by 8 a b

-- ---- both as shut operators on all numbers, so that their laws want no bounds: the sum, and the product of the lowest eight bits
infixl 68 ◌⊕◌
infixl 70 ◌⊙◌
unfoldable pub ◌⊕◌ : ℕ → ℕ → ℕ
a ⊕ b = bit_xor a b

unfoldable pub ◌⊙◌ : ℕ → ℕ → ℕ
a ⊙ b = product (a % 256) (b % 256)

-- ---- powers and inverses
unfoldable pub power : ℕ → ℕ → ℕ
power a zero = 1
power a (suc n) = product a (power a n)

-- of a that is not zero: a^255 is 1
abbrev pub inverse : ℕ → ℕ
inverse a = power a 254
