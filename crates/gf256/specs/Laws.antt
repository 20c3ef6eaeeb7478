-- That bytes with bit_xor as sum and `product` are a field in which `twice` is the product with 2, and that the powers of 2 go through all of it but zero. Assumes nothing.
use Rattle.std.specs.Prelude.{◌≡◌, ℕ, ◌<◌, ◌⊎◌, ◌≢◌, bit_xor}
use Rattle.gf256.specs.Field.{twice, product, power, inverse}

pub record FieldLaws : Type 0 where
  -- sums: bytes again, and each byte is what takes itself away
  pub sum_closed : (a b : ℕ) → a < 256 → b < 256 → bit_xor a b < 256
  pub sum_commutative : (a b : ℕ) → bit_xor a b ≡ bit_xor b a
  pub sum_associative : (a b c : ℕ) → bit_xor (bit_xor a b) c ≡ bit_xor a (bit_xor b c)
  pub sum_zero : (a : ℕ) → bit_xor 0 a ≡ a
  pub sum_self : (a : ℕ) → bit_xor a a ≡ 0
  -- products
  pub closed : (a b : ℕ) → a < 256 → b < 256 → product a b < 256
  pub commutative : (a b : ℕ) → a < 256 → b < 256 → product a b ≡ product b a
  pub associative : (a b c : ℕ) → a < 256 → b < 256 → c < 256 → product (product a b) c ≡ product a (product b c)
  pub distributive : (a b c : ℕ) → a < 256 → b < 256 → c < 256 → product a (bit_xor b c) ≡ bit_xor (product a b) (product a c)
  pub one : (a : ℕ) → a < 256 → product 1 a ≡ a
  pub no_zero_divisors : (a b : ℕ) → a < 256 → b < 256 → product a b ≡ 0 → (a ≡ 0) ⊎ (b ≡ 0)
  pub inverses : (a : ℕ) → a < 256 → (a ≢ 0) → product a (inverse a) ≡ 1
  -- 2 times a byte is its double
  pub double : (a : ℕ) → a < 256 → product 2 a ≡ twice a
  -- 2 has order 255: its powers come back to 1, no two before that are equal, and every byte but 0 is one of them
  pub order : power 2 255 ≡ 1
  pub distinct : (i j : ℕ) → i < 255 → j < 255 → power 2 i ≡ power 2 j → i ≡ j
  pub powers : (a : ℕ) → a < 256 → (a ≢ 0) → (k : ℕ) × (k < 255) × (power 2 k ≡ a)

-- i is the inverse of a, which is not zero
pub record IsInverse (a i : ℕ) : Type 0 where
  pub gives : product a i ≡ 1
  pub is : i ≡ inverse a

-- k is the exponent of a, which is not zero
pub record IsLog (a k : ℕ) : Type 0 where
  pub below : k < 255
  pub is : power 2 k ≡ a
