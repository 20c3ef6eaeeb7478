-- Words of 255 bytes, which of them are code words, and how 223 bytes are encoded as one. A word is a polynomial, the highest coefficient first. Assumes nothing.
use Rattle.std.specs.Prelude.{ℕ, zero, suc, ◌+◌, ◌<◌, Bool, true, ◌&&◌, T, List, [], ◌∷◌, ◌++◌, length, ◌==◌, bit_xor}
use Rattle.bits.specs.Lists.{are_bytes, zeros}
use Rattle.bits.specs.Distance.{differ, distance}
use Rattle.gf256.specs.Field.{product, power}

-- the value at z, by Horner's rule
unfoldable pub value_from : ℕ → ℕ → List ℕ → ℕ
value_from z acc [] = acc
value_from z acc (c ∷ cs) = value_from z (bit_xor (product acc z) c) cs

-- zero at 2^1, 2^2 and so on to 2^n
unfoldable pub vanishes : ℕ → List ℕ → Bool
vanishes zero w = true
vanishes (suc n) w = value_from (power 2 (suc n)) 0 w == 0 && vanishes n w

abbrev pub is_codeword : List ℕ → Bool
is_codeword w = length w == 255 && are_bytes w && vanishes 32 w

-- ---- encoding: the remainder of the message, times x^32, by the polynomial with the 32 roots
-- a polynomial with head `carry`, times x - r; the product's head, `carry` again, is left out, as that of the list is
unfoldable pub times_root : ℕ → ℕ → List ℕ → List ℕ
times_root r carry [] = product r carry ∷ []
times_root r carry (c ∷ cs) = bit_xor c (product r carry) ∷ times_root r c cs

-- the product of x - 2^j for j = 1 to n, the highest coefficient, 1, left out
unfoldable pub generator : ℕ → List ℕ
generator zero = []
generator (suc n) = times_root (power 2 (suc n)) 1 (generator n)

-- the register rs, which may be too short by a zero at the end, plus f times the generator
unfoldable pub feed : ℕ → List ℕ → List ℕ → List ℕ
feed f [] rs = []
feed f (g ∷ gs) [] = product f g ∷ feed f gs []
feed f (g ∷ gs) (r ∷ rs) = bit_xor r (product f g) ∷ feed f gs rs

abbrev pub first : List ℕ → ℕ
first [] = 0
first (r ∷ rs) = r

abbrev pub rest : List ℕ → List ℕ
rest [] = []
rest (r ∷ rs) = rs

-- long division: what the register holds once the message has gone through it
unfoldable pub remainder : List ℕ → List ℕ → List ℕ → List ℕ
remainder g [] rs = rs
remainder g (m ∷ ms) rs = remainder g ms (feed (bit_xor m (first rs)) g (rest rs))

-- the message, and 32 bytes that make it a code word
unfoldable pub encode : List ℕ → List ℕ
encode m = m ++ remainder (generator 32) m (zeros 32)

-- ---- no code word differs from the word at 16 places or fewer
abbrev pub Far : List ℕ → Type 0
Far w = (c : List ℕ) → T (is_codeword c) → 16 < distance c w

-- ---- how many entries are not zero
unfoldable pub weight : List ℕ → ℕ
weight [] = 0
weight (e ∷ es) = differ e 0 + weight es

-- ---- 2^(n-1) .. 2^0: the locators of the places of a word of n bytes, highest coefficient first
unfoldable pub locators : ℕ → List ℕ
locators zero = []
locators (suc n) = power 2 n ∷ locators n
