-- The generator's 32 coefficients, and that it has the roots 2^1 .. 2^32: computed. Assumes nothing.
use Rattle.std.proofs.Common.{◌≡◌, ℕ, T, List, [], ◌∷◌, length, refl}
use Rattle.bits.specs.Lists.{under, are_bytes}
use Rattle.gf256.specs.Field.{product, product_by, power}
use Rattle.rs_theory.specs.Code.{value_from, vanishes, times_root, generator}

unfoldable pub coefficients : List ℕ
coefficients = 232 ∷ 29 ∷ 189 ∷ 50 ∷ 142 ∷ 246 ∷ 232 ∷ 15 ∷ 43 ∷ 82 ∷ 164 ∷ 238 ∷ 1 ∷ 158 ∷ 13 ∷ 119 ∷ 158 ∷ 224 ∷ 134 ∷ 227 ∷ 210 ∷ 163 ∷ 50 ∷ 107 ∷ 40 ∷ 27 ∷ 104 ∷ 253 ∷ 24 ∷ 239 ∷ 216 ∷ 45 ∷ []

pub generator-is : generator 32 ≡ coefficients
unfolding coefficients generator times_root power product product_by
generator-is = refl

pub coefficients-length : length coefficients ≡ 32
unfolding coefficients
coefficients-length = refl

pub coefficients-bytes : T (are_bytes coefficients)
unfolding coefficients under
coefficients-bytes = tt

pub with-head-bytes : T (are_bytes (1 ∷ coefficients))
unfolding coefficients under
with-head-bytes = tt

pub generator-vanishes : T (vanishes 32 (1 ∷ coefficients))
unfolding coefficients vanishes value_from power product product_by
generator-vanishes = tt
