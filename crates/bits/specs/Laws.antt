-- What holds of bytes, bits, distance, check and pattern: the laws that the layers above cite. Each is a type; a proof of the type is the theorem. Assumes nothing.
use Rattle.std.specs.Prelude.{◌≡◌, ℕ, ◌+◌, ◌*◌, ◌≤◌, T, List, [], ◌∷◌, length}
use Rattle.bits.specs.Lists.{are_bytes, are_bits, zeros}
use Rattle.bits.specs.Distance.{distance}
use Rattle.bits.specs.Bytes.{all_bits, all_bytes}
use Rattle.bits.specs.Crc.{crc}
use Rattle.bits.specs.Pattern.{pattern, patterned}

-- Hamming distance is a metric.
pub record Metric : Type 0 where
  pub none : (xs : List ℕ) → distance xs xs ≡ 0
  pub same : (xs ys : List ℕ) → distance xs ys ≡ 0 → xs ≡ ys
  pub symmetric : (xs ys : List ℕ) → distance xs ys ≡ distance ys xs
  pub triangle : (xs ys zs : List ℕ) → distance xs zs ≤ distance xs ys + distance ys zs

-- Bytes to bits and back, and bits to bytes and back.
pub record RoundTrip : Type 0 where
  pub bytes : (bs : List ℕ) → T (are_bytes bs) → all_bytes (length bs) (all_bits bs) ≡ bs
  pub bits : (n : ℕ) (xs : List ℕ) → T (are_bits xs) → length xs ≡ 8 * n → all_bits (all_bytes n xs) ≡ xs

-- The pattern keeps the length, gives bits, added twice gives the bits back, and added to zeros is the pattern.
pub record PatternLaws : Type 0 where
  pub long : (xs : List ℕ) → length (patterned xs) ≡ length xs
  pub bits : (xs : List ℕ) → T (are_bits (patterned xs))
  pub twice : (xs : List ℕ) → T (are_bits xs) → patterned (patterned xs) ≡ xs
  pub on_zeros : (n : ℕ) → patterned (zeros n) ≡ pattern n 255

-- The pattern begins ff 48 0e c0 9a; the check of the nine bytes of 123456789 is 29b1.
pub record Vectors : Type 0 where
  pub pattern_begins : all_bytes 5 (pattern 40 255) ≡ 255 ∷ 72 ∷ 14 ∷ 192 ∷ 154 ∷ []
  pub crc_of_nine : crc (49 ∷ 50 ∷ 51 ∷ 52 ∷ 53 ∷ 54 ∷ 55 ∷ 56 ∷ 57 ∷ []) ≡ 10673

pub record BitsRight : Type 0 where
  pub metric : Metric
  pub round_trip : RoundTrip
  pub pattern_laws : PatternLaws
  pub vectors : Vectors
