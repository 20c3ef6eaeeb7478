-- The pattern's laws: length, bits, twice is nothing, over zeros it is itself; and the vectors. Assumes nothing.
use Rattle.std.proofs.Common.{◌≡◌, ℕ, zero, suc, ◌+◌, ◌%◌, ◌<◌, T, List, [], ◌∷◌, length, refl, ap, ◌∙◌, arith}
use Rattle.bits.specs.Lists.{are_bits, zeros}
use Rattle.bits.specs.Bytes.{all_bytes}
use Rattle.bits.specs.Crc.{crc_from, shifted_by}
use Rattle.bits.specs.Pattern.{stepped, pattern, plus, patterned_from}
use Rattle.bits.specs.Laws.{PatternLaws, Vectors, BitsRight}
use Rattle.bits.proofs.Hamming.{metric}
use Rattle.bits.proofs.Packing.{round_trip}
use Rattle.bits.proofs.Tests.{under-head, under_tail, under-cons, under-nil}

long : (r : ℕ) (xs : List ℕ) → length (patterned_from r xs) ≡ length xs
unfolding pattern plus
long r [] = refl
long r (x ∷ xs) = ap suc (long (stepped r) xs)

bits : (r : ℕ) (xs : List ℕ) → T (are_bits (patterned_from r xs))
unfolding pattern plus
bits r [] = under-nil 2
bits r (x ∷ xs) = under-cons 2 ((x + r % 2) % 2) (patterned_from (stepped r) xs) (omega arith) (bits (stepped r) xs)

bit-twice : (x r : ℕ) → x < 2 → ((x + r % 2) % 2 + r % 2) % 2 ≡ x
bit-twice x r h = omega arith

-- the pattern over what it was added to, of any length n that the list has
twice : (r : ℕ) (xs : List ℕ) → T (are_bits xs) → patterned_from r (patterned_from r xs) ≡ xs
unfolding pattern plus
twice r [] t = refl
twice r (x ∷ xs) t =
    ap (λ (y : ℕ). y ∷ patterned_from (stepped r) (patterned_from (stepped r) xs)) (bit-twice x r (under-head 2 x xs t))
    ∙ ap (λ (ys : List ℕ). x ∷ ys) (twice (stepped r) xs (under_tail 2 x xs t))

on-zeros : (r n : ℕ) → patterned_from r (zeros n) ≡ pattern n r
unfolding pattern plus zeros
on-zeros r zero = refl
on-zeros r (suc n) =
    ap (λ (y : ℕ). y ∷ patterned_from (stepped r) (zeros n)) (let e : (0 + r % 2) % 2 ≡ r % 2 = omega arith in e)
    ∙ ap (λ (ys : List ℕ). r % 2 ∷ ys) (on-zeros (stepped r) n)

pub pattern-laws : PatternLaws
pattern-laws = record { long = long 255; bits = bits 255; twice = twice 255; on_zeros = on-zeros 255 }

pub vectors : Vectors
unfolding pattern all_bytes crc_from shifted_by
vectors = record { pattern_begins = refl; crc_of_nine = refl }

pub bits_right : BitsRight
bits_right = record { metric = metric; round_trip = round_trip; pattern_laws = pattern-laws; vectors = vectors }
