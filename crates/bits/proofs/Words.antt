-- Eight bytes as one word, the lowest byte first: how a product spreads the bits of a byte over a word, and how one gathers them. Assumes nothing.
use Rattle.std.proofs.Common.{◌≡◌, ℕ, ◌+◌, ◌*◌, ◌/◌, ◌%◌, ◌<◌, Bool, T, eqb, List, [], ◌∷◌, length, get_or, refl, ap, ◌∙◌, ap₂, arith, eqb→eq}
use Rattle.std.specs.Int.{from_le_bytes, w64}
use lib.Bits.{bit_and, and_block, and_mask}
use Rattle.bits.specs.Lists.{are_bytes, are_bits}
use Rattle.bits.specs.Bytes.{bits_of, byte_of}
use Rattle.bits.specs.Distance.{distance}
use Rattle.bits.proofs.Hamming.{distance-zero}
use Rattle.bits.proofs.Tests.{every_below, every_below-at, under-nil, under-cons, under-head, under_tail}
use Rattle.bits.proofs.Packing.{every_bits, every_bits-at}

-- the bytes of a word
abbrev pub bytes_of : ℕ → List ℕ
bytes_of w =
    w % 256 ∷ w / 256 % 256 ∷ w / 65536 % 256 ∷ w / 16777216 % 256 ∷ w / 4294967296 % 256 ∷ w / 1099511627776 % 256 ∷ w / 281474976710656 % 256 ∷ w / 72057594037927936 % 256 ∷ []

-- eight copies of a byte, each moved by one place more, and of each its highest bit
abbrev pub spread : ℕ → ℕ
spread b = bit_and (b * 9241421688590303745 % 18446744073709551616) 9259542123273814144 / 128

-- the bits of a byte come out of the product: a test that antt computes, at each byte
spreads : ℕ → Bool
spreads b = eqb (distance (bytes_of (spread b)) (bits_of b)) 0

pub spread_bits : (b : ℕ) → b < 256 → bytes_of (spread b) ≡ bits_of b
unfolding spreads every_below distance
spread_bits b h = distance-zero (bytes_of (spread b)) (bits_of b) (eqb→eq _ _ (every_below-at 256 spreads tt b h))

-- the word of some bytes, and the word of as many ones
unfoldable word_of : List ℕ → ℕ
word_of [] = 0
word_of (x ∷ xs) = word_of xs * 256 + x

unfoldable ones_of : List ℕ → ℕ
ones_of [] = 0
ones_of (x ∷ xs) = ones_of xs * 256 + 1

-- the lowest bit of each byte
unfoldable lowest : List ℕ → List ℕ
lowest [] = []
lowest (x ∷ xs) = x % 2 ∷ lowest xs

masked : (xs : List ℕ) → T (are_bytes xs) → bit_and (word_of xs) (ones_of xs) ≡ word_of (lowest xs)
unfolding word_of ones_of lowest
masked [] t = refl
masked (x ∷ xs) t =
    and_block 8 (word_of xs) (ones_of xs) x 1 (under-head 256 x xs t) (omega arith)
    ∙ ap₂ (λ (m n : ℕ). m * 256 + n) (masked xs (under_tail 256 x xs t)) (and_mask x 1)

are_bits-lowest : (xs : List ℕ) → T (are_bits (lowest xs))
unfolding lowest
are_bits-lowest [] = under-nil 2
are_bits-lowest (x ∷ xs) = under-cons 2 (x % 2) (lowest xs) (omega arith) (are_bits-lowest xs)

-- the highest byte of the product of a word
abbrev gather : ℕ → ℕ
gather w = w * 9241421688590303745 % 18446744073709551616 / 72057594037927936

-- the byte of eight bits comes out of the product: a test that antt computes, at each eight bits
gathers : List ℕ → Bool
gathers xs = eqb (gather (word_of xs)) (byte_of xs)

bits-gather : (xs : List ℕ) → length xs ≡ 8 → T (are_bits xs) → gather (word_of xs) ≡ byte_of xs
unfolding gathers every_bits word_of
bits-gather xs e a = eqb→eq (gather (word_of xs)) (byte_of xs) (every_bits-at 8 gathers tt xs e a)

low-low : (x : ℕ) → x % 2 % 2 ≡ x % 2
low-low x = omega arith

pub gather-byte : (a b c d e f g h : ℕ) → T (are_bytes (a ∷ b ∷ c ∷ d ∷ e ∷ f ∷ g ∷ h ∷ [])) →
    gather (bit_and (a + b * 256 + c * 65536 + d * 16777216 + e * 4294967296 + f * 1099511627776 + g * 281474976710656 + h * 72057594037927936) 72340172838076673) ≡ byte_of (a ∷ b ∷ c ∷ d ∷ e ∷ f ∷ g ∷ h ∷ [])
unfolding word_of ones_of lowest
gather-byte a b c d e f g h t =
    let xs : List ℕ = a ∷ b ∷ c ∷ d ∷ e ∷ f ∷ g ∷ h ∷ [] in
    let word : a + b * 256 + c * 65536 + d * 16777216 + e * 4294967296 + f * 1099511627776 + g * 281474976710656 + h * 72057594037927936 ≡ word_of xs = omega arith in
    ap (λ (w : ℕ). gather (bit_and w 72340172838076673)) word
    ∙ ap gather (masked xs t)
    ∙ bits-gather (lowest xs) refl (are_bits-lowest xs)
    ∙ simp low-low

-- the same of a list of bytes, as the code reads it
pub gathered_bits : (xs : List ℕ) (w : ℕ) → w ≡ from_le_bytes w64 xs → ((i : ℕ) → get_or xs i 0 < 256) →
    bit_and w 72340172838076673 * 9241421688590303745 % 18446744073709551616 / 72057594037927936 ≡ byte_of xs
gathered_bits xs w e below =
    let at : (i : ℕ) → ℕ = λ i. get_or xs i 0 in
    ap (λ (v : ℕ). bit_and v 72340172838076673 * 9241421688590303745 % 18446744073709551616 / 72057594037927936) e
    ∙ gather-byte (at 0) (at 1) (at 2) (at 3) (at 4) (at 5) (at 6) (at 7)
    (under-cons 256 _ _ (below 0) (under-cons 256 _ _ (below 1) (under-cons 256 _ _ (below 2) (under-cons 256 _ _ (below 3) (under-cons 256 _ _ (below 4) (under-cons 256 _ _ (below 5) (under-cons 256 _ _ (below 6) (under-cons 256 _ _ (below 7) (under-nil 256)))))))))
