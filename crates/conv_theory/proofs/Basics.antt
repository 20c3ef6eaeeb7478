-- Tests joined by and, bits one by one, and lists of bits. Assumes nothing.
use Rattle.std.proofs.Common.{◌≡◌, ℕ, ◌<◌, Bool, true, false, ◌&&◌, T, ◌⊎◌, List, [], ◌∷◌, ◌++◌, arith}
use Rattle.bits.specs.Lists.{are_bits, zeros}
use Rattle.bits.proofs.Tests.{under-head, under_tail, under-nil, under-cons, under-append, under-zeros}

pub and_first : (a b : Bool) → T (a && b) → T a
and_first true b t = tt
and_first false b t = t

pub and_second : (a b : Bool) → T (a && b) → T b
and_second true b t = t
and_second false b t = absurd t

-- a bit is 0 or 1
pub zero-or-one : (b : ℕ) → b < 2 → (b ≡ 0) ⊎ (b ≡ 1)
zero-or-one b h = grind arith

-- lists of bits: the lemmas about lists of numbers below a bound, at 2
pub first_bit : (b : ℕ) (bs : List ℕ) → T (are_bits (b ∷ bs)) → b < 2
first_bit = under-head 2

pub rest-bits : (b : ℕ) (bs : List ℕ) → T (are_bits (b ∷ bs)) → T (are_bits bs)
rest-bits = under_tail 2

pub no_bits : T (are_bits [])
no_bits = under-nil 2

pub more-bits : (b : ℕ) (bs : List ℕ) → b < 2 → T (are_bits bs) → T (are_bits (b ∷ bs))
more-bits = under-cons 2

pub bits-append : (ps bs : List ℕ) → T (are_bits ps) → T (are_bits bs) → T (are_bits (ps ++ bs))
bits-append = under-append 2

pub bits-zeros : (n : ℕ) → T (are_bits (zeros n))
bits-zeros n = under-zeros 2 n (omega arith)

pub bits-front : (ps bs : List ℕ) → T (are_bits (ps ++ bs)) → T (are_bits ps)
bits-front [] bs t = no_bits
bits-front (a ∷ ps) bs t = more-bits a ps (first_bit a (ps ++ bs) t) (bits-front ps bs (rest-bits a (ps ++ bs) t))
