-- Bytes to bits and back: lengths, bounds and the two round trips, and one step of the loops. Assumes nothing.
use Rattle.std.proofs.Common.{◌≡◌, ℕ, zero, suc, ◌*◌, ◌<◌, Bool, ◌&&◌, T, eqb, List, [], ◌∷◌, ◌++◌, length, take, drop, sym, refl, ap, ◌∙◌, subst, ⊎_elim, arith, eqb→eq, length-append, length-drop, take-append-drop}
use Rattle.std.proofs.lemmas.List.{length-take-le, nil_from_length}
use Rattle.std.proofs.lemmas.Bool.{and_parts, cases_eq}
use Rattle.bits.specs.Lists.{are_bytes, are_bits}
use Rattle.bits.specs.Bytes.{bits_of, all_bits, byte_of, all_bytes}
use Rattle.bits.specs.Distance.{distance}
use Rattle.bits.specs.Laws.{RoundTrip}
use Rattle.bits.proofs.Hamming.{distance-zero}
use Rattle.bits.proofs.Tests.{holds-true, true-holds, every_below, every_below-at, under-head, under_tail, under-cons, under-nil, under-append, under-take, under_drop}

pub length-all_bits : (bs : List ℕ) → length (all_bits bs) ≡ 8 * length bs
unfolding all_bits
length-all_bits [] = refl
length-all_bits (b ∷ bs) = omega (arith, length-append (bits_of b) (all_bits bs), length-all_bits bs)

pub length-all_bytes : (n : ℕ) (xs : List ℕ) → length (all_bytes n xs) ≡ n
unfolding all_bytes
length-all_bytes zero xs = refl
length-all_bytes (suc n) xs = ap suc (length-all_bytes n (drop 8 xs))

bits_below : (b : ℕ) → T (are_bits (bits_of b))
bits_below b =
    under-cons 2 _ _ (omega arith) (under-cons 2 _ _ (omega arith) (under-cons 2 _ _ (omega arith) (under-cons 2 _ _ (omega arith) (under-cons 2 _ _ (omega arith) (under-cons 2 _ _ (omega arith) (under-cons 2 _ _ (omega arith) (under-cons 2 _ _ (omega arith) (under-nil 2))))))))

pub are_bits-all_bits : (bs : List ℕ) → T (are_bits (all_bits bs))
unfolding all_bits
are_bits-all_bits [] = under-nil 2
are_bits-all_bits (b ∷ bs) = under-append 2 (bits_of b) (all_bits bs) (bits_below b) (are_bits-all_bits bs)

pub are_bytes-all_bytes : (n : ℕ) (xs : List ℕ) → T (are_bytes (all_bytes n xs))
unfolding all_bytes
are_bytes-all_bytes zero xs = under-nil 256
are_bytes-all_bytes (suc n) xs = under-cons 256 (byte_of (take 8 xs)) (all_bytes n (drop 8 xs)) (omega arith) (are_bytes-all_bytes n (drop 8 xs))

-- a byte's bits make the byte: a test that antt computes, at each byte
comes_back : ℕ → Bool
comes_back b = eqb (byte_of (bits_of b)) b

byte-back : (b : ℕ) → b < 256 → byte_of (bits_of b) ≡ b
unfolding comes_back every_below
byte-back b h = eqb→eq (byte_of (bits_of b)) b (every_below-at 256 comes_back tt b h)

bytes_back : (bs : List ℕ) → T (are_bytes bs) → all_bytes (length bs) (all_bits bs) ≡ bs
unfolding all_bits all_bytes
bytes_back [] t = refl
bytes_back (b ∷ bs) t =
    ap (λ (y : ℕ). y ∷ all_bytes (length bs) (all_bits bs)) (byte-back b (under-head 256 b bs t))
    ∙ ap (λ (ys : List ℕ). b ∷ ys) (bytes_back bs (under_tail 256 b bs t))

-- the test p at each list of n bits
unfoldable pub every_bits : ℕ → (List ℕ → Bool) → Bool
every_bits zero p = p []
every_bits (suc n) p = every_bits n (λ xs. p (0 ∷ xs)) && every_bits n (λ xs. p (1 ∷ xs))

pub every_bits-at : (n : ℕ) (p : List ℕ → Bool) → T (every_bits n p) → (xs : List ℕ) → length xs ≡ n → T (are_bits xs) → T (p xs)
unfolding every_bits
every_bits-at zero p t [] e a = t
every_bits-at zero p t (x ∷ xs) e a = absurd (omega arith)
every_bits-at (suc n) p t [] e a = absurd (omega arith)
every_bits-at (suc n) p t (x ∷ xs) e a =
    let ways = and_parts (every_bits n (λ ys. p (0 ∷ ys))) (every_bits n (λ ys. p (1 ∷ ys))) (holds-true _ t) in
    let small : x < 2 = under-head 2 x xs a in
    let rest : T (are_bits xs) = under_tail 2 x xs a in
    let long : length xs ≡ n = omega arith in
    ⊎_elim
    (λ z. subst (λ (y : ℕ). T (p (y ∷ xs))) (sym z) (every_bits-at n (λ ys. p (0 ∷ ys)) (true-holds _ ways.0) xs long rest))
    (λ z. let o : x ≡ 1 = omega arith in subst (λ (y : ℕ). T (p (y ∷ xs))) (sym o) (every_bits-at n (λ ys. p (1 ∷ ys)) (true-holds _ ways.1) xs long rest))
    (cases_eq x 0)

-- the byte of eight bits has these bits: a test that antt computes, at each eight bits
come_back : List ℕ → Bool
come_back xs = eqb (distance (bits_of (byte_of xs)) xs) 0

bits_back : (xs : List ℕ) → length xs ≡ 8 → T (are_bits xs) → bits_of (byte_of xs) ≡ xs
unfolding come_back every_bits distance
bits_back xs e a = distance-zero (bits_of (byte_of xs)) xs (eqb→eq _ _ (every_bits-at 8 come_back tt xs e a))

all_back : (n : ℕ) (xs : List ℕ) → T (are_bits xs) → length xs ≡ 8 * n → all_bits (all_bytes n xs) ≡ xs
unfolding all_bits all_bytes
all_back zero xs a e = sym (nil_from_length xs (omega arith))
all_back (suc n) xs a e =
    let long : length (take 8 xs) ≡ 8 = length-take-le 8 xs (omega arith) in
    let left : length (drop 8 xs) ≡ 8 * n = length-drop 8 xs ∙ omega arith in
    ap (λ (ys : List ℕ). ys ++ all_bits (all_bytes n (drop 8 xs))) (bits_back (take 8 xs) long (under-take 2 8 xs a))
    ∙ ap (λ (ys : List ℕ). take 8 xs ++ ys) (all_back n (drop 8 xs) (under_drop 2 8 xs a) left)
    ∙ take-append-drop 8 xs

pub round_trip : RoundTrip
round_trip = record { bytes = bytes_back; bits = all_back }
