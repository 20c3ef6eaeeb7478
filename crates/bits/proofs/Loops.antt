-- One step of the loops that turn bytes into bits and bits into bytes. Assumes nothing.
use Rattle.std.proofs.Common.{◌≡◌, ℕ, zero, suc, ◌+◌, ◌-◌, ◌*◌, ◌<◌, ◌≤◌, List, [], ◌∷◌, ◌++◌, length, get_or, take, drop, set, sym, refl, ap, ◌∙◌, append_assoc, append-nil, arith}
use Rattle.std.specs.Simd.{first_chunks}
use Rattle.std.proofs.lemmas.List.{take_more, take_at, drop_at, drop-drop, take_all, take_more_set, length-take-le}
use Rattle.bits.specs.Bytes.{bits_of, all_bits, byte_of, all_bytes}
use Rattle.bits.proofs.Packing.{length-all_bits}

pub all_bits-append : (xs ys : List ℕ) → all_bits (xs ++ ys) ≡ all_bits xs ++ all_bits ys
unfolding all_bits
all_bits-append [] ys = refl
all_bits-append (x ∷ xs) ys = ap (λ (zs : List ℕ). bits_of x ++ zs) (all_bits-append xs ys) ∙ sym (append_assoc (bits_of x) (all_bits xs) (all_bits ys))

one_byte : (b : ℕ) → all_bits (b ∷ []) ≡ bits_of b
unfolding all_bits
one_byte b = append-nil (bits_of b)

-- what a buffer holds once the bits of the first i bytes stand in it
abbrev pub unpacked : ℕ → List ℕ → List ℕ → List ℕ
unpacked i bs old = all_bits (take i bs) ++ drop (8 * i) old

-- the bits of one byte more, written behind those that stand there
pub unpacked_more : (bs old out : List ℕ) (i : ℕ) → i < length bs → out ≡ unpacked i bs old →
    take (8 * i) out ++ (bits_of (get_or bs i 0) ++ drop (8 * i + 8) out) ≡ unpacked (i + 1) bs old
unpacked_more bs old out i h e =
    let front : length (all_bits (take i bs)) ≡ 8 * i = length-all_bits (take i bs) ∙ ap (λ (n : ℕ). 8 * n) (length-take-le i bs (omega arith)) in
    let written : take (8 * i) out ≡ all_bits (take i bs) = ap (take (8 * i)) e ∙ take_at (all_bits (take i bs)) (drop (8 * i) old) (8 * i) front in
    let rest : drop (8 * i) out ≡ drop (8 * i) old = ap (drop (8 * i)) e ∙ drop_at (all_bits (take i bs)) (drop (8 * i) old) (8 * i) front in
    let behind : drop (8 * i + 8) out ≡ drop (8 * (i + 1)) old =
    sym (drop-drop 8 (8 * i) out) ∙ ap (drop 8) rest ∙ drop-drop 8 (8 * i) old ∙ ap (λ (n : ℕ). drop n old) (let z : 8 * i + 8 ≡ 8 * (i + 1) = omega arith in z) in
    let byte : all_bits (take (i + 1) bs) ≡ all_bits (take i bs) ++ bits_of (get_or bs i 0) =
    ap all_bits (take_more bs i 0 h) ∙ all_bits-append (take i bs) (get_or bs i 0 ∷ []) ∙ ap (λ (ys : List ℕ). all_bits (take i bs) ++ ys) (one_byte (get_or bs i 0)) in
    ap (λ (ys : List ℕ). ys ++ (bits_of (get_or bs i 0) ++ drop (8 * i + 8) out)) written
    ∙ ap (λ (ys : List ℕ). all_bits (take i bs) ++ (bits_of (get_or bs i 0) ++ ys)) behind
    ∙ sym (append_assoc (all_bits (take i bs)) (bits_of (get_or bs i 0)) (drop (8 * (i + 1)) old))
    ∙ ap (λ (ys : List ℕ). ys ++ drop (8 * (i + 1)) old) (sym byte)

pub unpacked_none : (bs old : List ℕ) → old ≡ unpacked 0 bs old
unfolding all_bits
unpacked_none bs old = refl

-- what is written, and what the definition makes of the rest of the bits
abbrev pub packed : ℕ → ℕ → List ℕ → List ℕ → List ℕ
packed n i xs out = take i out ++ all_bytes (n - i) (drop (8 * i) xs)

all_bytes-more : (n m i : ℕ) (xs : List ℕ) → n ≡ suc m →
    all_bytes n (drop (8 * i) xs) ≡ byte_of (take 8 (drop (8 * i) xs)) ∷ all_bytes m (drop (8 * (i + 1)) xs)
unfolding all_bytes
all_bytes-more n m i xs e =
    ap (λ (k : ℕ). all_bytes k (drop (8 * i) xs)) e
    ∙ ap (λ (ys : List ℕ). byte_of (take 8 (drop (8 * i) xs)) ∷ all_bytes m ys)
    (drop-drop 8 (8 * i) xs ∙ ap (λ (k : ℕ). drop k xs) (let z : 8 * i + 8 ≡ 8 * (i + 1) = omega arith in z))

all_bytes-none : (n : ℕ) (xs : List ℕ) → n ≡ 0 → all_bytes n xs ≡ []
unfolding all_bytes
all_bytes-none n xs e = ap (λ (k : ℕ). all_bytes k xs) e

pub packed_more : (xs out : List ℕ) (n i : ℕ) → i < n → length out ≡ n →
    packed n (i + 1) xs (set out i (byte_of (take 8 (drop (8 * i) xs)))) ≡ packed n i xs out
packed_more xs out n i h e =
    let y = byte_of (take 8 (drop (8 * i) xs)) in
    let ys = all_bytes (n - (i + 1)) (drop (8 * (i + 1)) xs) in
    ap (λ (zs : List ℕ). zs ++ ys) (take_more_set out i y (omega arith))
    ∙ append_assoc (take i out) (y ∷ []) ys
    ∙ ap (λ (zs : List ℕ). take i out ++ zs) (sym (all_bytes-more (n - i) (n - (i + 1)) i xs (omega arith)))

pub packed_all : (xs out : List ℕ) (n i : ℕ) → length out ≡ n → n ≤ i → packed n i xs out ≡ out
packed_all xs out n i e h =
    ap (λ (ys : List ℕ). take i out ++ ys) (all_bytes-none (n - i) (drop (8 * i) xs) (omega arith))
    ∙ append-nil (take i out)
    ∙ take_all i out (omega arith)

-- each eight bits are a part of the list
pub eight_at : (k i : ℕ) (xs : List ℕ) → i < k → get_or (first_chunks 8 k xs) i [] ≡ take 8 (drop (8 * i) xs)
eight_at zero i xs h = let z : ⊥ = omega arith in absurd z
eight_at (suc k) zero xs h = refl
eight_at (suc k) (suc i) xs h =
    eight_at k i (drop 8 xs) (omega arith)
    ∙ ap (take 8) (drop-drop (8 * i) 8 xs ∙ ap (λ (n : ℕ). drop n xs) (let e : 8 + 8 * i ≡ 8 * suc i = omega arith in e))
