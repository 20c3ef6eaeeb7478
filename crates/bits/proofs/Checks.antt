-- Sixteen shifts of the register at once: the shift is additive, and so is a sum of shifts that agrees with it at the powers of two. Assumes nothing.
use Rattle.std.proofs.Common.{◌≡◌, ℕ, zero, suc, ◌+◌, ◌-◌, ◌*◌, ◌/◌, ◌%◌, ◌^◌, ◌<◌, Bool, T, eqb, List, get_or, sym, refl, ap, ◌∙◌, ap₂, ⊎_elim, add-zero, arith, eqb→eq}
use Rattle.std.specs.Int.{from_be_bytes, w16}
use lib.Bits.{bit_xor, xor_assoc, xor_comm, xor_self, xor_zero_r, xor_lt, xor_mod, xor_shr, xor_block, xor_shifted}
use Rattle.std.proofs.lemmas.Nat.{pow_pos}
use Rattle.std.proofs.lemmas.Bool.{cases_lt, lt-ltb, le-ltb, cond-true, cond-false}
use Rattle.bits.specs.Crc.{shifted, shifted_by, stirred, stirred_two}
use Rattle.bits.proofs.Tests.{every_below, every_below-at}

abbrev Additive : (ℕ → ℕ) → Type 0
Additive f = (a b : ℕ) → f (bit_xor a b) ≡ bit_xor (f a) (f b)

swap_inner : (a b c d : ℕ) → bit_xor (bit_xor a b) (bit_xor c d) ≡ bit_xor (bit_xor a c) (bit_xor b d)
swap_inner a b c d =
    xor_assoc a b (bit_xor c d)
    ∙ ap (λ (x : ℕ). bit_xor a x) (sym (xor_assoc b c d) ∙ ap (λ (x : ℕ). bit_xor x d) (xor_comm b c) ∙ xor_assoc c b d)
    ∙ sym (xor_assoc a c (bit_xor b d))

sum-additive : (f g : ℕ → ℕ) → Additive f → Additive g → Additive (λ x. bit_xor (f x) (g x))
sum-additive f g F G a b = ap₂ bit_xor (F a b) (G a b) ∙ swap_inner (f a) (f b) (g a) (g b)

both-additive : (f g : ℕ → ℕ) → Additive f → Additive g → Additive (λ x. g (f x))
both-additive f g F G a b = ap g (F a b) ∙ G (f a) (f b)

times-xor : (k x y : ℕ) → bit_xor x y * 2 ^ k ≡ bit_xor (x * 2 ^ k) (y * 2 ^ k)
times-xor k x y =
    let e : bit_xor (x * 2 ^ k + 0) (y * 2 ^ k + 0) ≡ bit_xor x y * 2 ^ k + 0 = xor_block k x y 0 0 (pow_pos k) (pow_pos k) in
    sym (simp add-zero at e)

-- the lowest j bits, moved up by k
up-additive : (j k : ℕ) → Additive (λ x. x % 2 ^ j * 2 ^ k)
up-additive j k a b = ap (λ (x : ℕ). x * 2 ^ k) (xor_mod a b j) ∙ times-xor k (a % 2 ^ j) (b % 2 ^ j)

down-additive : (k : ℕ) → Additive (λ x. x / 2 ^ k)
down-additive k a b = xor_shr a b k

times-bit : (p q : ℕ) → p < 2 → q < 2 → bit_xor p q * 4129 ≡ bit_xor (p * 4129) (q * 4129)
times-bit zero zero h k = refl
times-bit zero (suc zero) h k = refl
times-bit zero (suc (suc q)) h k = absurd (omega arith)
times-bit (suc zero) zero h k = refl
times-bit (suc zero) (suc zero) h k = refl
times-bit (suc zero) (suc (suc q)) h k = absurd (omega arith)
times-bit (suc (suc p)) q h k = absurd (omega arith)

-- two additive functions that agree at the powers of two below 2^n agree below 2^n
agree : (n : ℕ) (f g : ℕ → ℕ) → Additive f → Additive g → ((i : ℕ) → i < n → f (2 ^ i) ≡ g (2 ^ i)) → (a : ℕ) → a < 2 ^ n → f a ≡ g a
agree zero f g F G same a h =
    let z : a ≡ 0 = omega arith in
    ap f z ∙ (F 0 0 ∙ xor_self (f 0)) ∙ sym (G 0 0 ∙ xor_self (g 0)) ∙ sym (ap g z)
agree (suc n) f g F G same a h =
    ⊎_elim
    (λ low. agree n f g F G (λ i k. same i (omega arith)) a low)
    (λ high.
    let below : a - 2 ^ n < 2 ^ n = omega arith in
    let one : 1 * 2 ^ n ≡ 2 ^ n = omega arith in
    let back : bit_xor (2 ^ n) (a - 2 ^ n) ≡ a = ap (λ (x : ℕ). bit_xor x (a - 2 ^ n)) (sym one) ∙ xor_shifted 1 n (a - 2 ^ n) below ∙ omega arith in
    ap f (sym back)
    ∙ F (2 ^ n) (a - 2 ^ n)
    ∙ ap₂ bit_xor (same n (omega arith)) (agree n f g F G (λ i k. same i (omega arith)) (a - 2 ^ n) below)
    ∙ sym (G (2 ^ n) (a - 2 ^ n))
    ∙ ap g back)
    (cases_lt a (2 ^ n))

-- one shift, as a sum of two additive parts
unfoldable wide : ℕ → ℕ
wide x = bit_xor (x % 32768 * 2) (x / 32768 % 2 * 4129)

unfoldable wide_by : ℕ → ℕ → ℕ
wide_by zero x = x
wide_by (suc n) x = wide_by n (wide x)

wide-additive : Additive wide
unfolding wide
wide-additive =
    sum-additive (λ x. x % 32768 * 2) (λ x. x / 32768 % 2 * 4129) (up-additive 15 1)
    (λ a b. ap (λ (x : ℕ). x * 4129) (ap (λ (x : ℕ). x % 2) (xor_shr a b 15) ∙ xor_mod (a / 32768) (b / 32768) 1) ∙ times-bit (a / 32768 % 2) (b / 32768 % 2) (omega arith) (omega arith))

wide_by-additive : (n : ℕ) → Additive (wide_by n)
unfolding wide_by
wide_by-additive zero a b = refl
wide_by-additive (suc n) a b = ap (wide_by n) (wide-additive a b) ∙ wide_by-additive n (wide a) (wide b)

wide_below : (x : ℕ) → wide x < 65536
unfolding wide
wide_below x = xor_lt 16 (x % 32768 * 2) (x / 32768 % 2 * 4129) (omega arith) (omega arith)

wide_is : (x : ℕ) → x < 65536 → shifted x ≡ wide x
unfolding wide
wide_is x h =
    ⊎_elim
    (λ low.
    let e : x % 32768 * 2 ≡ 2 * x = omega arith in
    let f : x / 32768 % 2 * 4129 ≡ 0 = omega arith in
    cond-true _ _ _ (lt-ltb x 32768 low) ∙ sym (ap₂ bit_xor e f ∙ xor_zero_r (2 * x)))
    (λ high.
    let m : x % 32768 ≡ x - 32768 = omega arith in
    let n : (2 * x) % 65536 ≡ 2 * x - 65536 = omega arith in
    let e : (2 * x) % 65536 ≡ x % 32768 * 2 = omega arith in
    let d : x / 32768 ≡ 1 = omega arith in
    let f : 4129 ≡ x / 32768 % 2 * 4129 = ap (λ (y : ℕ). y % 2 * 4129) (sym d) in
    cond-false _ _ _ (le-ltb x 32768 high) ∙ ap₂ bit_xor e f)
    (cases_lt x 32768)

wide_by-is : (n x : ℕ) → x < 65536 → shifted_by n x ≡ wide_by n x
unfolding shifted_by wide_by
wide_by-is zero x h = refl
wide_by-is (suc n) x h = ap (shifted_by n) (wide_is x h) ∙ wide_by-is n (wide x) (wide_below x)

wide_by-below : (n x : ℕ) → x < 65536 → wide_by n x < 65536
unfolding wide_by
wide_by-below zero x h = h
wide_by-below (suc n) x h = wide_by-below n (wide x) (wide_below x)

wide-sixteen : (x : ℕ) → wide_by 8 (wide_by 8 x) ≡ wide_by 16 x
unfolding wide_by
wide-sixteen x = refl

-- ---- the sums of shifts
unfoldable pub half_quotient : ℕ → ℕ
half_quotient x = bit_xor x (x / 16)

unfoldable pub quotient : ℕ → ℕ
quotient x = bit_xor (bit_xor (half_quotient x) (half_quotient x / 256)) (x / 2048)

unfoldable pub remainder : ℕ → ℕ
remainder q = bit_xor (bit_xor q (q % 2048 * 32)) (q % 16 * 4096)

half-additive : Additive half_quotient
unfolding half_quotient
half-additive = sum-additive (λ x. x) (λ x. x / 16) (λ a b. refl) (down-additive 4)

quotient-additive : Additive quotient
unfolding quotient
quotient-additive =
    sum-additive (λ x. bit_xor (half_quotient x) (half_quotient x / 256)) (λ x. x / 2048)
    (sum-additive half_quotient (λ x. half_quotient x / 256) half-additive (both-additive half_quotient (λ x. x / 256) half-additive (down-additive 8)))
    (down-additive 11)

remainder-additive : Additive remainder
unfolding remainder
remainder-additive =
    sum-additive (λ q. bit_xor q (q % 2048 * 32)) (λ q. q % 16 * 4096)
    (sum-additive (λ q. q) (λ q. q % 2048 * 32) (λ a b. refl) (up-additive 11 5))
    (up-additive 4 12)

-- they agree with sixteen shifts at each power of two: a test that antt computes
agrees : ℕ → Bool
agrees i = eqb (wide_by 16 (2 ^ i)) (remainder (quotient (2 ^ i)))

agrees-all : T (every_below 16 agrees)
unfolding agrees every_below wide_by wide remainder quotient half_quotient
agrees-all = tt

agrees_at : (i : ℕ) → i < 16 → wide_by 16 (2 ^ i) ≡ remainder (quotient (2 ^ i))
unfolding agrees
agrees_at i h = eqb→eq (wide_by 16 (2 ^ i)) (remainder (quotient (2 ^ i))) (every_below-at 16 agrees agrees-all i h)

at_once : (x : ℕ) → x < 65536 → wide_by 16 x ≡ remainder (quotient x)
at_once x h = agree 16 (wide_by 16) (λ y. remainder (quotient y)) (wide_by-additive 16) (both-additive quotient remainder quotient-additive remainder-additive) agrees_at x h

-- a byte comes to stand in the upper half of the register
rises : ℕ → Bool
rises b = eqb (wide_by 8 b) (256 * b)

rises-all : T (every_below 256 rises)
unfolding rises every_below wide_by wide
rises-all = tt

rise : (b : ℕ) → b < 256 → wide_by 8 b ≡ 256 * b
unfolding rises
rise b h = eqb→eq (wide_by 8 b) (256 * b) (every_below-at 256 rises rises-all b h)

stirred_at_once : (c a b : ℕ) → c < 65536 → a < 256 → b < 256 → remainder (quotient (bit_xor c (256 * a + b))) ≡ stirred (stirred c a) b
stirred_at_once c a b h k l =
    let u = bit_xor c (256 * a) in
    let u-below : u < 65536 = xor_lt 16 c (256 * a) h (omega arith) in
    let both : bit_xor c (256 * a + b) ≡ bit_xor u b =
    ap (λ (x : ℕ). bit_xor c x) (sym (ap (λ (x : ℕ). bit_xor x b) (let e : 256 * a ≡ a * 256 = omega arith in e) ∙ xor_shifted a 8 b l ∙ omega arith))
    ∙ sym (xor_assoc c (256 * a) b) in
    let v_below : bit_xor (wide_by 8 u) (256 * b) < 65536 = xor_lt 16 (wide_by 8 u) (256 * b) (wide_by-below 8 u u-below) (omega arith) in
    ap (λ (x : ℕ). remainder (quotient x)) both
    ∙ sym (at_once (bit_xor u b) (xor_lt 16 u b u-below (omega arith)))
    ∙ sym (wide-sixteen (bit_xor u b))
    ∙ ap (wide_by 8) (wide_by-additive 8 u b ∙ ap (λ (x : ℕ). bit_xor (wide_by 8 u) x) (rise b l))
    ∙ sym (wide_by-is 8 (bit_xor (wide_by 8 u) (256 * b)) v_below)
    ∙ ap (λ (x : ℕ). shifted_by 8 (bit_xor x (256 * b))) (sym (wide_by-is 8 u u-below))

-- the sums of shifts, as the code writes them
abbrev pub sums : ℕ → ℕ
sums x =
    let y = bit_xor x (x / 16) in
    let q = bit_xor (bit_xor y (y / 256)) (x / 2048) in
    bit_xor (bit_xor q (q % 2048 * 32)) (q % 16 * 4096)

-- a pair of bytes at once, as the code reads it
pub stirred_pair : (c w : ℕ) (pair : List ℕ) → c < 65536 → w ≡ from_be_bytes w16 pair → ((i : ℕ) → get_or pair i 0 < 256) → sums (bit_xor c w) ≡ stirred_two c pair
unfolding half_quotient quotient remainder
stirred_pair c w pair h e below =
    let a = get_or pair 0 0 in
    let b = get_or pair 1 0 in
    let both : w ≡ 256 * a + b = omega (arith, e) in
    ap (λ (v : ℕ). remainder (quotient (bit_xor c v))) both ∙ stirred_at_once c a b h (below 0) (below 1)
