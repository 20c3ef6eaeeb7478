-- The laws of the two shut operators ⊕ and ⊙, which want no bounds. Assumes nothing.
use Rattle.std.proofs.Common.{◌≡◌, ℕ, zero, suc, ◌+◌, ◌*◌, ◌%◌, ◌^◌, ◌<◌, Bool, T, eqb, ◌⊎◌, get_or, sym, refl, ap, ◌∙◌, ap₂, inl, inr, ⊎_elim, arith, eqb→eq}
use lib.Bits.{bit_xor, xor_comm, xor_assoc, xor_self, xor_zero_r, xor_lt, xor_mod}
use Rattle.std.proofs.lemmas.Bool.{cases_eq}
use Rattle.gf256.specs.Field.{product, product_by, power, inverse}
use Rattle.gf256.proofs.Bilinear.{left-additive, right-additive, product_by-below}
use Rattle.gf256.proofs.Basis.{Additive, agree, all_below, at-below}
use Rattle.gf256.proofs.Table.{order, log-of-power, log_is, Log, logs}
unfoldable pub use Rattle.gf256.specs.Field.{◌⊕◌, ◌⊙◌}

-- powers by ⊙
unfoldable pub pow : ℕ → ℕ → ℕ
pow a zero = 1
pow a (suc n) = a ⊙ pow a n

-- ---- the sum
pub xor_is : (a b : ℕ) → bit_xor a b ≡ a ⊕ b
unfolding ◌⊕◌
xor_is a b = refl

pub ⊕-comm : (a b : ℕ) → a ⊕ b ≡ b ⊕ a
unfolding ◌⊕◌
⊕-comm a b = xor_comm a b

pub ⊕-assoc : (a b c : ℕ) → (a ⊕ b) ⊕ c ≡ a ⊕ (b ⊕ c)
unfolding ◌⊕◌
⊕-assoc a b c = xor_assoc a b c

pub ⊕-left-comm : (a b c : ℕ) → a ⊕ (b ⊕ c) ≡ b ⊕ (a ⊕ c)
⊕-left-comm a b c = sym (⊕-assoc a b c) ∙ ap (λ (x : ℕ). x ⊕ c) (⊕-comm a b) ∙ ⊕-assoc b a c

pub ⊕-zero-l : (a : ℕ) → 0 ⊕ a ≡ a
unfolding ◌⊕◌
⊕-zero-l a = refl

pub ⊕-zero-r : (a : ℕ) → a ⊕ 0 ≡ a
unfolding ◌⊕◌
⊕-zero-r a = xor_zero_r a

pub ⊕-self : (a : ℕ) → a ⊕ a ≡ 0
unfolding ◌⊕◌
⊕-self a = xor_self a

-- what is added twice falls out
pub ⊕-twice : (a b : ℕ) → a ⊕ (a ⊕ b) ≡ b
⊕-twice a b = sym (⊕-assoc a a b) ∙ ap (λ (x : ℕ). x ⊕ b) (⊕-self a) ∙ ⊕-zero-l b

pub ⊕-cancel : (a b : ℕ) → a ⊕ b ≡ 0 → a ≡ b
⊕-cancel a b e = sym (⊕-zero-r a) ∙ ap (λ (x : ℕ). a ⊕ x) (sym e) ∙ ⊕-twice a b

pub ⊕-below : (a b : ℕ) → a < 256 → b < 256 → a ⊕ b < 256
unfolding ◌⊕◌
⊕-below a b p q = xor_lt 8 a b p q

-- ---- the product: its bounds, and that it is additive
pub product_is : (a b : ℕ) → a < 256 → b < 256 → product a b ≡ a ⊙ b
unfolding ◌⊙◌
product_is a b p q = ap₂ product (omega arith) (omega arith)

pub ⊙-below : (a b : ℕ) → a ⊙ b < 256
unfolding ◌⊙◌ product
⊙-below a b = product_by-below 8 (a % 256) (b % 256) (omega arith)

pub ⊙-mod-l : (a b : ℕ) → (a % 256) ⊙ b ≡ a ⊙ b
unfolding ◌⊙◌
⊙-mod-l a b = ap (λ (x : ℕ). product x (b % 256)) (omega arith)

pub ⊙-mod-r : (a b : ℕ) → a ⊙ (b % 256) ≡ a ⊙ b
unfolding ◌⊙◌
⊙-mod-r a b = ap (λ (x : ℕ). product (a % 256) x) (omega arith)

pub ⊙-distr-l : (a b c : ℕ) → a ⊙ (b ⊕ c) ≡ a ⊙ b ⊕ a ⊙ c
unfolding ◌⊙◌ ◌⊕◌ product
⊙-distr-l a b c = ap (λ (x : ℕ). product_by 8 (a % 256) x) (xor_mod b c 8) ∙ right-additive 8 (a % 256) (b % 256) (c % 256)

pub ⊙-distr-r : (a b c : ℕ) → (a ⊕ b) ⊙ c ≡ a ⊙ c ⊕ b ⊙ c
unfolding ◌⊙◌ ◌⊕◌ product
⊙-distr-r a b c =
    ap (λ (x : ℕ). product_by 8 x (c % 256)) (xor_mod a b 8) ∙ left-additive 8 (a % 256) (b % 256) (c % 256) (omega arith) (omega arith)

by-l : (a : ℕ) → Additive (λ x. a ⊙ x)
unfolding ◌⊕◌
by-l a x y = ⊙-distr-l a x y

by-r : (b : ℕ) → Additive (λ x. x ⊙ b)
unfolding ◌⊕◌
by-r b x y = ⊙-distr-r x y b

-- ---- commutative: 64 tests on powers of two
commutes : ℕ → ℕ → Bool
commutes i j = eqb (2 ^ i ⊙ 2 ^ j) (2 ^ j ⊙ 2 ^ i)

commutes-row : ℕ → Bool
commutes-row i = all_below 8 (commutes i)

commutes-all : T (all_below 8 commutes-row)
unfolding commutes-row commutes ◌⊙◌ product product_by
commutes-all = tt

comm-basis : (i j : ℕ) → i < 8 → j < 8 → 2 ^ i ⊙ 2 ^ j ≡ 2 ^ j ⊙ 2 ^ i
unfolding commutes-row commutes
comm-basis i j p q = eqb→eq _ _ (at-below 8 (commutes i) (at-below 8 commutes-row commutes-all i p) j q)

comm-bytes : (a b : ℕ) → a < 256 → b < 256 → a ⊙ b ≡ b ⊙ a
comm-bytes a b p q =
    agree 8 (λ x. x ⊙ b) (λ x. b ⊙ x) (by-r b) (by-l b)
    (λ i h. agree 8 (λ y. 2 ^ i ⊙ y) (λ y. y ⊙ 2 ^ i) (by-l (2 ^ i)) (by-r (2 ^ i)) (λ j k. comm-basis i j h k) b q) a p

pub ⊙-comm : (a b : ℕ) → a ⊙ b ≡ b ⊙ a
⊙-comm a b =
    sym (⊙-mod-l a b) ∙ sym (⊙-mod-r (a % 256) b) ∙ comm-bytes (a % 256) (b % 256) (omega arith) (omega arith) ∙
    ⊙-mod-l b (a % 256) ∙ ⊙-mod-r b a

-- ---- associative: 512 tests on powers of two
associates : ℕ → ℕ → ℕ → Bool
associates i j k = eqb ((2 ^ i ⊙ 2 ^ j) ⊙ 2 ^ k) (2 ^ i ⊙ (2 ^ j ⊙ 2 ^ k))

associates-row : ℕ → ℕ → Bool
associates-row i j = all_below 8 (associates i j)

associates-square : ℕ → Bool
associates-square i = all_below 8 (associates-row i)

associates-all : T (all_below 8 associates-square)
unfolding associates-square associates-row associates ◌⊙◌ product product_by
associates-all = tt

assoc-basis : (i j k : ℕ) → i < 8 → j < 8 → k < 8 → (2 ^ i ⊙ 2 ^ j) ⊙ 2 ^ k ≡ 2 ^ i ⊙ (2 ^ j ⊙ 2 ^ k)
unfolding associates-square associates-row associates
assoc-basis i j k p q r =
    eqb→eq _ _ (at-below 8 (associates i j) (at-below 8 (associates-row i) (at-below 8 associates-square associates-all i p) j q) k r)

-- a ⊙ (x ⊙ c) and (x ⊙ b) ⊙ c and the like are additive in x
by-ll : (a b : ℕ) → Additive (λ x. a ⊙ (b ⊙ x))
unfolding ◌⊕◌
by-ll a b x y = ap (λ (z : ℕ). a ⊙ z) (⊙-distr-l b x y) ∙ ⊙-distr-l a (b ⊙ x) (b ⊙ y)

by-lr : (a c : ℕ) → Additive (λ x. a ⊙ (x ⊙ c))
unfolding ◌⊕◌
by-lr a c x y = ap (λ (z : ℕ). a ⊙ z) (⊙-distr-r x y c) ∙ ⊙-distr-l a (x ⊙ c) (y ⊙ c)

by-rl : (a c : ℕ) → Additive (λ x. (a ⊙ x) ⊙ c)
unfolding ◌⊕◌
by-rl a c x y = ap (λ (z : ℕ). z ⊙ c) (⊙-distr-l a x y) ∙ ⊙-distr-r (a ⊙ x) (a ⊙ y) c

by-rr : (b c : ℕ) → Additive (λ x. (x ⊙ b) ⊙ c)
unfolding ◌⊕◌
by-rr b c x y = ap (λ (z : ℕ). z ⊙ c) (⊙-distr-r x y b) ∙ ⊙-distr-r (x ⊙ b) (y ⊙ b) c

assoc-bytes : (a b c : ℕ) → a < 256 → b < 256 → c < 256 → (a ⊙ b) ⊙ c ≡ a ⊙ (b ⊙ c)
assoc-bytes a b c p q r =
    agree 8 (λ x. (x ⊙ b) ⊙ c) (λ x. x ⊙ (b ⊙ c)) (by-rr b c) (by-r (b ⊙ c))
    (λ i h.
    agree 8 (λ y. (2 ^ i ⊙ y) ⊙ c) (λ y. 2 ^ i ⊙ (y ⊙ c)) (by-rl (2 ^ i) c) (by-lr (2 ^ i) c)
    (λ j k.
    agree 8 (λ z. (2 ^ i ⊙ 2 ^ j) ⊙ z) (λ z. 2 ^ i ⊙ (2 ^ j ⊙ z)) (by-l (2 ^ i ⊙ 2 ^ j)) (by-ll (2 ^ i) (2 ^ j))
    (λ l m. assoc-basis i j l h k m) c r)
    b q)
    a p

pub ⊙-assoc : (a b c : ℕ) → (a ⊙ b) ⊙ c ≡ a ⊙ (b ⊙ c)
⊙-assoc a b c =
    ap (λ (x : ℕ). x ⊙ c) (sym (⊙-mod-l a b) ∙ sym (⊙-mod-r (a % 256) b)) ∙ sym (⊙-mod-r ((a % 256) ⊙ (b % 256)) c) ∙
    assoc-bytes (a % 256) (b % 256) (c % 256) (omega arith) (omega arith) (omega arith) ∙
    ⊙-mod-l a ((b % 256) ⊙ (c % 256)) ∙ ap (λ (x : ℕ). a ⊙ x) (⊙-mod-l b (c % 256) ∙ ⊙-mod-r b c)

pub ⊙-left-comm : (a b c : ℕ) → a ⊙ (b ⊙ c) ≡ b ⊙ (a ⊙ c)
⊙-left-comm a b c = sym (⊙-assoc a b c) ∙ ap (λ (x : ℕ). x ⊙ c) (⊙-comm a b) ∙ ⊙-assoc b a c

-- ---- zero and one
pub ⊙-zero-r : (a : ℕ) → a ⊙ 0 ≡ 0
⊙-zero-r a = ap (λ (x : ℕ). a ⊙ x) (sym (⊕-self 0)) ∙ ⊙-distr-l a 0 0 ∙ ⊕-self (a ⊙ 0)

pub ⊙-zero-l : (a : ℕ) → 0 ⊙ a ≡ 0
⊙-zero-l a = ⊙-comm 0 a ∙ ⊙-zero-r a

one-keeps : ℕ → Bool
one-keeps i = eqb (1 ⊙ 2 ^ i) (2 ^ i)

one-keeps-all : T (all_below 8 one-keeps)
unfolding one-keeps ◌⊙◌ product product_by
one-keeps-all = tt

pub ⊙-one : (a : ℕ) → a < 256 → 1 ⊙ a ≡ a
unfolding one-keeps
⊙-one a p = agree 8 (λ x. 1 ⊙ x) (λ x. x) (by-l 1) (λ x y. refl) (λ i h. eqb→eq _ _ (at-below 8 one-keeps one-keeps-all i h)) a p

-- the product is a byte, so this wants no bound
pub ⊙-one-product : (a b : ℕ) → 1 ⊙ (a ⊙ b) ≡ a ⊙ b
⊙-one-product a b = ⊙-one (a ⊙ b) (⊙-below a b)

-- ---- powers
pub pow-zero : (a : ℕ) → pow a 0 ≡ 1
unfolding pow
pow-zero a = refl

pub pow-suc : (a k : ℕ) → pow a (suc k) ≡ a ⊙ pow a k
unfolding pow
pow-suc a k = refl

pub pow_below : (a k : ℕ) → pow a k < 256
unfolding pow
pow_below a zero = omega arith
pow_below a (suc k) = ⊙-below a (pow a k)

pub power-is : (a k : ℕ) → a < 256 → power a k ≡ pow a k
unfolding power pow
power-is a zero p = refl
power-is a (suc k) p = ap (product a) (power-is a k p) ∙ product_is a (pow a k) p (pow_below a k)

pub pow-add : (a i j : ℕ) → pow a (i + j) ≡ pow a i ⊙ pow a j
unfolding pow
pow-add a zero j = ap (pow a) (omega arith) ∙ sym (⊙-one (pow a j) (pow_below a j))
pow-add a (suc i) j =
    let e : suc i + j ≡ suc (i + j) = omega arith in
    ap (pow a) e ∙ ap (λ (x : ℕ). a ⊙ x) (pow-add a i j) ∙ sym (⊙-assoc a (pow a i) (pow a j))

pub pow-mul : (a i j : ℕ) → pow (pow a i) j ≡ pow a (i * j)
unfolding pow
pow-mul a i zero = let e : 0 ≡ i * 0 = omega arith in ap (pow a) e
pow-mul a i (suc j) =
    let e : i + i * j ≡ i * suc j = omega arith in
    ap (λ (x : ℕ). pow a i ⊙ x) (pow-mul a i j) ∙ sym (pow-add a i (i * j)) ∙ ap (pow a) e

pub pow-one : (k : ℕ) → pow 1 k ≡ 1
unfolding pow
pow-one zero = refl
pow-one (suc k) = ap (λ (x : ℕ). 1 ⊙ x) (pow-one k) ∙ ⊙-one 1 (omega arith)

pub power-add : (a i j : ℕ) → a < 256 → power a (i + j) ≡ power a i ⊙ power a j
power-add a i j p = power-is a (i + j) p ∙ pow-add a i j ∙ sym (ap₂ ◌⊙◌ (power-is a i p) (power-is a j p))

pub pow2-below : (k : ℕ) → power 2 k < 256
pow2-below k = rw (power-is 2 k (omega arith)) (pow_below 2 k)

pub pow2-order : power 2 255 ≡ 1
pow2-order = order

pub pow2-distinct : (i j : ℕ) → i < 255 → j < 255 → power 2 i ≡ power 2 j → i ≡ j
pow2-distinct i j p q e = sym (log-of-power i p) ∙ ap (λ (x : ℕ). get_or logs x 0) e ∙ log-of-power j q

-- ---- inverses: a = 2^k, so a^255 = (2^255)^k = 1
order-all : (k : ℕ) → pow (pow 2 k) 255 ≡ 1
order-all k =
    let e : k * 255 ≡ 255 * k = omega arith in
    pow-mul 2 k 255 ∙ ap (pow 2) e ∙ sym (pow-mul 2 255 k) ∙
    ap (λ (x : ℕ). pow x k) (sym (power-is 2 255 (omega arith)) ∙ order) ∙ pow-one k

byte-inverse : (a : ℕ) → a < 256 → (a ≡ 0 → ⊥) → a ⊙ inverse a ≡ 1
byte-inverse a p n =
    let l : Log a = log_is a p n in
    let e : pow 2 (get_or logs a 0) ≡ a = sym (power-is 2 (get_or logs a 0) (omega arith)) ∙ l.is in
    ap (λ (x : ℕ). a ⊙ x) (power-is a 254 p) ∙ sym (pow-suc a 254) ∙ ap (λ (x : ℕ). pow x 255) (sym e) ∙ order-all (get_or logs a 0)

pub ⊙-inverse : (a : ℕ) → (a % 256 ≡ 0 → ⊥) → a ⊙ inverse (a % 256) ≡ 1
⊙-inverse a n = sym (⊙-mod-l a (inverse (a % 256))) ∙ byte-inverse (a % 256) (omega arith) n

pub ⊙-nonzero : (a b : ℕ) → a ⊙ b ≡ 0 → (a % 256 ≡ 0) ⊎ (b % 256 ≡ 0)
⊙-nonzero a b e =
    ⊎_elim
    (λ z. inl z)
    (λ n. inr (
    sym (⊙-one (b % 256) (omega arith)) ∙ ⊙-mod-r 1 b ∙ ap (λ (x : ℕ). x ⊙ b) (sym (⊙-inverse a n) ∙ ⊙-comm a (inverse (a % 256))) ∙
    ⊙-assoc (inverse (a % 256)) a b ∙ ap (λ (x : ℕ). inverse (a % 256) ⊙ x) e ∙ ⊙-zero-r (inverse (a % 256))))
    (cases_eq (a % 256) 0)

pub pow-nonzero : (a k : ℕ) → (a % 256 ≡ 0 → ⊥) → pow a k ≡ 0 → ⊥
unfolding pow
pow-nonzero a zero n e = omega arith
pow-nonzero a (suc k) n e =
    ⊎_elim n (λ z. pow-nonzero a k n (let h : pow a k < 256 = pow_below a k in omega arith)) (⊙-nonzero a (pow a k) e)

pub pow2-nonzero : (k : ℕ) → power 2 k ≡ 0 → ⊥
pow2-nonzero k e = pow-nonzero 2 k (λ h. omega arith) (sym (power-is 2 k (omega arith)) ∙ e)

-- `simp ring` multiplies out and sorts: state an identity over plain variables, then apply it
pub ruleset ring = (⊙-distr-l, ⊙-distr-r, ⊙-assoc, ⊙-left-comm, ⊙-comm, ⊕-assoc, ⊕-left-comm, ⊕-comm, ⊕-twice, ⊕-self, ⊕-zero-l, ⊕-zero-r, ⊙-zero-l, ⊙-zero-r)
