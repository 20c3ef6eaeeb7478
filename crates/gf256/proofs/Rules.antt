-- What the tables give: powers and logarithms; products and inverses by logarithms; and products by bits. Assumes nothing.
use Rattle.std.proofs.Common.{◌≡◌, ℕ, ◌+◌, ◌-◌, ◌*◌, ◌/◌, ◌%◌, ◌<◌, ◌≤◌, ◌≢◌, suc, cond, eqb, get_or, sym, refl, ap, ◌∙◌, ap₂, ⊎_elim, arith}
use Rattle.std.proofs.lemmas.Bool.{cases_eq, le-ltb, cond-false}
use lib.Bits.{bit_xor, xor_assoc, xor_zero_r}
use Rattle.gf256.specs.Field.{twice, product, product_by, power, inverse}
use Rattle.gf256.specs.Laws.{IsInverse, IsLog}
use Rattle.gf256.specs.declared.tables.TheConstants.{EXP, LOG}
use Rattle.gf256.proofs.Table.{rounds, rounds-at, logs, Log, log_is}
use Rattle.gf256.proofs.Ring.{◌⊙◌, pow, product_is, ⊙-comm, ⊙-assoc, ⊙-zero-l, ⊙-zero-r, ⊙-one, power-is, power-add, pow-mul, pow-one, pow2-below, pow2-nonzero, pow2-order}
use Rattle.gf256.proofs.Bytes.{power_below, product-inverse}

pub power_read : (k : ℕ) → get_or EXP (k % 255) 0 ≡ power 2 k
unfolding rounds
power_read k =
    let round : power 2 (255 * (k / 255)) ≡ 1 =
    power-is 2 (255 * (k / 255)) (omega arith) ∙ sym (pow-mul 2 255 (k / 255)) ∙
    ap (λ (x : ℕ). pow x (k / 255)) (sym (power-is 2 255 (omega arith)) ∙ pow2-order) ∙ pow-one (k / 255) in
    rounds-at (k % 255) (omega arith) ∙ sym (⊙-one (power 2 (k % 255)) (pow2-below (k % 255))) ∙
    ap (λ (x : ℕ). x ⊙ power 2 (k % 255)) (sym round) ∙ sym (power-add 2 (255 * (k / 255)) (k % 255) (omega arith)) ∙ ap (power 2) (omega arith)

-- two rounds are in the table
pub near_power_read : (k : ℕ) → k < 510 → get_or EXP k 0 ≡ power 2 k
unfolding rounds
near_power_read k h = rounds-at k h

log-zero : get_or LOG 0 0 ≡ 0
log-zero = refl

pub log_below : (a i k : ℕ) → a < 256 → i ≡ a → k ≡ get_or LOG i 0 → k < 255
unfolding logs
log_below a i k p e f =
    let g : k ≡ get_or LOG a 0 = f ∙ ap (λ (j : ℕ). get_or LOG j 0) e in
    ⊎_elim
    (λ z. let y : get_or LOG a 0 ≡ 0 = ap (λ (j : ℕ). get_or LOG j 0) z ∙ log-zero in omega arith)
    (λ n. let l : Log a = log_is a p n in rw g l.below)
    (cases_eq a 0)

pub log_read : (a i k : ℕ) → a < 256 → a ≢ 0 → i ≡ a → k ≡ get_or LOG i 0 → IsLog a k
unfolding logs
log_read a i k p n e f =
    let l : Log a = log_is a p n in
    let g : k ≡ get_or LOG a 0 = f ∙ ap (λ (j : ℕ). get_or LOG j 0) e in
    record { below = rw g l.below; is = ap (power 2) g ∙ l.is }

-- ---- products by logarithms
pub product_by_logs : (a b i j : ℕ) → a < 256 → b < 256 → IsLog a i → IsLog b j → power 2 (i + j) ≡ product a b
product_by_logs a b i j p q k l = power-add 2 i j (omega arith) ∙ ap₂ ◌⊙◌ k.is l.is ∙ sym (product_is a b p q)

pub product_zero_l : (a b : ℕ) → b < 256 → a ≡ 0 → product a b ≡ 0
product_zero_l a b q z = product_is a b (omega arith) q ∙ ap (λ (x : ℕ). x ⊙ b) z ∙ ⊙-zero-l b

pub product_zero_r : (a b : ℕ) → a < 256 → b ≡ 0 → product a b ≡ 0
product_zero_r a b p z = product_is a b p (omega arith) ∙ ap (λ (x : ℕ). a ⊙ x) z ∙ ⊙-zero-r a

pub ruleset products = (product_by_logs, product_zero_l, product_zero_r)

-- ---- products by bits
pub twice_high : (a x : ℕ) → 128 ≤ a → x ≡ 2 * (a - 128) → bit_xor x 29 ≡ twice a
twice_high a x h e =
    let f : x ≡ 2 * a - 256 = omega arith in
    ap (λ (y : ℕ). bit_xor y 29) f ∙ sym (cond-false _ _ _ (le-ltb a 128 h))

-- no bit is left of the second factor
pub bits-none : (s a b : ℕ) → bit_xor s (product_by 0 a b) ≡ s
unfolding product_by
bits-none s a b = xor_zero_r s

-- one bit more
pub bits-more : (n s a b x : ℕ) → x ≡ bit_xor s (cond (eqb (b % 2) 1) a 0) → bit_xor x (product_by n (twice a) (b / 2)) ≡ bit_xor s (product_by (suc n) a b)
unfolding product_by
bits-more n s a b x e = ap (λ (y : ℕ). bit_xor y (product_by n (twice a) (b / 2))) e ∙ xor_assoc s (cond (eqb (b % 2) 1) a 0) (product_by n (twice a) (b / 2))

-- an inverse is the inverse
only-inverse : (a i : ℕ) → a < 256 → (a ≡ 0 → ⊥) → i < 256 → a ⊙ i ≡ 1 → i ≡ inverse a
only-inverse a i p n q e =
    let m : a % 256 ≡ a = omega arith in
    let back : inverse a ⊙ a ≡ 1 = ⊙-comm (inverse a) a ∙ sym (product_is a (inverse a) p (power_below a 254 p)) ∙ product-inverse a p n in
    sym (⊙-one i q) ∙ ap (λ (x : ℕ). x ⊙ i) (sym back) ∙ ⊙-assoc (inverse a) a i ∙ ap (λ (x : ℕ). inverse a ⊙ x) e ∙
    ⊙-comm (inverse a) 1 ∙ ⊙-one (inverse a) (power_below a 254 p)

-- a power of 2 is not zero
log-nonzero : (a k : ℕ) → IsLog a k → a ≡ 0 → ⊥
log-nonzero a k l z = pow2-nonzero k (l.is ∙ z)

pub inverse_by_log : (a k i : ℕ) → a < 256 → IsLog a k → i ≡ power 2 (255 - k) → IsInverse a i
inverse_by_log a k i p l e =
    let h : k < 255 = l.below in
    let b : i < 256 = rw e (pow2-below (255 - k)) in
    let one : a ⊙ i ≡ 1 = ap₂ ◌⊙◌ (sym l.is) e ∙ sym (power-add 2 k (255 - k) (omega arith)) ∙ ap (power 2) (omega arith) ∙ pow2-order in
    record { gives = product_is a i p b ∙ one; is = only-inverse a i p (log-nonzero a k l) b one }
