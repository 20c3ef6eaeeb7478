-- The product is additive in both of its factors. Assumes nothing.
use Rattle.std.proofs.Common.{◌≡◌, ℕ, zero, suc, ◌+◌, ◌-◌, ◌*◌, ◌/◌, ◌%◌, ◌<◌, Bool, true, false, cond, eqb, sym, refl, ap, ◌∙◌, ap₂, ⊎_elim, add-zero, arith}
use lib.Bits.{bit_xor, xor_assoc, xor_comm, xor_self, xor_zero_r, xor_lt, xor_mod, xor_shr, xor_block}
use Rattle.std.proofs.lemmas.Bool.{cases_lt, lt-ltb, le-ltb, cond-true, cond-false}
use Rattle.gf256.specs.Field.{twice, product_by}

pub swap_inner : (a b c d : ℕ) → bit_xor (bit_xor a b) (bit_xor c d) ≡ bit_xor (bit_xor a c) (bit_xor b d)
swap_inner a b c d =
    xor_assoc a b (bit_xor c d) ∙ ap (λ (x : ℕ). bit_xor a x) (sym (xor_assoc b c d) ∙ ap (λ (x : ℕ). bit_xor x d) (xor_comm b c) ∙ xor_assoc c b d) ∙
    sym (xor_assoc a c (bit_xor b d))

pick-xor : (p q a : ℕ) → p < 2 → q < 2 → cond (eqb (bit_xor p q) 1) a 0 ≡ bit_xor (cond (eqb p 1) a 0) (cond (eqb q 1) a 0)
pick-xor zero zero a h k = refl
pick-xor zero (suc zero) a h k = refl
pick-xor zero (suc (suc q)) a h k = let z : ⊥ = omega arith in absurd z
pick-xor (suc zero) zero a h k = sym (xor_zero_r a)
pick-xor (suc zero) (suc zero) a h k = sym (xor_self a)
pick-xor (suc zero) (suc (suc q)) a h k = let z : ⊥ = omega arith in absurd z
pick-xor (suc (suc p)) q a h k = let z : ⊥ = omega arith in absurd z

pub right-additive : (n a b c : ℕ) → product_by n a (bit_xor b c) ≡ bit_xor (product_by n a b) (product_by n a c)
unfolding product_by
right-additive zero a b c = refl
right-additive (suc n) a b c =
    ap₂ bit_xor
    (ap (λ (x : ℕ). cond (eqb x 1) a 0) (xor_mod b c 1) ∙ pick-xor (b % 2) (c % 2) a (omega arith) (omega arith))
    (ap (λ (x : ℕ). product_by n (twice a) x) (xor_shr b c 1) ∙ right-additive n (twice a) (b / 2) (c / 2)) ∙
    swap_inner (cond (eqb (b % 2) 1) a 0) (cond (eqb (c % 2) 1) a 0) (product_by n (twice a) (b / 2)) (product_by n (twice a) (c / 2))

-- ---- twice is additive
twice-split : (a : ℕ) → a < 256 → twice a ≡ bit_xor (a % 128 * 2) (a / 128 * 29)
twice-split a h =
    ⊎_elim
    (λ low.
    let e : a % 128 * 2 ≡ 2 * a = omega arith in
    let f : a / 128 * 29 ≡ 0 = omega arith in
    cond-true _ _ _ (lt-ltb a 128 low) ∙ sym (ap₂ bit_xor e f ∙ xor_zero_r (2 * a)))
    (λ high.
    let e : 2 * a - 256 ≡ a % 128 * 2 = omega arith in
    let f : 29 ≡ a / 128 * 29 = omega arith in
    cond-false _ _ _ (le-ltb a 128 high) ∙ ap₂ bit_xor e f)
    (cases_lt a 128)

double-xor : (x y : ℕ) → bit_xor x y * 2 ≡ bit_xor (x * 2) (y * 2)
double-xor x y =
    let e : bit_xor (x * 2 + 0) (y * 2 + 0) ≡ bit_xor x y * 2 + 0 = xor_block 1 x y 0 0 (omega arith) (omega arith) in
    sym (simp add-zero at e)

times29-xor : (p q : ℕ) → p < 2 → q < 2 → bit_xor p q * 29 ≡ bit_xor (p * 29) (q * 29)
times29-xor zero zero h k = refl
times29-xor zero (suc zero) h k = refl
times29-xor zero (suc (suc q)) h k = let z : ⊥ = omega arith in absurd z
times29-xor (suc zero) zero h k = refl
times29-xor (suc zero) (suc zero) h k = refl
times29-xor (suc zero) (suc (suc q)) h k = let z : ⊥ = omega arith in absurd z
times29-xor (suc (suc p)) q h k = let z : ⊥ = omega arith in absurd z

twice-xor : (a b : ℕ) → a < 256 → b < 256 → twice (bit_xor a b) ≡ bit_xor (twice a) (twice b)
twice-xor a b p q =
    twice-split (bit_xor a b) (xor_lt 8 a b p q) ∙
    ap₂ bit_xor
    (ap (λ (x : ℕ). x * 2) (xor_mod a b 7) ∙ double-xor (a % 128) (b % 128))
    (ap (λ (x : ℕ). x * 29) (xor_shr a b 7) ∙ times29-xor (a / 128) (b / 128) (omega arith) (omega arith)) ∙
    swap_inner (a % 128 * 2) (b % 128 * 2) (a / 128 * 29) (b / 128 * 29) ∙
    sym (ap₂ bit_xor (twice-split a p) (twice-split b q))

twice-below : (a : ℕ) → a < 256 → twice a < 256
twice-below a h =
    let p : a % 128 * 2 < 256 = omega arith in
    let q : a / 128 * 29 < 256 = omega arith in
    let e : twice a ≡ bit_xor (a % 128 * 2) (a / 128 * 29) = twice-split a h in
    let l : bit_xor (a % 128 * 2) (a / 128 * 29) < 256 = xor_lt 8 (a % 128 * 2) (a / 128 * 29) p q in
    rw e l

pick-below : (t : Bool) (a : ℕ) → a < 256 → cond t a 0 < 256
pick-below true a h = h
pick-below false a h = omega arith

cond-xor : (t : Bool) (a b : ℕ) → cond t (bit_xor a b) 0 ≡ bit_xor (cond t a 0) (cond t b 0)
cond-xor true a b = refl
cond-xor false a b = refl

pub left-additive : (n a b c : ℕ) → a < 256 → b < 256 → product_by n (bit_xor a b) c ≡ bit_xor (product_by n a c) (product_by n b c)
unfolding product_by
left-additive zero a b c p q = refl
left-additive (suc n) a b c p q =
    ap₂ bit_xor
    (cond-xor (eqb (c % 2) 1) a b)
    (ap (λ (x : ℕ). product_by n x (c / 2)) (twice-xor a b p q) ∙ left-additive n (twice a) (twice b) (c / 2) (twice-below a p) (twice-below b q)) ∙
    swap_inner (cond (eqb (c % 2) 1) a 0) (cond (eqb (c % 2) 1) b 0) (product_by n (twice a) (c / 2)) (product_by n (twice b) (c / 2))

pub product_by-below : (n a b : ℕ) → a < 256 → product_by n a b < 256
unfolding product_by
product_by-below zero a b h = omega arith
product_by-below (suc n) a b h =
    xor_lt 8 (cond (eqb (b % 2) 1) a 0) (product_by n (twice a) (b / 2)) (pick-below (eqb (b % 2) 1) a h)
    (product_by-below n (twice a) (b / 2) (twice-below a h))
