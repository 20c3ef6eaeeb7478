-- The value of a word at a power of 2 is a sum over its locators. Assumes nothing.
use Rattle.std.proofs.Common.{◌≡◌, ℕ, zero, suc, ◌+◌, ◌-◌, ◌<◌, ◌≤◌, T, eqb, List, [], ◌∷◌, length, get_or, sym, refl, ap, ◌∙◌, subst, ap₂, ⊎_elim, arith, eqb→eq}
use lib.Bits.{bit_xor}
use lib.Dec.{eqb_refl}
use Rattle.std.proofs.lemmas.Bool.{cases_eq}
use Rattle.bits.specs.Lists.{are_bytes, zeros}
use Rattle.bits.specs.Distance.{differ, distance}
use Rattle.bits.proofs.Hamming.{differ_same, differ-not}
use Rattle.gf256.specs.Field.{product, power}
use Rattle.gf256.proofs.Basis.{both, both_left, both_right}
use Rattle.gf256.proofs.Ring.{◌⊕◌, ◌⊙◌, pow, ring, xor_is, product_is, power-is, pow-mul, ⊕-below, ⊕-cancel, ⊕-self, ⊕-zero-l, ⊕-zero-r, ⊙-below, ⊙-comm, ⊙-one, ⊙-zero-l, pow2-below, pow2-nonzero, pow2-distinct}
use Rattle.rs_theory.specs.Code.{value_from, vanishes}
use Rattle.rs_theory.proofs.Sum.{sum, weight, plus}
use Rattle.rs_theory.proofs.Distance.{Unlike, Locators, head_byte, tail-bytes, head-zero, tail-zeros}
unfoldable pub use Rattle.rs_theory.specs.Code.{locators}

pub length-locators : (n : ℕ) → length (locators n) ≡ n
unfolding locators
length-locators zero = refl
length-locators (suc n) = ap suc (length-locators n)

pub get_or-locators : (n i : ℕ) → i < n → get_or (locators n) i 0 ≡ power 2 (n - suc i)
unfolding locators
get_or-locators zero i h = let z : ⊥ = omega arith in absurd z
get_or-locators (suc n) zero h = ap (power 2) (omega arith)
get_or-locators (suc n) (suc i) h = get_or-locators n i (omega arith) ∙ ap (power 2) (omega arith)

unlike-locators : (n m : ℕ) → m ≤ n → n < 255 → Unlike (power 2 n) (locators m)
unfolding Unlike locators
unlike-locators n zero h k = tt
unlike-locators n (suc m) h k =
    ((λ e. let q : n ≡ m = pow2-distinct n m k (omega arith) e in omega arith), unlike-locators n m (omega arith) k)

pub locators-are : (n : ℕ) → n ≤ 255 → Locators (locators n)
unfolding Locators locators
locators-are zero h = tt
locators-are (suc n) h = (pow2-below n, pow2-nonzero n, unlike-locators n n (omega arith) h, locators-are n (omega arith))

-- ---- the value
pub pow-swap : (j n : ℕ) → pow (power 2 j) n ≡ pow (power 2 n) j
pow-swap j n =
    ap (λ (x : ℕ). pow x n) (power-is 2 j (omega arith)) ∙ pow-mul 2 j n ∙ ap (pow 2) (omega arith) ∙ sym (pow-mul 2 n j) ∙
    ap (λ (x : ℕ). pow x j) (sym (power-is 2 n (omega arith)))

value-step : (a z c p s : ℕ) → (a ⊙ z ⊕ c) ⊙ p ⊕ s ≡ a ⊙ (z ⊙ p) ⊕ (c ⊙ p ⊕ s)
value-step a z c p s = simp ring

pub horner : (z acc c : ℕ) → z < 256 → acc < 256 → bit_xor (product acc z) c ≡ acc ⊙ z ⊕ c
horner z acc c p q = xor_is (product acc z) c ∙ ap (λ (x : ℕ). x ⊕ c) (product_is acc z q p)

pub value-from : (j acc : ℕ) (w : List ℕ) → acc < 256 → T (are_bytes w) →
    value_from (power 2 j) acc w ≡ acc ⊙ pow (power 2 j) (length w) ⊕ sum w (locators (length w)) j
unfolding value_from sum locators pow
value-from j acc [] p b = sym (⊕-zero-r (acc ⊙ 1) ∙ ⊙-comm acc 1 ∙ ⊙-one acc p)
value-from j acc (c ∷ cs) p b =
    let z = power 2 j in
    let n = length cs in
    ap (λ (a : ℕ). value_from z a cs) (horner z acc c (pow2-below j) p) ∙
    value-from j (acc ⊙ z ⊕ c) cs (⊕-below (acc ⊙ z) c (⊙-below acc z) (head_byte c cs b)) (tail-bytes c cs b) ∙
    value-step acc z c (pow z n) (sum cs (locators n) j) ∙
    ap (λ (q : ℕ). acc ⊙ (z ⊙ pow z n) ⊕ (c ⊙ q ⊕ sum cs (locators n) j)) (pow-swap j n)

pub value-is : (j : ℕ) (w : List ℕ) → T (are_bytes w) → value_from (power 2 j) 0 w ≡ sum w (locators (length w)) j
value-is j w b =
    value-from j 0 w (omega arith) b ∙ ap (λ (x : ℕ). x ⊕ sum w (locators (length w)) j) (⊙-zero-l (pow (power 2 j) (length w))) ∙
    ⊕-zero-l (sum w (locators (length w)) j)

-- a word vanishes at 2^1 .. 2^n just if these sums do
pub vanishes-sums : (n : ℕ) (w : List ℕ) → T (are_bytes w) → T (vanishes n w) → (j : ℕ) → j < n → sum w (locators (length w)) (suc j) ≡ 0
unfolding vanishes
vanishes-sums zero w b v j h = let z : ⊥ = omega arith in absurd z
vanishes-sums (suc n) w b v j h =
    ⊎_elim
    (λ e.
    ap (λ (i : ℕ). sum w (locators (length w)) (suc i)) e ∙ sym (value-is (suc n) w b) ∙
    eqb→eq _ _ (both_left (eqb (value_from (power 2 (suc n)) 0 w) 0) (vanishes n w) v))
    (λ ne. vanishes-sums n w b (both_right (eqb (value_from (power 2 (suc n)) 0 w) 0) (vanishes n w) v) j (omega arith))
    (cases_eq j n)

pub sums-vanish : (n : ℕ) (w : List ℕ) → T (are_bytes w) → ((j : ℕ) → j < n → sum w (locators (length w)) (suc j) ≡ 0) → T (vanishes n w)
unfolding vanishes
sums-vanish zero w b v = tt
sums-vanish (suc n) w b v =
    both (eqb (value_from (power 2 (suc n)) 0 w) 0) (vanishes n w)
    (subst (λ (x : ℕ). T (eqb x 0)) (sym (value-is (suc n) w b ∙ v n (omega arith))) (eqb_refl 0))
    (sums-vanish n w b (λ j h. v j (omega arith)))

-- the places at which two words differ are those at which their sum is not zero
differ-plus : (a b : ℕ) → differ (a ⊕ b) 0 ≡ differ a b
differ-plus a b =
    ⊎_elim
    (λ e. differ_same (a ⊕ b) 0 (ap (λ (x : ℕ). x ⊕ b) e ∙ ⊕-self b) ∙ sym (differ_same a b e))
    (λ n. differ-not (a ⊕ b) 0 (λ z. n (⊕-cancel a b z)) ∙ sym (differ-not a b n))
    (cases_eq a b)

pub weight-plus : (c d : List ℕ) → length c ≡ length d → weight (plus c d) ≡ distance c d
unfolding weight plus distance
weight-plus [] d h = h
weight-plus (a ∷ c) [] h = let z : ⊥ = omega arith in absurd z
weight-plus (a ∷ c) (b ∷ d) h = ap₂ ◌+◌ (differ-plus a b) (weight-plus c d (omega arith))

pub plus-zeros : (c d : List ℕ) → length c ≡ length d → plus c d ≡ zeros (length (plus c d)) → c ≡ d
unfolding plus
plus-zeros [] [] h e = refl
plus-zeros [] (b ∷ d) h e = let z : ⊥ = omega arith in absurd z
plus-zeros (a ∷ c) [] h e = let z : ⊥ = omega arith in absurd z
plus-zeros (a ∷ c) (b ∷ d) h e =
    ap₂ ◌∷◌ (⊕-cancel a b (head-zero (a ⊕ b) (plus c d) e)) (plus-zeros c d (omega arith) (tail-zeros (a ⊕ b) (plus c d) e))
