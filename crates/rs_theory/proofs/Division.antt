-- Long division by the generator: a message followed by its remainder is zero wherever the generator is. Assumes nothing.
use Rattle.std.proofs.Common.{◌≡◌, ℕ, suc, ◌<◌, T, ltb, List, [], ◌∷◌, ◌++◌, length, sym, refl, ap, ◌∙◌, ap₂, arith, lt→ltb}
use lib.Bits.{bit_xor, xor_lt}
use Rattle.bits.specs.Lists.{under, are_bytes}
use Rattle.gf256.specs.Field.{product, power}
use Rattle.gf256.proofs.Basis.{both}
use Rattle.gf256.proofs.Bytes.{product-below}
use Rattle.gf256.proofs.Ring.{◌⊕◌, ◌⊙◌, pow, ring, xor_is, product_is, pow-suc, pow_below, pow2-below, ⊕-below, ⊕-cancel, ⊕-self, ⊙-below, ⊙-one}
use Rattle.rs_theory.specs.Code.{value_from, feed, first, rest, remainder}
use Rattle.rs_theory.proofs.Sum.{sum}
use Rattle.rs_theory.proofs.Distance.{head_byte, tail-bytes}
use Rattle.rs_theory.proofs.Value.{locators, pow-swap, horner, value-from}

-- the value of a word at 2^j
unfoldable pub val : ℕ → List ℕ → ℕ
val j w = sum w (locators (length w)) j

pub val-cons : (j c : ℕ) (w : List ℕ) → val j (c ∷ w) ≡ c ⊙ pow (power 2 j) (length w) ⊕ val j w
unfolding val sum locators
val-cons j c w = ap (λ (q : ℕ). c ⊙ q ⊕ sum w (locators (length w)) j) (sym (pow-swap j (length w)))

-- ---- one step of the register
pub feed-length : (f : ℕ) (gs rs : List ℕ) → length (feed f gs rs) ≡ length gs
unfolding feed
feed-length f [] rs = refl
feed-length f (g ∷ gs) [] = ap suc (feed-length f gs [])
feed-length f (g ∷ gs) (r ∷ rs) = ap suc (feed-length f gs rs)

pub feed-bytes : (f : ℕ) (gs rs : List ℕ) → f < 256 → T (are_bytes gs) → T (are_bytes rs) → T (are_bytes (feed f gs rs))
unfolding feed under
feed-bytes f [] rs p q b = tt
feed-bytes f (g ∷ gs) [] p q b =
    both (ltb (product f g) 256) (under 256 (feed f gs []))
    (lt→ltb _ _ (product-below f g p (head_byte g gs q)))
    (feed-bytes f gs [] p (tail-bytes g gs q) b)
feed-bytes f (g ∷ gs) (r ∷ rs) p q b =
    both (ltb (bit_xor r (product f g)) 256) (under 256 (feed f gs rs))
    (lt→ltb _ _ (xor_lt 8 r (product f g) (head_byte r rs b) (product-below f g p (head_byte g gs q))))
    (feed-bytes f gs rs p (tail-bytes g gs q) (tail-bytes r rs b))

feed-step : (f g r z p G R : ℕ) → (r ⊕ f ⊙ g) ⊙ (z ⊙ p) ⊕ (f ⊙ G ⊕ z ⊙ R) ≡ f ⊙ (g ⊙ (z ⊙ p) ⊕ G) ⊕ z ⊙ (r ⊙ p ⊕ R)
feed-step f g r z p G R = simp ring

feed-last : (f g z p : ℕ) → (f ⊙ g) ⊙ p ⊕ 0 ≡ f ⊙ (g ⊙ p ⊕ 0) ⊕ z ⊙ 0
feed-last f g z p = simp ring

val-none : (j : ℕ) → val j [] ≡ 0
unfolding val sum
val-none j = refl

feed-val-last : (j f g : ℕ) (gs : List ℕ) → f < 256 → g < 256 → length gs ≡ 0 →
    val j (product f g ∷ feed f gs []) ≡ f ⊙ val j (g ∷ gs) ⊕ power 2 j ⊙ val j []
unfolding feed
feed-val-last j f g [] p q h =
    val-cons j (product f g) [] ∙
    ap₂ (λ (a b : ℕ). a ⊙ pow (power 2 j) 0 ⊕ b) (product_is f g p q) (val-none j) ∙
    feed-last f g (power 2 j) (pow (power 2 j) 0) ∙
    sym (ap₂ (λ (a b : ℕ). f ⊙ a ⊕ power 2 j ⊙ b) (val-cons j g [] ∙ ap (λ (b : ℕ). g ⊙ pow (power 2 j) 0 ⊕ b) (val-none j)) (val-none j))
feed-val-last j f g (k ∷ gs) p q h = let z : ⊥ = omega arith in absurd z

pub feed-val : (j f : ℕ) (gs rs : List ℕ) → f < 256 → T (are_bytes gs) → length gs ≡ suc (length rs) →
    val j (feed f gs rs) ≡ f ⊙ val j gs ⊕ power 2 j ⊙ val j rs
unfolding feed
feed-val j f [] rs p q h = let z : ⊥ = omega arith in absurd z
feed-val j f (g ∷ gs) [] p q h = feed-val-last j f g gs p (head_byte g gs q) (omega arith)
feed-val j f (g ∷ gs) (r ∷ rs) p q h =
    let z = power 2 j in
    let longer : length gs ≡ suc (length rs) = omega arith in
    let top : pow z (length gs) ≡ z ⊙ pow z (length rs) = ap (pow z) longer ∙ pow-suc z (length rs) in
    let head : bit_xor r (product f g) ≡ r ⊕ f ⊙ g = xor_is r (product f g) ∙ ap (λ (x : ℕ). r ⊕ x) (product_is f g p (head_byte g gs q)) in
    val-cons j (bit_xor r (product f g)) (feed f gs rs) ∙
    ap₂ ◌⊕◌ (ap₂ ◌⊙◌ head (ap (pow z) (feed-length f gs rs) ∙ top)) (feed-val j f gs rs p (tail-bytes g gs q) longer) ∙
    feed-step f g r z (pow z (length rs)) (val j gs) (val j rs) ∙
    sym (ap₂ (λ (a b : ℕ). f ⊙ a ⊕ z ⊙ b) (val-cons j g gs ∙ ap (λ (x : ℕ). g ⊙ x ⊕ val j gs) top) (val-cons j r rs))

-- ---- the whole division
pub remainder-length : (g ms rs : List ℕ) → length rs ≡ length g → length (remainder g ms rs) ≡ length g
unfolding remainder
remainder-length g [] rs h = h
remainder-length g (m ∷ ms) rs h =
    remainder-length g ms (feed (bit_xor m (first rs)) g (rest rs)) (feed-length (bit_xor m (first rs)) g (rest rs))

first_byte : (rs : List ℕ) → T (are_bytes rs) → first rs < 256
first_byte [] b = omega arith
first_byte (r ∷ rs) b = head_byte r rs b

rest-bytes : (rs : List ℕ) → T (are_bytes rs) → T (are_bytes (rest rs))
rest-bytes [] b = b
rest-bytes (r ∷ rs) b = tail-bytes r rs b

pub remainder-bytes : (g ms rs : List ℕ) → T (are_bytes g) → T (are_bytes ms) → T (are_bytes rs) → T (are_bytes (remainder g ms rs))
unfolding remainder
remainder-bytes g [] rs p q b = b
remainder-bytes g (m ∷ ms) rs p q b =
    remainder-bytes g ms (feed (bit_xor m (first rs)) g (rest rs)) p (tail-bytes m ms q)
    (feed-bytes (bit_xor m (first rs)) g (rest rs) (xor_lt 8 m (first rs) (head_byte m ms q) (first_byte rs b)) p (rest-bytes rs b))

-- the generator without its head is worth as much as its head, where it is zero
root-worth : (j k : ℕ) (g : List ℕ) → length g ≡ suc k → val j (1 ∷ g) ≡ 0 → val j g ≡ pow (power 2 j) (suc k)
root-worth j k g h e =
    sym (⊕-cancel (pow (power 2 j) (suc k)) (val j g)
    (ap (λ (x : ℕ). x ⊕ val j g)
    (sym (⊙-one (pow (power 2 j) (suc k)) (pow_below (power 2 j) (suc k))) ∙ ap (λ (n : ℕ). 1 ⊙ pow (power 2 j) n) (sym h)) ∙
    sym (val-cons j 1 g) ∙ e))

step-out : (a z m p : ℕ) → (a ⊙ z ⊕ m) ⊙ (z ⊙ p) ≡ z ⊙ (a ⊙ (z ⊙ p)) ⊕ m ⊙ (z ⊙ p)
step-out a z m p = simp ring

step_in : (m r z p R : ℕ) → z ⊙ (r ⊙ p ⊕ R) ⊕ m ⊙ (z ⊙ p) ≡ (m ⊕ r) ⊙ (z ⊙ p) ⊕ z ⊙ R
step_in m r z p R = simp ring

-- what was read so far, times x^n, and the register have one value: so they go on
keeps : (j acc k m r : ℕ) (g rs : List ℕ) → m < 256 → r < 256 → T (are_bytes g) → length g ≡ suc k → length rs ≡ k → val j (1 ∷ g) ≡ 0 →
    acc ⊙ pow (power 2 j) (suc k) ≡ val j (r ∷ rs) → (acc ⊙ power 2 j ⊕ m) ⊙ pow (power 2 j) (suc k) ≡ val j (feed (bit_xor m r) g rs)
keeps j acc k m r g rs p q b h l root inv =
    let z = power 2 j in
    let up : pow z (suc k) ≡ z ⊙ pow z k = pow-suc z k in
    let before : acc ⊙ (z ⊙ pow z k) ≡ r ⊙ pow z k ⊕ val j rs =
    ap (λ (x : ℕ). acc ⊙ x) (sym up) ∙ inv ∙ val-cons j r rs ∙ ap (λ (n : ℕ). r ⊙ pow z n ⊕ val j rs) l in
    let after : val j (feed (bit_xor m r) g rs) ≡ (m ⊕ r) ⊙ (z ⊙ pow z k) ⊕ z ⊙ val j rs =
    feed-val j (bit_xor m r) g rs (xor_lt 8 m r p q) b (omega arith) ∙
    ap₂ (λ (a c : ℕ). a ⊙ c ⊕ z ⊙ val j rs) (xor_is m r) (root-worth j k g h root ∙ up) in
    ap (λ (x : ℕ). (acc ⊙ z ⊕ m) ⊙ x) up ∙ step-out acc z m (pow z k) ∙ ap (λ (x : ℕ). z ⊙ x ⊕ m ⊙ (z ⊙ pow z k)) before ∙
    step_in m r z (pow z k) (val j rs) ∙ sym after

division-ends : (j acc k : ℕ) (rs : List ℕ) → acc < 256 → T (are_bytes rs) → length rs ≡ suc k → acc ⊙ pow (power 2 j) (suc k) ≡ val j rs →
    value_from (power 2 j) acc rs ≡ 0
unfolding val
division-ends j acc k rs p rb l inv =
    value-from j acc rs p rb ∙
    ap (λ (x : ℕ). x ⊕ sum rs (locators (length rs)) j) (ap (λ (n : ℕ). acc ⊙ pow (power 2 j) n) l ∙ inv) ∙
    ⊕-self (sum rs (locators (length rs)) j)

pub remainder-zero : (j acc k : ℕ) (g ms rs : List ℕ) → acc < 256 → T (are_bytes g) → T (are_bytes ms) → T (are_bytes rs) →
    length g ≡ suc k → length rs ≡ suc k → val j (1 ∷ g) ≡ 0 → acc ⊙ pow (power 2 j) (suc k) ≡ val j rs →
    value_from (power 2 j) acc (ms ++ remainder g ms rs) ≡ 0
unfolding value_from remainder
remainder-zero j acc k g [] rs p gb mb rb h l root inv = division-ends j acc k rs p rb l inv
remainder-zero j acc k g (m ∷ ms) [] p gb mb rb h l root inv = let z : ⊥ = omega arith in absurd z
remainder-zero j acc k g (m ∷ ms) (r ∷ rs) p gb mb rb h l root inv =
    let z = power 2 j in
    let mp : m < 256 = head_byte m ms mb in
    let rp : r < 256 = head_byte r rs rb in
    ap (λ (a : ℕ). value_from z a (ms ++ remainder g ms (feed (bit_xor m r) g rs))) (horner z acc m (pow2-below j) p) ∙
    remainder-zero j (acc ⊙ z ⊕ m) k g ms (feed (bit_xor m r) g rs) (⊕-below (acc ⊙ z) m (⊙-below acc z) mp) gb (tail-bytes m ms mb)
    (feed-bytes (bit_xor m r) g rs (xor_lt 8 m r mp rp) gb (tail-bytes r rs rb)) h (feed-length (bit_xor m r) g rs ∙ h) root
    (keeps j acc k m r g rs mp rp gb h (omega arith) root inv)
