-- Sums Σ e ⊙ x^j of entries beside their locators, and what scaling the entries does to them. Assumes nothing.
use Rattle.std.proofs.Common.{◌≡◌, ℕ, zero, suc, ◌<◌, ◌≤◌, T, ltb, List, [], ◌∷◌, length, sym, refl, ap, ◌∙◌, ap₂, ⊎_elim, arith, ltb→lt, lt→ltb}
use Rattle.std.proofs.lemmas.Bool.{cases_eq}
use Rattle.bits.specs.Lists.{under, are_bytes, zeros}
use Rattle.bits.specs.Distance.{differ}
unfoldable pub use Rattle.rs_theory.specs.Code.{weight}
use Rattle.bits.proofs.Hamming.{differ_same, differ-not, differ-le}
use Rattle.gf256.proofs.Basis.{both, both_left, both_right}
use Rattle.gf256.proofs.Ring.{◌⊕◌, ◌⊙◌, pow, ring, ⊕-below, ⊕-zero-l, ⊕-self, ⊙-below, ⊙-zero-l, ⊙-zero-r}

-- Σ e ⊙ x^j, as far as both lists go
unfoldable pub sum : List ℕ → List ℕ → ℕ → ℕ
sum [] xs j = 0
sum (e ∷ es) [] j = 0
sum (e ∷ es) (x ∷ xs) j = e ⊙ pow x j ⊕ sum es xs j

-- each entry times its locator plus x
unfoldable pub scale : ℕ → List ℕ → List ℕ → List ℕ
scale x [] ys = []
scale x (e ∷ es) [] = []
scale x (e ∷ es) (y ∷ ys) = e ⊙ (y ⊕ x) ∷ scale x es ys

-- the sum of two lists of entries, place by place, as far as both go
unfoldable pub plus : List ℕ → List ℕ → List ℕ
plus [] fs = []
plus (e ∷ es) [] = []
plus (e ∷ es) (f ∷ fs) = e ⊕ f ∷ plus es fs

-- ---- sums
scale-step : (x e y p s t : ℕ) → (e ⊙ (y ⊕ x)) ⊙ p ⊕ (s ⊕ x ⊙ t) ≡ (e ⊙ (y ⊙ p) ⊕ s) ⊕ x ⊙ (e ⊙ p ⊕ t)
scale-step x e y p s t = simp ring

none-scaled : (x : ℕ) → 0 ≡ 0 ⊕ x ⊙ 0
none-scaled x = sym (⊕-zero-l (x ⊙ 0) ∙ ⊙-zero-r x)

pub sum-scale : (x : ℕ) (es ys : List ℕ) (j : ℕ) → sum (scale x es ys) ys j ≡ sum es ys (suc j) ⊕ x ⊙ sum es ys j
unfolding sum scale pow
sum-scale x [] ys j = none-scaled x
sum-scale x (e ∷ es) [] j = none-scaled x
sum-scale x (e ∷ es) (y ∷ ys) j =
    ap (λ (r : ℕ). (e ⊙ (y ⊕ x)) ⊙ pow y j ⊕ r) (sum-scale x es ys j) ∙ scale-step x e y (pow y j) (sum es ys (suc j)) (sum es ys j)

plus_step : (e f p s t : ℕ) → (e ⊕ f) ⊙ p ⊕ (s ⊕ t) ≡ (e ⊙ p ⊕ s) ⊕ (f ⊙ p ⊕ t)
plus_step e f p s t = simp ring

pub sum-plus : (es fs ys : List ℕ) (j : ℕ) → length es ≡ length fs → sum (plus es fs) ys j ≡ sum es ys j ⊕ sum fs ys j
unfolding sum plus
sum-plus [] [] ys j h = sym (⊕-self 0)
sum-plus [] (f ∷ fs) ys j h = let z : ⊥ = omega arith in absurd z
sum-plus (e ∷ es) [] ys j h = let z : ⊥ = omega arith in absurd z
sum-plus (e ∷ es) (f ∷ fs) [] j h = sym (⊕-self 0)
sum-plus (e ∷ es) (f ∷ fs) (y ∷ ys) j h =
    ap (λ (r : ℕ). (e ⊕ f) ⊙ pow y j ⊕ r) (sum-plus es fs ys j (omega arith)) ∙ plus_step e f (pow y j) (sum es ys j) (sum fs ys j)

pub sum_zeros : (n : ℕ) (ys : List ℕ) (j : ℕ) → sum (zeros n) ys j ≡ 0
unfolding sum zeros
sum_zeros zero ys j = refl
sum_zeros (suc n) [] j = refl
sum_zeros (suc n) (y ∷ ys) j = ap₂ ◌⊕◌ (⊙-zero-l (pow y j)) (sum_zeros n ys j) ∙ ⊕-self 0

pub sum_below : (es ys : List ℕ) (j : ℕ) → sum es ys j < 256
unfolding sum
sum_below [] ys j = omega arith
sum_below (e ∷ es) [] j = omega arith
sum_below (e ∷ es) (y ∷ ys) j = ⊕-below (e ⊙ pow y j) (sum es ys j) (⊙-below e (pow y j)) (sum_below es ys j)

-- ---- scaled entries
pub length-scale : (x : ℕ) (es ys : List ℕ) → length es ≡ length ys → length (scale x es ys) ≡ length ys
unfolding scale
length-scale x [] ys h = h
length-scale x (e ∷ es) [] h = refl
length-scale x (e ∷ es) (y ∷ ys) h = ap suc (length-scale x es ys (omega arith))

pub bytes-scale : (x : ℕ) (es ys : List ℕ) → T (are_bytes (scale x es ys))
unfolding scale under
bytes-scale x [] ys = tt
bytes-scale x (e ∷ es) [] = tt
bytes-scale x (e ∷ es) (y ∷ ys) =
    both (ltb (e ⊙ (y ⊕ x)) 256) (under 256 (scale x es ys)) (lt→ltb _ _ (⊙-below e (y ⊕ x))) (bytes-scale x es ys)

weight-step : (e k : ℕ) → differ (e ⊙ k) 0 ≤ differ e 0
weight-step e k =
    ⊎_elim
    (λ z.
    let d : differ (e ⊙ k) 0 ≡ 0 = differ_same (e ⊙ k) 0 (ap (λ (x : ℕ). x ⊙ k) z ∙ ⊙-zero-l k) in
    omega arith)
    (λ n.
    let d : differ e 0 ≡ 1 = differ-not e 0 n in
    let l : differ (e ⊙ k) 0 ≤ 1 = differ-le (e ⊙ k) 0 in
    omega arith)
    (cases_eq e 0)

pub weight-scale : (x : ℕ) (es ys : List ℕ) → weight (scale x es ys) ≤ weight es
unfolding scale weight
weight-scale x [] ys = omega arith
weight-scale x (e ∷ es) [] = omega arith
weight-scale x (e ∷ es) (y ∷ ys) = omega (arith, weight-step e (y ⊕ x), weight-scale x es ys)

-- ---- added entries
pub length-plus : (es fs : List ℕ) → length es ≡ length fs → length (plus es fs) ≡ length es
unfolding plus
length-plus [] fs h = refl
length-plus (e ∷ es) [] h = sym h
length-plus (e ∷ es) (f ∷ fs) h = ap suc (length-plus es fs (omega arith))

pub bytes-plus : (es fs : List ℕ) → T (are_bytes es) → T (are_bytes fs) → T (are_bytes (plus es fs))
unfolding plus under
bytes-plus [] fs p q = tt
bytes-plus (e ∷ es) [] p q = tt
bytes-plus (e ∷ es) (f ∷ fs) p q =
    both (ltb (e ⊕ f) 256) (under 256 (plus es fs))
    (lt→ltb _ _
    (⊕-below e f (ltb→lt e 256 (both_left (ltb e 256) (under 256 es) p)) (ltb→lt f 256 (both_left (ltb f 256) (under 256 fs) q))))
    (bytes-plus es fs (both_right (ltb e 256) (under 256 es) p) (both_right (ltb f 256) (under 256 fs) q))
