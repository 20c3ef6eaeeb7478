-- The values of the errors: syndromes freed from all error locators but one give the error there. Assumes nothing.
use Rattle.std.proofs.Common.{◌≡◌, ℕ, zero, suc, ◌%◌, ◌<◌, ◌≤◌, Bool, true, false, cond, T, eqb, ◌⊎◌, List, [], ◌∷◌, length, get_or, sym, refl, ap, ◌∙◌, ap₂, ⊎_elim, le_refl, le_of_suc-le-suc, not-suc-le-zero, arith}
use Rattle.std.proofs.lemmas.Bool.{eqb-false, ne_eqb}
use Rattle.bits.specs.Lists.{are_bytes}
use Rattle.gf256.specs.Field.{inverse}
use Rattle.gf256.proofs.Ring.{◌⊕◌, ◌⊙◌, pow, ring, ⊙-zero-r, ⊙-zero-l, ⊕-zero-l, ⊕-zero-r, ⊕-self, ⊕-cancel, ⊙-below, ⊙-nonzero, ⊙-inverse, ⊙-one, ⊙-one-product, ⊙-comm, ⊙-assoc, pow-suc, pow-zero, ⊕-below}
use Rattle.rs_theory.proofs.Sum.{sum, scale, sum-scale}
use Rattle.rs_theory.proofs.Distance.{Unlike, Locators}
use Rattle.rs_decoding.specs.Decoding.{peel, peel_others, others, value_at}
use Rattle.rs_decoding.proofs.Kernel.{Valid, valid-less}
use Rattle.rs_decoding.proofs.Bytes.{under-head, under_tail, bytes-at}

-- ---- peeling the syndromes is scaling the entries
pub valid-peel : (m n y : ℕ) (es xs t : List ℕ) (k : ℕ) → m ≤ n → Valid (suc m) es xs k t → Valid m (scale y es xs) xs k (peel n y t)
unfolding Valid peel
valid-peel zero n y es xs t k h v = tt
valid-peel (suc m) zero y es xs t k h v = absurd (not-suc-le-zero h)
valid-peel (suc m) (suc n) y es xs [] k h v = absurd v
valid-peel (suc m) (suc n) y es xs (a ∷ []) k h v = absurd v.1
valid-peel (suc m) (suc n) y es xs (a ∷ b ∷ t) k h v = (
  ap₂ (λ (p q : ℕ). p ⊕ (y ⊙ q)) v.1.0 v.0 ∙ sym (sum-scale y es xs k),
  valid-peel m n y es xs (b ∷ t) (suc k) (le_of_suc-le-suc h) v.1,
)

unfoldable pub scale_others : ℕ → List ℕ → List ℕ → List ℕ → List ℕ
scale_others x [] es xs = es
scale_others x (y ∷ ys) es xs = scale_others x ys (cond (eqb y x) es (scale y es xs)) xs

pub valid-others : (x : ℕ) (ys es xs t : List ℕ) (k : ℕ) → Valid (suc (length ys)) es xs k t → Valid 1 (scale_others x ys es xs) xs k (peel_others x ys t)
unfolding peel_others scale_others
valid-others x [] es xs t k v = v
valid-others x (y ∷ ys) es xs t k v = valid-others x ys _ xs _ k (step (eqb y x))
  where
    step : (b : Bool) → Valid (suc (length ys)) (cond b es (scale y es xs)) xs k (cond b t (peel (suc (length ys)) y t))
    step true = valid-less (suc (length ys)) (suc (suc (length ys))) es xs t k (omega arith) v
    step false = valid-peel (suc (length ys)) (suc (length ys)) y es xs t k (le_refl (suc (length ys))) v

-- ---- what scaling makes of one entry
scale-others-cons : (x : ℕ) (ys : List ℕ) (e z : ℕ) (es xs : List ℕ) → scale_others x ys (e ∷ es) (z ∷ xs) ≡ others x ys z e ∷ scale_others x ys es xs
unfolding scale_others others scale
scale-others-cons x [] e z es xs = refl
scale-others-cons x (y ∷ ys) e z es xs =
    elim (eqb y x) as (λ b. scale_others x ys (cond b (e ∷ es) ((e ⊙ (z ⊕ y)) ∷ scale y es xs)) (z ∷ xs) ≡ others x ys z (cond b e (e ⊙ (z ⊕ y))) ∷ scale_others x ys (cond b es (scale y es xs)) xs) [
      | true ↦ scale-others-cons x ys e z es xs
      | false ↦ scale-others-cons x ys (e ⊙ (z ⊕ y)) z (scale y es xs) xs
    ]

others-zero : (x : ℕ) (ys : List ℕ) (z : ℕ) → others x ys z 0 ≡ 0
unfolding others
others-zero x [] z = refl
others-zero x (y ∷ ys) z =
    elim (eqb y x) as (λ b. others x ys z (cond b 0 (0 ⊙ (z ⊕ y))) ≡ 0) [
      | true ↦ others-zero x ys z
      | false ↦ rw ⊙-zero-l (others-zero x ys z)
    ]

others-times : (x : ℕ) (ys : List ℕ) (z a e : ℕ) → others x ys z (a ⊙ e) ≡ a ⊙ others x ys z e
unfolding others
others-times x [] z a e = refl
others-times x (y ∷ ys) z a e =
    elim (eqb y x) as (λ b. others x ys z (cond b (a ⊙ e) ((a ⊙ e) ⊙ (z ⊕ y))) ≡ a ⊙ others x ys z (cond b e (e ⊙ (z ⊕ y)))) [
      | true ↦ others-times x ys z a e
      | false ↦ ap (others x ys z) (⊙-assoc a e (z ⊕ y)) ∙ others-times x ys z a (e ⊙ (z ⊕ y))
    ]

others_below : (x : ℕ) (ys : List ℕ) (z e : ℕ) → e < 256 → others x ys z e < 256
unfolding others
others_below x [] z e h = h
others_below x (y ∷ ys) z e h =
    elim (eqb y x) as (λ b. others x ys z (cond b e (e ⊙ (z ⊕ y))) < 256) [
      | true ↦ others_below x ys z e h
      | false ↦ others_below x ys z (e ⊙ (z ⊕ y)) (⊙-below e (z ⊕ y))
    ]

-- x is one of ys
unfoldable pub In : ℕ → List ℕ → Type 0
In x [] = ⊥
In x (y ∷ ys) = (x ≡ y) ⊎ In x ys

others-in : (x : ℕ) (ys : List ℕ) (z e : ℕ) → (z ≡ x → ⊥) → In z ys → others x ys z e ≡ 0
unfolding others In
others-in x [] z e ne i = absurd i
others-in x (y ∷ ys) z e ne i =
    ⊎_elim
    (λ p.
    let q : y ≡ x → ⊥ = λ r. ne (p ∙ r) in
    let f : z ⊕ y ≡ 0 = ap (λ (n : ℕ). n ⊕ y) p ∙ ⊕-self y in
    rw (ne_eqb y x q, f, ⊙-zero-r) (others-zero x ys z))
    (λ p. others-in x ys z (cond (eqb y x) e (e ⊙ (z ⊕ y))) ne p)
    i

others-nonzero : (x : ℕ) (ys : List ℕ) (e : ℕ) → x < 256 → T (are_bytes ys) → e < 256 → (e ≡ 0 → ⊥) → others x ys x e ≡ 0 → ⊥
unfolding others
others-nonzero x [] e hx hy he ne = ne
others-nonzero x (y ∷ ys) e hx hy he ne =
    let yb : y < 256 = under-head y ys hy in
    let d : x ⊕ y < 256 = ⊕-below x y hx yb in
    elim (eqb y x) as (λ b. eqb y x ≡ b → others x ys x (cond b e (e ⊙ (x ⊕ y))) ≡ 0 → ⊥) [
      | true ↦ λ q. others-nonzero x ys e hx (under_tail y ys hy) he ne
      | false ↦
          λ q.
          others-nonzero x ys (e ⊙ (x ⊕ y)) hx (under_tail y ys hy) (⊙-below e (x ⊕ y))
          (λ p. ⊎_elim (λ r. ne (omega (arith, r))) (λ r. eqb-false y x q (sym (⊕-cancel x y (omega (arith, r))))) (⊙-nonzero e (x ⊕ y) p))
    ]
    refl

-- ---- the sum that is left has the entry at x alone
-- each entry is zero or stands at one of ys
unfoldable pub Supported : List ℕ → List ℕ → List ℕ → Type 0
Supported ys [] xs = Unit {0}
Supported ys (e ∷ es) [] = Unit {0}
Supported ys (e ∷ es) (x ∷ xs) = ((e ≡ 0) ⊎ In x ys) × Supported ys es xs

entry_gone : (x : ℕ) (ys : List ℕ) (z e : ℕ) → (z ≡ x → ⊥) → (e ≡ 0) ⊎ In z ys → others x ys z e ≡ 0
entry_gone x ys z e ne h = ⊎_elim (λ p. ap (others x ys z) p ∙ others-zero x ys z) (others-in x ys z e ne) h

scale-others-nil : (x : ℕ) (ys xs : List ℕ) → scale_others x ys [] xs ≡ []
unfolding scale_others scale
scale-others-nil x [] xs = refl
scale-others-nil x (y ∷ ys) xs =
    elim (eqb y x) as (λ b. scale_others x ys (cond b [] []) xs ≡ []) [ true ↦ scale-others-nil x ys xs | false ↦ scale-others-nil x ys xs ]

sum-right-nil : (es : List ℕ) (j : ℕ) → sum es [] j ≡ 0
unfolding sum
sum-right-nil [] j = refl
sum-right-nil (e ∷ es) j = refl

sum-left-nil : (xs : List ℕ) (j : ℕ) → sum [] xs j ≡ 0
unfolding sum
sum-left-nil xs j = refl

sum-others-cons : (x : ℕ) (ys : List ℕ) (e z : ℕ) (es xs : List ℕ) (j : ℕ) → sum (scale_others x ys (e ∷ es) (z ∷ xs)) (z ∷ xs) j ≡ (others x ys z e ⊙ pow z j) ⊕ sum (scale_others x ys es xs) xs j
unfolding sum
sum-others-cons x ys e z es xs j = ap (λ (l : List ℕ). sum l (z ∷ xs) j) (scale-others-cons x ys e z es xs)

sum-none : (x : ℕ) (ys es xs : List ℕ) (j : ℕ) → Unlike x xs → Supported ys es xs → sum (scale_others x ys es xs) xs j ≡ 0
unfolding Unlike Supported
sum-none x ys [] xs j u s = rw scale-others-nil (sum-left-nil xs j)
sum-none x ys (e ∷ es) [] j u s = sum-right-nil (scale_others x ys (e ∷ es) []) j
sum-none x ys (e ∷ es) (z ∷ xs) j u s =
    sum-others-cons x ys e z es xs j
    ∙ ap₂ (λ (m n : ℕ). (m ⊙ pow z j) ⊕ n) (entry_gone x ys z e (λ p. u.0 (sym p)) s.0) (sum-none x ys es xs j u.1 s.1)
    ∙ simp (⊙-zero-l, ⊕-zero-l)

pub unlike-at : (x : ℕ) (xs : List ℕ) (p : ℕ) → p < length xs → Unlike x xs → x ≡ get_or xs p 0 → ⊥
unfolding Unlike
unlike-at x [] p h u e = absurd (not-suc-le-zero h)
unlike-at x (y ∷ xs) zero h u e = u.0 e
unlike-at x (y ∷ xs) (suc p) h u e = unlike-at x xs p (le_of_suc-le-suc h) u.1 e

sum-alone : (ys es xs : List ℕ) (p j : ℕ) → p < length xs → length es ≡ length xs → Locators xs → Supported ys es xs →
    sum (scale_others (get_or xs p 0) ys es xs) xs j ≡ others (get_or xs p 0) ys (get_or xs p 0) (get_or es p 0) ⊙ pow (get_or xs p 0) j
unfolding Locators Supported
sum-alone ys [] [] p j h l ls s = absurd (not-suc-le-zero h)
sum-alone ys [] (x ∷ xs) p j h l ls s = let z : ⊥ = omega arith in absurd z
sum-alone ys (e ∷ es) [] p j h l ls s = let z : ⊥ = omega arith in absurd z
sum-alone ys (e ∷ es) (z ∷ xs) zero j h l ls s =
    sum-others-cons z ys e z es xs j
    ∙ ap (λ (n : ℕ). (others z ys z e ⊙ pow z j) ⊕ n) (sum-none z ys es xs j ls.2 s.1)
    ∙ ⊕-zero-r (others z ys z e ⊙ pow z j)
sum-alone ys (e ∷ es) (z ∷ xs) (suc p) j h l ls s =
    let x : ℕ = get_or xs p 0 in
    let q : p < length xs = le_of_suc-le-suc h in
    sum-others-cons x ys e z es xs j
    ∙ ap₂ (λ (m n : ℕ). (m ⊙ pow z j) ⊕ n) (entry_gone x ys z e (unlike-at z xs p q ls.2) s.0) (sum-alone ys es xs p j q (omega arith) ls.3 s.1)
    ∙ simp (⊙-zero-l, ⊕-zero-l)

-- ---- so the value is the entry
divide : (e x n i : ℕ) → e < 256 → (x ⊙ n) ⊙ i ≡ 1 → ((e ⊙ n) ⊙ (x ⊙ 1)) ⊙ i ≡ e
divide e x n i h q =
    shuffle e x n i ∙ ap (λ (m : ℕ). 1 ⊙ (e ⊙ m)) q ∙ ⊙-one-product e 1 ∙ ⊙-comm e 1 ∙ ⊙-one e h
  where
    shuffle : (e x n i : ℕ) → ((e ⊙ n) ⊙ (x ⊙ 1)) ⊙ i ≡ 1 ⊙ (e ⊙ ((x ⊙ n) ⊙ i))
    shuffle e x n i = simp ring

pub locator-at : (xs : List ℕ) (p : ℕ) → p < length xs → Locators xs → (get_or xs p 0 < 256) × (get_or xs p 0 ≡ 0 → ⊥)
unfolding Locators
locator-at [] p h ls = absurd (not-suc-le-zero h)
locator-at (x ∷ xs) zero h ls = (ls.0, ls.1)
locator-at (x ∷ xs) (suc p) h ls = locator-at xs p (le_of_suc-le-suc h) ls.3

valid-one : (es xs t : List ℕ) (k : ℕ) → Valid 1 es xs k t → get_or t 0 0 ≡ sum es xs k
unfolding Valid
valid-one es xs [] k v = absurd v
valid-one es xs (a ∷ t) k v = v.0

by_one : (x : ℕ) (ys : List ℕ) (z e : ℕ) → e < 256 → others x ys z e ≡ e ⊙ others x ys z 1
by_one x ys z e h = ap (others x ys z) (sym (⊙-comm e 1 ∙ ⊙-one e h)) ∙ others-times x ys z e 1

pub value-right : (ys es xs t : List ℕ) (p : ℕ) → p < length xs → length es ≡ length xs → T (are_bytes es) → T (are_bytes ys) → Locators xs →
    Supported ys es xs → Valid (suc (length ys)) es xs 1 t → value_at (get_or xs p 0) ys t ≡ get_or es p 0
unfolding value_at
value-right ys es xs t p h l be by ls s v =
    let x : ℕ = get_or xs p 0 in
    let e : ℕ = get_or es p 0 in
    let n : ℕ = others x ys x 1 in
    let xb : x < 256 = (locator-at xs p h ls).0 in
    let eb : e < 256 = bytes-at es p be in
    let d : ℕ = others x ys x x in
    let db : d < 256 = others_below x ys x x xb in
    let dn : d % 256 ≡ 0 → ⊥ = λ q. others-nonzero x ys x xb by xb (locator-at xs p h ls).1 (omega (arith, q, db)) in
    let first : get_or (peel_others x ys t) 0 0 ≡ (e ⊙ n) ⊙ (x ⊙ 1) =
    valid-one (scale_others x ys es xs) xs (peel_others x ys t) 1 (valid-others x ys es xs t 1 v)
    ∙ sum-alone ys es xs p 1 h l ls s
    ∙ ap₂ (λ (a b : ℕ). a ⊙ b) (by_one x ys x e eb) (pow-suc x 0 ∙ ap (λ (a : ℕ). x ⊙ a) (pow-zero x)) in
    let same : d % 256 ≡ d = omega (arith, db) in
    let inv : (x ⊙ n) ⊙ inverse d ≡ 1 =
    ap (λ (a : ℕ). a ⊙ inverse d) (sym (by_one x ys x x xb))
    ∙ ap (λ (a : ℕ). d ⊙ inverse a) (sym same)
    ∙ ⊙-inverse d dn in
    ap (λ (a : ℕ). a ⊙ inverse d) first ∙ divide e x n (inverse d) eb inv
