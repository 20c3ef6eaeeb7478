-- The tests of a list that each of its numbers is below a bound, taken apart and put together. Assumes nothing.
use Rattle.std.proofs.Common.{◌≡◌, ℕ, zero, suc, ◌<◌, Bool, true, false, ◌&&◌, T, ltb, List, [], ◌∷◌, ◌++◌, length, take, drop, get_or, sym, refl, ap, subst, ⊎_elim, arith}
use Rattle.std.proofs.lemmas.Bool.{ltb-true, lt-ltb, and_parts, and_from, cases_eq}
use Rattle.bits.specs.Lists.{under, zeros}

-- a test that holds is true, and the other way round
pub holds-true : (b : Bool) → T b → b ≡ true
holds-true true t = refl
holds-true false t = absurd t

pub true-holds : (b : Bool) → b ≡ true → T b
true-holds b e = subst T (sym e) tt

-- the test p at each number below n, which antt computes where n is a numeral
unfoldable pub every_below : ℕ → (ℕ → Bool) → Bool
every_below zero p = true
every_below (suc n) p = p n && every_below n p

pub every_below-at : (n : ℕ) (p : ℕ → Bool) → T (every_below n p) → (k : ℕ) → k < n → T (p k)
unfolding every_below
every_below-at zero p t k h = absurd (omega arith)
every_below-at (suc n) p t k h =
    let ways = and_parts (p n) (every_below n p) (holds-true _ t) in
    ⊎_elim
    (λ e. subst (λ (m : ℕ). T (p m)) (sym e) (true-holds (p n) ways.0))
    (λ e. every_below-at n p (true-holds _ ways.1) k (omega arith))
    (cases_eq k n)

pub under-head : (m x : ℕ) (xs : List ℕ) → T (under m (x ∷ xs)) → x < m
unfolding under
under-head m x xs t = ltb-true x m (and_parts (ltb x m) (under m xs) (holds-true _ t)).0

pub under_tail : (m x : ℕ) (xs : List ℕ) → T (under m (x ∷ xs)) → T (under m xs)
unfolding under
under_tail m x xs t = true-holds (under m xs) (and_parts (ltb x m) (under m xs) (holds-true _ t)).1

-- an element is below the bound; so is the default past the end
pub under-get_or : (m i d : ℕ) (xs : List ℕ) → d < m → T (under m xs) → get_or xs i d < m
under-get_or m i d [] h t = h
under-get_or m zero d (x ∷ xs) h t = under-head m x xs t
under-get_or m (suc i) d (x ∷ xs) h t = under-get_or m i d xs h (under_tail m x xs t)

pub under-nil : (m : ℕ) → T (under m [])
unfolding under
under-nil m = tt

pub under-cons : (m x : ℕ) (xs : List ℕ) → x < m → T (under m xs) → T (under m (x ∷ xs))
unfolding under
under-cons m x xs h t = true-holds (ltb x m && under m xs) (and_from (ltb x m) (under m xs) (lt-ltb x m h) (holds-true _ t))

pub under-append : (m : ℕ) (xs ys : List ℕ) → T (under m xs) → T (under m ys) → T (under m (xs ++ ys))
under-append m [] ys s t = t
under-append m (x ∷ xs) ys s t = under-cons m x (xs ++ ys) (under-head m x xs s) (under-append m xs ys (under_tail m x xs s) t)

pub under-take : (m n : ℕ) (xs : List ℕ) → T (under m xs) → T (under m (take n xs))
under-take m zero xs t = under-nil m
under-take m (suc n) [] t = under-nil m
under-take m (suc n) (x ∷ xs) t = under-cons m x (take n xs) (under-head m x xs t) (under-take m n xs (under_tail m x xs t))

pub under_drop : (m n : ℕ) (xs : List ℕ) → T (under m xs) → T (under m (drop n xs))
under_drop m zero xs t = t
under_drop m (suc n) [] t = t
under_drop m (suc n) (x ∷ xs) t = under_drop m n xs (under_tail m x xs t)

pub length-zeros : (n : ℕ) → length (zeros n) ≡ n
unfolding zeros
length-zeros zero = refl
length-zeros (suc n) = ap suc (length-zeros n)

pub under-zeros : (m n : ℕ) → 0 < m → T (under m (zeros n))
unfolding zeros
under-zeros m zero h = under-nil m
under-zeros m (suc n) h = under-cons m 0 (zeros n) h (under-zeros m n h)
