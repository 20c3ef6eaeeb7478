-- Hamming distance is a metric; what it is on lists that begin alike. Assumes nothing.
use Rattle.std.proofs.Common.{◌≡◌, ℕ, ◌+◌, ◌≤◌, List, [], ◌∷◌, ◌++◌, length, sym, refl, ap, ◌∙◌, ap₂, ⊎_elim, arith}
use Rattle.std.proofs.lemmas.Bool.{cases_eq, eq-eqb, ne_eqb, cond-true, cond-false}
use Rattle.bits.specs.Distance.{differ, distance}
use Rattle.bits.specs.Laws.{Metric}

pub differ_same : (a b : ℕ) → a ≡ b → differ a b ≡ 0
differ_same a b e = cond-true _ _ _ (eq-eqb a b e)

pub differ-not : (a b : ℕ) → (a ≡ b → ⊥) → differ a b ≡ 1
differ-not a b n = cond-false _ _ _ (ne_eqb a b n)

pub differ-le : (a b : ℕ) → differ a b ≤ 1
differ-le a b =
    ⊎_elim (λ e. let d : differ a b ≡ 0 = differ_same a b e in omega arith) (λ n. let d : differ a b ≡ 1 = differ-not a b n in omega arith) (cases_eq a b)

pub differ-sym : (a b : ℕ) → differ a b ≡ differ b a
differ-sym a b =
    ⊎_elim
    (λ e. differ_same a b e ∙ sym (differ_same b a (sym e)))
    (λ n. differ-not a b n ∙ sym (differ-not b a (λ e. n (sym e))))
    (cases_eq a b)

pub differ-triangle : (a b c : ℕ) → differ a c ≤ differ a b + differ b c
differ-triangle a b c =
    ⊎_elim
    (λ e. let d : differ a c ≡ differ b c = ap (λ (x : ℕ). differ x c) e in omega arith)
    (λ n. let d : differ a b ≡ 1 = differ-not a b n in let l : differ a c ≤ 1 = differ-le a c in omega arith)
    (cases_eq a b)

pub distance_self : (a : List ℕ) → distance a a ≡ 0
unfolding distance
distance_self [] = refl
distance_self (x ∷ a) = ap₂ ◌+◌ (differ_same x x refl) (distance_self a)

pub distance-sym : (a b : List ℕ) → distance a b ≡ distance b a
unfolding distance
distance-sym [] [] = refl
distance-sym [] (y ∷ b) = refl
distance-sym (x ∷ a) [] = refl
distance-sym (x ∷ a) (y ∷ b) = ap₂ ◌+◌ (differ-sym x y) (distance-sym a b)

pub distance-le-sum : (a b : List ℕ) → distance a b ≤ length a + length b
unfolding distance
distance-le-sum [] b = omega arith
distance-le-sum (x ∷ a) [] = omega arith
distance-le-sum (x ∷ a) (y ∷ b) = omega (arith, differ-le x y, distance-le-sum a b)

-- no more places differ than there are
pub distance-le : (a b : List ℕ) → length a ≡ length b → distance a b ≤ length a
unfolding distance
distance-le [] b h = omega arith
distance-le (x ∷ a) [] h = omega arith
distance-le (x ∷ a) (y ∷ b) h = let r : distance a b ≤ length a = distance-le a b (omega arith) in omega (arith, differ-le x y)

pub length-le : (a b : List ℕ) → length b ≤ length a + distance a b
unfolding distance
length-le [] b = omega arith
length-le (x ∷ a) [] = omega arith
length-le (x ∷ a) (y ∷ b) = omega (arith, length-le a b)

pub distance-triangle : (a b c : List ℕ) → distance a c ≤ distance a b + distance b c
unfolding distance
distance-triangle [] b c = length-le b c
distance-triangle (x ∷ a) [] c = distance-le-sum (x ∷ a) c
distance-triangle (x ∷ a) (y ∷ b) [] = omega (arith, length-le b a, distance-sym b a)
distance-triangle (x ∷ a) (y ∷ b) (z ∷ c) = omega (arith, differ-triangle x y z, distance-triangle a b c)

-- lists of one length that do not differ anywhere are equal
pub distance-zero : (a b : List ℕ) → distance a b ≡ 0 → a ≡ b
unfolding distance
distance-zero [] [] h = refl
distance-zero [] (y ∷ b) h = let z : ⊥ = omega arith in absurd z
distance-zero (x ∷ a) [] h = let z : ⊥ = omega arith in absurd z
distance-zero (x ∷ a) (y ∷ b) h =
    ⊎_elim
    (λ e. ap₂ ◌∷◌ e (distance-zero a b (omega arith)))
    (λ n. let d : differ x y ≡ 1 = differ-not x y n in let z : ⊥ = omega arith in absurd z)
    (cases_eq x y)

pub distance-append : (m a b : List ℕ) → distance (m ++ a) (m ++ b) ≡ distance a b
unfolding distance
distance-append [] a b = refl
distance-append (x ∷ m) a b = omega (arith, differ_same x x refl, distance-append m a b)

-- the distance of two lists put together of two fronts of one length is that of their parts
pub distance-parts : (xs ys us vs : List ℕ) → length xs ≡ length us → distance (xs ++ ys) (us ++ vs) ≡ distance xs us + distance ys vs
unfolding distance
distance-parts [] ys [] vs e = omega arith
distance-parts [] ys (u ∷ us) vs e = absurd (omega arith)
distance-parts (x ∷ xs) ys [] vs e = absurd (omega arith)
distance-parts (x ∷ xs) ys (u ∷ us) vs e = omega (arith, distance-parts xs ys us vs (omega arith))

pub metric : Metric
metric = record { none = distance_self; same = distance-zero; symmetric = distance-sym; triangle = distance-triangle }
