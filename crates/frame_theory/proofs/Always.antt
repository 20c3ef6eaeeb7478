-- In any word's bits something is heard: whether a code word stands near is decided by going through all lists of bytes. Assumes nothing.
use Rattle.std.proofs.Common.{◌≡◌, ℕ, zero, suc, ◌<◌, ◌≤◌, Bool, true, false, T, leb, ◌⊎◌, List, [], ◌∷◌, length, take, refl, ap, subst, inl, inr, arith}
use Rattle.std.proofs.lemmas.Bool.{cases_eq, leb-true, leb-false}
use Rattle.bits.specs.Lists.{are_bytes}
use Rattle.bits.specs.Distance.{distance}
use Rattle.bits.specs.Heard.{Heard, Lost, Got}
use Rattle.bits.proofs.Tests.{under-head, under_tail, under-cons, under-nil}
use Rattle.rs_theory.specs.Code.{is_codeword}
use Rattle.frame_theory.specs.Frame.{passes, Taken, right, spoiled, far}
use Rattle.frame_theory.proofs.Words.{codeword-long, codeword-bytes}

-- it holds, or it does not
abbrev Decided : Type 0 → Type 0
Decided A = A ⊎ (A → ⊥)

decide-test : (b : Bool) → Decided (T b)
decide-test true = inl tt
decide-test false = inr (λ z. z)

decide-both : {A B : Type 0} → Decided A → Decided B → Decided (A × B)
decide-both (inl a) (inl b) = inl (a, b)
decide-both (inl a) (inr z) = inr (λ p. z p.1)
decide-both (inr z) d = inr (λ p. z p.0)

decide-below : (n k : ℕ) → Decided (n ≤ k)
decide-below n k = go (leb n k) refl
  where
    go : (b : Bool) → leb n k ≡ b → Decided (n ≤ k)
    go true e = inl (leb-true n k e)
    go false e = inr (λ h. let l = leb-false n k e in let z : ⊥ = omega arith in z)

not-below : (n : ℕ) → (n ≤ 16 → ⊥) → 16 < n
not-below n y = omega (arith, y)

-- one of the numbers below m, or none
below : (m : ℕ) (Q : ℕ → Type 0) → ((k : ℕ) → Decided (Q k)) → Decided ((k : ℕ) × (k < m) × Q k)
below zero Q d = inr (λ p. let l = p.1 in let z : ⊥ = omega arith in z)
below (suc m) Q d = go (d m) (below m Q d)
  where
    go : Decided (Q m) → Decided ((k : ℕ) × (k < m) × Q k) → Decided ((k : ℕ) × (k < suc m) × Q k)
    go (inl q) r = inl (m, omega arith, q)
    go (inr z) (inl (k, l, q)) = inl (k, omega arith, q)
    go (inr z) (inr y) = inr (λ p. last p (cases_eq p.0 m))
      where
        last : (p : (k : ℕ) × (k < suc m) × Q k) → (p.0 ≡ m) ⊎ (p.0 ≡ m → ⊥) → ⊥
        last (k, l, q) (inl e) = z (subst Q e q)
        last (k, l, q) (inr e) = y (k, omega arith, q)

-- one of the lists of n bytes, or none
abbrev Among : ℕ → (List ℕ → Type 0) → Type 0
Among n P = (xs : List ℕ) × (length xs ≡ n) × T (are_bytes xs) × P xs

among : (n : ℕ) (P : List ℕ → Type 0) → ((xs : List ℕ) → Decided (P xs)) → Decided (Among n P)
among zero P d = go (d [])
  where
    go : Decided (P []) → Decided (Among 0 P)
    go (inl p) = inl ([], refl, under-nil 256, p)
    go (inr z) = inr none
      where
        none : Among 0 P → ⊥
        none ([], l, b, p) = z p
        none (x ∷ xs, l, b, p) = let y : ⊥ = omega (arith, l) in y
among (suc n) P d = go (below 256 (λ (x : ℕ). Among n (λ xs. P (x ∷ xs))) (λ x. among n (λ xs. P (x ∷ xs)) (λ xs. d (x ∷ xs))))
  where
    go : Decided ((x : ℕ) × (x < 256) × Among n (λ xs. P (x ∷ xs))) → Decided (Among (suc n) P)
    go (inl (x, l, (xs, e, b, p))) = inl (x ∷ xs, ap suc e, under-cons 256 x xs l b, p)
    go (inr z) = inr none
      where
        none : Among (suc n) P → ⊥
        none ([], l, b, p) = let y : ⊥ = omega (arith, l) in y
        none (x ∷ xs, l, b, p) = z (x, under-head 256 x xs b, (xs, omega (arith, l), under_tail 256 x xs b, p))

-- a code word within 16 places, or none
near : (w : List ℕ) → Decided (Among 255 (λ c. T (is_codeword c) × (distance c w ≤ 16)))
near w = among 255 (λ c. T (is_codeword c) × (distance c w ≤ 16)) (λ c. decide-both (decide-test (is_codeword c)) (decide-below (distance c w) 16))

pub taken-always : (w : List ℕ) → (h : Heard) × Taken w h
taken-always w = go (near w)
  where
    go : Decided (Among 255 (λ c. T (is_codeword c) × (distance c w ≤ 16))) → (h : Heard) × Taken w h
    go (inl (c, l, b, (code, d))) = look (passes c) refl
      where
        look : (t : Bool) → passes c ≡ t → (h : Heard) × Taken w h
        look true e = (Got (take 221 c), right c code d e)
        look false e = (Lost, spoiled c code d e)
    go (inr z) = (Lost, far (λ c code. beyond c code (decide-below (distance c w) 16)))
      where
        beyond : (c : List ℕ) → T (is_codeword c) → Decided (distance c w ≤ 16) → 16 < distance c w
        beyond c code (inl d) = absurd (z (c, codeword-long c code, codeword-bytes c code, (code, d)))
        beyond c code (inr y) = not-below (distance c w) y
