-- How many of the first n places a test holds at: gaps are counted by it. Assumes nothing.
use Rattle.std.proofs.Common.{◌≡◌, ℕ, zero, suc, ◌+◌, ◌<◌, ◌≤◌, Bool, true, false, cond, refl, subst, inl, inr, arith}
use Rattle.std.proofs.lemmas.Bool.{cases_eq, cases_Bool, cond-true, cond-false}

unfoldable pub gaps : (ℕ → Bool) → ℕ → ℕ
gaps e zero = 0
gaps e (suc k) = cond (e k) (suc (gaps e k)) (gaps e k)

pub gaps-none : (e : ℕ → Bool) → gaps e 0 ≡ 0
unfolding gaps
gaps-none e = refl

pub gaps-full : (e : ℕ → Bool) (k : ℕ) → e k ≡ false → gaps e (suc k) ≡ gaps e k
unfolding gaps
gaps-full e k h = cond-false (e k) (suc (gaps e k)) (gaps e k) h

pub gaps-empty : (e : ℕ → Bool) (k : ℕ) → e k ≡ true → gaps e (suc k) ≡ suc (gaps e k)
unfolding gaps
gaps-empty e k h = cond-true (e k) (suc (gaps e k)) (gaps e k) h

pub gaps-next : (e : ℕ → Bool) (k : ℕ) → gaps e (suc k) ≤ suc (gaps e k)
gaps-next e k =
    elim (cases_Bool (e k)) [ inl h ↦ let q = gaps-empty e k h in omega arith | inr h ↦ let q = gaps-full e k h in omega arith ]

pub gaps-most : (e : ℕ → Bool) (k : ℕ) → gaps e k ≤ k
gaps-most e zero = let q = gaps-none e in omega arith
gaps-most e (suc k) = let q = gaps-next e k in let r = gaps-most e k in omega arith

-- fewer places, no more gaps
pub gaps-less : (e d : ℕ → Bool) (n : ℕ) → ((k : ℕ) → k < n → e k ≡ false → d k ≡ false) → gaps d n ≤ gaps e n
gaps-less e d zero h = let q = gaps-none e in let r = gaps-none d in omega arith
gaps-less e d (suc n) h =
    let i = gaps-less e d n (λ k l o. h k (omega arith) o) in
    elim (cases_Bool (e n)) [
      | inl o ↦ let q = gaps-empty e n o in let r = gaps-next d n in omega arith
      | inr o ↦ let q = gaps-full e n o in let r = gaps-full d n (h n (omega arith) o) in omega arith
    ]

-- one place less, one gap less
pub gaps-fewer :
    (e d : ℕ → Bool) (n i : ℕ) → ((k : ℕ) → k < n → e k ≡ false → d k ≡ false) → i < n → e i ≡ true → d i ≡ false → gaps d n + 1 ≤ gaps e n
gaps-fewer e d zero i h l a b = let z : ⊥ = omega arith in absurd z
gaps-fewer e d (suc n) i h l a b =
    elim (cases_eq i n) [
      | inl q ↦
          let x = gaps-empty e n (subst (λ (k : ℕ). e k ≡ true) q a) in
          let y = gaps-full d n (subst (λ (k : ℕ). d k ≡ false) q b) in
          let z = gaps-less e d n (λ k l o. h k (omega arith) o) in
          omega arith
      | inr q ↦ step (gaps-fewer e d n i (λ k l o. h k (omega arith) o) (omega arith) a b)
    ]
  where
    step : gaps d n + 1 ≤ gaps e n → gaps d (suc n) + 1 ≤ gaps e (suc n)
    step j =
        elim (cases_Bool (e n)) [
          | inl o ↦ let x = gaps-empty e n o in let y = gaps-next d n in omega arith
          | inr o ↦ let x = gaps-full e n o in let y = gaps-full d n (h n (omega arith) o) in omega arith
        ]

-- at an empty place there is a gap
pub gaps-some : (e : ℕ → Bool) (n i : ℕ) → i < n → e i ≡ true → 1 ≤ gaps e n
gaps-some e zero i l a = let z : ⊥ = omega arith in absurd z
gaps-some e (suc n) i l a =
    elim (cases_eq i n) [
      | inl q ↦ let x = gaps-empty e n (subst (λ (k : ℕ). e k ≡ true) q a) in omega arith
      | inr q ↦ step (gaps-some e n i (omega arith) a)
    ]
  where
    step : 1 ≤ gaps e n → 1 ≤ gaps e (suc n)
    step j =
        elim (cases_Bool (e n)) [ inl o ↦ let x = gaps-empty e n o in omega arith | inr o ↦ let x = gaps-full e n o in omega arith ]
