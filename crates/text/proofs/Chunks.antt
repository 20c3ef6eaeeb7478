-- The bytes in front of the first newline, and what is kept of a line. Assumes nothing.
use Rattle.std.proofs.Common.{◌≡◌, ℕ, zero, suc, ◌+◌, ◌-◌, ◌≤◌, min, Bool, true, false, cond, eqb, ltb, Some, None, Option, List, [], ◌∷◌, ◌++◌, length, take, sym, refl, ap, ◌∙◌, ⊎_elim, arith}
use Rattle.std.specs.List.{position, position_or_len}
use Rattle.std.proofs.lemmas.List.{take_all, length-map}
use Rattle.std.proofs.lemmas.List.Recursion.{is_position_or_len}
use Rattle.std.proofs.lemmas.Bool.{cases_lt, ltb-false}
use Rattle.std.proofs.lemmas.Grind.{common_steps}
use Rattle.text.specs.Lines.{digit_of, digits}
use Rattle.text.specs.Input.{before, ends, used, kept}

length-before : (xs : List ℕ) → length (before xs) ≡ position_or_len (λ x. eqb x 10) xs
unfolding before
length-before = is_position_or_len (λ (xs : List ℕ). length (before xs)) (λ x. eqb x 10) refl (λ x xs. grind (arith, common_steps))

-- they are as many first bytes of the whole
pub take-before : (xs : List ℕ) → take (length (before xs)) xs ≡ before xs
unfolding before
take-before [] = refl
take-before (x ∷ xs) =
    elim (eqb x 10) as (λ b. take (length (cond b [] (x ∷ before xs))) (x ∷ xs) ≡ cond b [] (x ∷ before xs))
    [ true ↦ refl | false ↦ ap (λ (ys : List ℕ). x ∷ ys) (take-before xs) ]

pub before-short : (xs : List ℕ) → length (before xs) ≤ length xs
unfolding before
before-short [] = omega arith
before-short (x ∷ xs) =
    let h = before-short xs in
    elim (eqb x 10) as (λ b. length (cond b [] (x ∷ before xs)) ≤ suc (length xs))
    [ true ↦ omega arith | false ↦ omega arith ]

-- the first n numbers of two lists, one behind the other
take-append : (n : ℕ) (xs ys : List ℕ) → length xs ≤ n → take n (xs ++ ys) ≡ xs ++ take (n - length xs) ys
take-append n [] ys h = ap (λ (k : ℕ). take k ys) (let e : n ≡ n - 0 = omega arith in e)
take-append zero (x ∷ xs) ys h = let z : ⊥ = omega arith in absurd z
take-append (suc n) (x ∷ xs) ys h = ap (λ (zs : List ℕ). x ∷ zs) (take-append n xs ys (omega arith) ∙ ap (λ (k : ℕ). xs ++ take k ys) (let e : n - length xs ≡ suc n - suc (length xs) = omega arith in e))

take_within : (n k : ℕ) (xs : List ℕ) → n ≡ min (length xs) k → take n xs ≡ take k xs
take_within n k xs e =
    ⊎_elim
    (λ h. ap (λ (m : ℕ). take m xs) (let z : n ≡ length xs = omega arith in z) ∙ take_all (length xs) xs (omega arith) ∙ sym (take_all k xs (omega arith)))
    (λ h. ap (λ (m : ℕ). take m xs) (let z : n ≡ k = omega arith in z))
    (cases_lt (length xs) k)

-- more bytes than there is room for are as good as those that there is room for
pub kept_more : (text more : List ℕ) (count n : ℕ) → length text ≡ count → count ≤ 4093 → n ≡ min (length more) (4093 - count) → text ++ take n more ≡ kept (text ++ more)
kept_more text more count n e h m =
    ap (λ (ys : List ℕ). text ++ ys) (take_within n (4093 - length text) more (m ∙ ap (λ (k : ℕ). min (length more) (4093 - k)) (sym e)))
    ∙ sym (take-append 4093 text more (omega arith))

-- the place of the first newline, as far as there is one
abbrev pub newline : List ℕ → Option ℕ
newline xs = position (λ x. eqb x 10) xs

-- what is taken of a chunk, as far as it ends the line
abbrev pub taken : List ℕ → Option ℕ
taken xs = cond (ends xs) (Some (used xs)) None

-- a newline at a place: what stands in front of it, and the bytes up to it
pub newline_found : (xs : List ℕ) (i : ℕ) → newline xs ≡ Some i → (take i xs ≡ before xs) × (Some (i + 1) ≡ taken xs)
newline_found xs i e = of (ends xs) refl (ap (λ (n : ℕ). cond (ltb n (length xs)) (Some n) None) (length-before xs) ∙ e)
  where
    of : (b : Bool) → ends xs ≡ b → cond b (Some (length (before xs))) None ≡ Some i → (take i xs ≡ before xs) × (Some (i + 1) ≡ taken xs)
    of true k h = let same : length (before xs) ≡ i = cc in (rw (← same) (take-before xs), rw (k, same) refl)
    of false k h = cc

-- no newline: all of the chunk stands in front
pub newline_unfound : (xs : List ℕ) → newline xs ≡ None → (xs ≡ before xs) × (None ≡ taken xs)
newline_unfound xs e = of (ends xs) refl (ap (λ (n : ℕ). cond (ltb n (length xs)) (Some n) None) (length-before xs) ∙ e)
  where
    of : (b : Bool) → ends xs ≡ b → cond b (Some (length (before xs))) None ≡ None → (xs ≡ before xs) × (None ≡ taken xs)
    of true k h = let z : ⊥ = cc in absurd z
    of false k h = (sym (take_all (length (before xs)) xs (ltb-false (length (before xs)) (length xs) k)) ∙ take-before xs, rw k refl)

-- there is room for all digits of a frame
pub kept_digits : (bits : List ℕ) → length bits ≡ 4092 → kept ([] ++ digits bits) ≡ digits bits
kept_digits bits e = take_all 4093 (digits bits) (omega (arith, length-map bits digit_of))
