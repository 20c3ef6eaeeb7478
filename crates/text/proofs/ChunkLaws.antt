-- Where input is cut into chunks does not matter. Assumes nothing.
use Rattle.std.proofs.Common.{◌≡◌, ℕ, zero, suc, ◌+◌, ◌<◌, ◌≤◌, Bool, true, false, cond, eqb, List, [], ◌∷◌, ◌++◌, length, take, sym, refl, ap, ◌∙◌, ⊎_elim, append_assoc, arith, length-append}
use Rattle.std.proofs.lemmas.Bool.{ltb-true, ltb-false, lt-ltb, le-ltb, cases_lt}
use Rattle.text.specs.Input.{before, ends, used, kept, grown}
use Rattle.text.specs.Laws.{ChunkLaws}

-- no newline: all of it stands in front
before_on : (xs ys : List ℕ) → length xs ≤ length (before xs) → before (xs ++ ys) ≡ xs ++ before ys
unfolding before
before_on [] ys h = refl
before_on (x ∷ xs) ys h =
    elim (eqb x 10) as (λ b. suc (length xs) ≤ length (cond b [] (x ∷ before xs)) → cond b [] (x ∷ before (xs ++ ys)) ≡ x ∷ (xs ++ before ys))
    [ true ↦ (λ k. let z : ⊥ = omega arith in absurd z) | false ↦ (λ k. ap (λ (zs : List ℕ). x ∷ zs) (before_on xs ys (omega arith))) ] h

-- a newline: nothing behind it matters
before-done : (xs ys : List ℕ) → length (before xs) < length xs → before (xs ++ ys) ≡ before xs
unfolding before
before-done [] ys h = let z : ⊥ = omega arith in absurd z
before-done (x ∷ xs) ys h =
    elim (eqb x 10) as (λ b. length (cond b [] (x ∷ before xs)) < suc (length xs) → cond b [] (x ∷ before (xs ++ ys)) ≡ cond b [] (x ∷ before xs))
    [ true ↦ (λ k. refl) | false ↦ (λ k. ap (λ (zs : List ℕ). x ∷ zs) (before-done xs ys (omega arith))) ] h

before-all-of : (xs : List ℕ) → length xs ≤ length (before xs) → before xs ≡ xs
unfolding before
before-all-of [] h = refl
before-all-of (x ∷ xs) h =
    elim (eqb x 10) as (λ b. suc (length xs) ≤ length (cond b [] (x ∷ before xs)) → cond b [] (x ∷ before xs) ≡ x ∷ xs)
    [ true ↦ (λ k. let z : ⊥ = omega arith in absurd z) | false ↦ (λ k. ap (λ (zs : List ℕ). x ∷ zs) (before-all-of xs (omega arith))) ] h

take_twice : (n : ℕ) (xs ys : List ℕ) → take n (take n xs ++ ys) ≡ take n (xs ++ ys)
take_twice zero xs ys = refl
take_twice (suc n) [] ys = refl
take_twice (suc n) (x ∷ xs) ys = ap (λ (zs : List ℕ). x ∷ zs) (take_twice n xs ys)

goes_on : (n : ℕ) (line xs ys : List ℕ) → ends xs ≡ false → take n (take n (line ++ before xs) ++ before ys) ≡ take n (line ++ before (xs ++ ys))
goes_on n line xs ys e =
    let h = ltb-false (length (before xs)) (length xs) e in
    take_twice n (line ++ before xs) (before ys)
    ∙ ap (λ (zs : List ℕ). take n ((line ++ zs) ++ before ys)) (before-all-of xs h)
    ∙ ap (take n) (append_assoc line xs (before ys))
    ∙ ap (λ (zs : List ℕ). take n (line ++ zs)) (sym (before_on xs ys h))

ends-later : (xs ys : List ℕ) → ends xs ≡ false → ends (xs ++ ys) ≡ ends ys
ends-later xs ys e =
    let h = ltb-false (length (before xs)) (length xs) e in
    let front : length (before (xs ++ ys)) ≡ length xs + length (before ys) = ap (λ (zs : List ℕ). length zs) (before_on xs ys h) ∙ length-append xs (before ys) in
    let whole = length-append xs ys in
    ⊎_elim
    (λ k. lt-ltb (length (before (xs ++ ys))) (length (xs ++ ys)) (omega arith) ∙ sym (lt-ltb (length (before ys)) (length ys) k))
    (λ k. le-ltb (length (before (xs ++ ys))) (length (xs ++ ys)) (omega arith) ∙ sym (le-ltb (length (before ys)) (length ys) k))
    (cases_lt (length (before ys)) (length ys))

used-later : (xs ys : List ℕ) → ends xs ≡ false → used (xs ++ ys) ≡ used xs + used ys
used-later xs ys e =
    let h = ltb-false (length (before xs)) (length xs) e in
    let front : length (before (xs ++ ys)) ≡ length xs + length (before ys) = ap (λ (zs : List ℕ). length zs) (before_on xs ys h) ∙ length-append xs (before ys) in
    let whole = length-append xs ys in
    let sums : (b : Bool) → cond b (length (before (xs ++ ys)) + 1) (length (xs ++ ys)) ≡ length xs + cond b (length (before ys) + 1) (length ys) =
    λ b. elim b as (λ v. cond v (length (before (xs ++ ys)) + 1) (length (xs ++ ys)) ≡ length xs + cond v (length (before ys) + 1) (length ys)) [ true ↦ omega arith | false ↦ omega arith ] in
    ap (λ (b : Bool). cond b (length (before (xs ++ ys)) + 1) (length (xs ++ ys))) (ends-later xs ys e)
    ∙ sums (ends ys)
    ∙ ap (λ (b : Bool). cond b (length (before xs) + 1) (length xs) + used ys) (sym e)

has_ended : (line xs ys : List ℕ) → ends xs ≡ true → grown line (xs ++ ys) ≡ grown line xs
has_ended line xs ys e = ap (λ (zs : List ℕ). kept (line ++ zs)) (before-done xs ys (ltb-true (length (before xs)) (length xs) e))

ends_there : (xs ys : List ℕ) → ends xs ≡ true → ends (xs ++ ys) ≡ true
ends_there xs ys e =
    let h = ltb-true (length (before xs)) (length xs) e in
    let front = ap (λ (zs : List ℕ). length zs) (before-done xs ys h) in
    let whole = length-append xs ys in
    lt-ltb (length (before (xs ++ ys))) (length (xs ++ ys)) (omega arith)

used-there : (xs ys : List ℕ) → ends xs ≡ true → used (xs ++ ys) ≡ used xs
used-there xs ys e =
    ap (λ (b : Bool). cond b (length (before (xs ++ ys)) + 1) (length (xs ++ ys))) (ends_there xs ys e)
    ∙ ap (λ (zs : List ℕ). length zs + 1) (before-done xs ys (ltb-true (length (before xs)) (length xs) e))
    ∙ ap (λ (b : Bool). cond b (length (before xs) + 1) (length xs)) (sym e)

pub chunk-laws : ChunkLaws
chunk-laws = record { goes_on = goes_on 4093; ends_later = ends-later; used_later = used-later; has_ended = has_ended; ends_there = ends_there; used_there = used-there }
