-- The pattern comes again after 255 bits: its first 255 as a list, and the pattern over a list in parts. Assumes nothing.
use Rattle.std.proofs.Common.{◌≡◌, ℕ, zero, suc, ◌+◌, ◌-◌, ◌%◌, ◌<◌, ◌≤◌, min, ◌⊎◌, List, [], ◌∷◌, ◌++◌, length, get_or, take, drop, sym, refl, subst, ap, ◌∙◌, inl, inr, ⊎_elim, append_assoc, add-one, arith, length-append, length-drop, take-append-drop}
use borrow.Rule.Slice.PartMut.{put_mid}
use Rattle.std.proofs.lemmas.List.{length-take-le, drop-drop, drop_all}
use Rattle.std.proofs.lemmas.Slice.{take-put_mid, drop-put_mid}
use Rattle.std.proofs.lemmas.Bool.{cases_lt}
use Rattle.bits.specs.Pattern.{stepped, pattern, plus, patterned_from, patterned}
use Rattle.bits.proofs.Patterns.{pattern-laws}
use Rattle.bits.proofs.Steps.{halfway}

-- the first 255 bits of the pattern
unfoldable pub row : List ℕ
row = 1 ∷ 1 ∷ 1 ∷ 1 ∷ 1 ∷ 1 ∷ 1 ∷ 1 ∷ 0 ∷ 1 ∷ 0 ∷ 0 ∷ 1 ∷ 0 ∷ 0 ∷ 0 ∷ 0 ∷ 0 ∷ 0 ∷ 0 ∷ 1 ∷ 1 ∷ 1 ∷ 0 ∷ 1 ∷ 1 ∷ 0 ∷ 0 ∷ 0 ∷ 0 ∷ 0 ∷ 0 ∷ 1 ∷ 0 ∷ 0 ∷ 1 ∷ 1 ∷ 0 ∷ 1 ∷ 0 ∷ 0 ∷ 0 ∷ 0 ∷ 0 ∷ 1 ∷ 1 ∷ 0 ∷ 1 ∷ 0 ∷ 1 ∷ 1 ∷ 1 ∷ 0 ∷ 0 ∷ 0 ∷ 0 ∷ 1 ∷ 0 ∷ 1 ∷ 1 ∷ 1 ∷ 1 ∷ 0 ∷ 0 ∷ 1 ∷ 0 ∷ 0 ∷ 0 ∷ 1 ∷ 1 ∷ 1 ∷ 0 ∷ 0 ∷ 0 ∷ 1 ∷ 0 ∷ 1 ∷ 1 ∷ 0 ∷ 0 ∷ 1 ∷ 0 ∷ 0 ∷ 1 ∷ 0 ∷ 0 ∷ 1 ∷ 1 ∷ 1 ∷ 0 ∷ 1 ∷ 0 ∷ 1 ∷ 1 ∷ 0 ∷ 1 ∷ 1 ∷ 0 ∷ 1 ∷ 0 ∷ 0 ∷ 1 ∷ 1 ∷ 1 ∷ 1 ∷ 0 ∷ 1 ∷ 1 ∷ 0 ∷ 1 ∷ 1 ∷ 1 ∷ 0 ∷ 1 ∷ 0 ∷ 0 ∷ 0 ∷ 1 ∷ 1 ∷ 0 ∷ 1 ∷ 1 ∷ 0 ∷ 0 ∷ 1 ∷ 1 ∷ 1 ∷ 0 ∷ 0 ∷ 1 ∷ 0 ∷ 1 ∷ 1 ∷ 0 ∷ 1 ∷ 0 ∷ 1 ∷ 0 ∷ 0 ∷ 1 ∷ 0 ∷ 1 ∷ 1 ∷ 1 ∷ 0 ∷ 1 ∷ 1 ∷ 1 ∷ 1 ∷ 1 ∷ 0 ∷ 1 ∷ 1 ∷ 1 ∷ 0 ∷ 0 ∷ 1 ∷ 1 ∷ 0 ∷ 0 ∷ 0 ∷ 0 ∷ 1 ∷ 1 ∷ 0 ∷ 0 ∷ 1 ∷ 0 ∷ 1 ∷ 0 ∷ 1 ∷ 0 ∷ 0 ∷ 0 ∷ 1 ∷ 0 ∷ 1 ∷ 0 ∷ 1 ∷ 1 ∷ 1 ∷ 1 ∷ 1 ∷ 1 ∷ 0 ∷ 0 ∷ 1 ∷ 1 ∷ 1 ∷ 1 ∷ 1 ∷ 0 ∷ 0 ∷ 0 ∷ 0 ∷ 0 ∷ 1 ∷ 0 ∷ 1 ∷ 0 ∷ 0 ∷ 0 ∷ 0 ∷ 1 ∷ 0 ∷ 0 ∷ 0 ∷ 0 ∷ 1 ∷ 1 ∷ 1 ∷ 1 ∷ 0 ∷ 0 ∷ 0 ∷ 1 ∷ 1 ∷ 0 ∷ 0 ∷ 0 ∷ 1 ∷ 0 ∷ 0 ∷ 0 ∷ 1 ∷ 0 ∷ 0 ∷ 1 ∷ 0 ∷ 1 ∷ 0 ∷ 0 ∷ 1 ∷ 1 ∷ 0 ∷ 0 ∷ 1 ∷ 1 ∷ 0 ∷ 1 ∷ 1 ∷ 1 ∷ 1 ∷ 0 ∷ 1 ∷ 0 ∷ 1 ∷ 0 ∷ 1 ∷ 0 ∷ 1 ∷ 1 ∷ 0 ∷ 0 ∷ 0 ∷ []

-- the register after n steps from r
unfoldable pub after : ℕ → ℕ → ℕ
after zero r = r
after (suc n) r = after n (stepped r)

after-suc : (n r : ℕ) → after (suc n) r ≡ stepped (after n r)
unfolding after
after-suc zero r = refl
after-suc (suc n) r = after-suc n (stepped r)

pub after_more : (n r : ℕ) → after (n + 1) r ≡ stepped (after n r)
after_more n r = ap (λ (k : ℕ). after k r) (add-one n) ∙ after-suc n r

pub after_none : (r : ℕ) → after 0 r ≡ r
unfolding after
after_none r = refl

-- the register comes back, and what it gives until then is the row: computed
comes_back : after 255 255 ≡ 255
unfolding after
comes_back = refl

pub row_is : row ≡ pattern 255 255
unfolding row pattern
row_is = refl

pub pattern_at : (n r k : ℕ) → k < n → get_or (pattern n r) k 0 ≡ after k r % 2
unfolding pattern after
pattern_at zero r k h = absurd (omega arith)
pattern_at (suc n) r zero h = refl
pattern_at (suc n) r (suc k) h = pattern_at n (stepped r) k (omega arith)

patterned-parts : (r : ℕ) (xs ys : List ℕ) → patterned_from r (xs ++ ys) ≡ patterned_from r xs ++ patterned_from (after (length xs) r) ys
unfolding pattern plus after
patterned-parts r [] ys = refl
patterned-parts r (x ∷ xs) ys = ap (λ (zs : List ℕ). (x + r % 2) % 2 ∷ zs) (patterned-parts (stepped r) xs ys)

-- behind 255 bits the pattern begins anew
patterned-row : (xs ys : List ℕ) → (length xs ≡ 255) ⊎ (ys ≡ []) → patterned_from 255 (xs ++ ys) ≡ patterned_from 255 xs ++ patterned_from 255 ys
unfolding plus
patterned-row xs ys w =
    patterned-parts 255 xs ys
    ∙ ap (λ (zs : List ℕ). patterned_from 255 xs ++ zs)
    (⊎_elim
    (λ e. ap (λ (r : ℕ). patterned_from r ys) (ap (λ (n : ℕ). after n 255) e ∙ comes_back))
    (λ e. ap (λ (zs : List ℕ). patterned_from (after (length xs) 255) zs) e ∙ ap (λ (zs : List ℕ). patterned_from 255 zs) (sym e))
    w)

-- the bits from at on, up to end, where the pattern begins anew or the list ends
abbrev RowEnds : List ℕ → ℕ → ℕ → Type 0
RowEnds xs at end = (at < end) × (end ≤ length xs) × ((end ≡ at + 255) ⊎ (end ≡ length xs))

-- what a list holds once its row from at to end is written
abbrev row_written : List ℕ → ℕ → ℕ → List ℕ
row_written xs at end = put_mid at (end - at) xs (patterned_from 255 (take (end - at) (drop at xs)))

row-long : (xs : List ℕ) (at end : ℕ) → RowEnds xs at end → length (patterned_from 255 (take (end - at) (drop at xs))) ≡ end - at
row-long xs at end h =
    pattern-laws.long (take (end - at) (drop at xs))
    ∙ length-take-le (end - at) (drop at xs) (omega (arith, length-drop at xs))

length-row : (xs : List ℕ) (at end : ℕ) → RowEnds xs at end → length (row_written xs at end) ≡ length xs
length-row xs at end h =
    let n = end - at in
    let ys = patterned_from 255 (take n (drop at xs)) in
    omega (arith, length-append (take at xs) (ys ++ drop n (drop at xs)), length-append ys (drop n (drop at xs)), length-take-le at xs (omega arith), row-long xs at end h, length-drop n (drop at xs), length-drop at xs)

halfway-row : (xs : List ℕ) (at end : ℕ) → RowEnds xs at end → halfway end 255 (row_written xs at end) ≡ halfway at 255 xs
halfway-row xs at end h =
    let n = end - at in
    let us = take n (drop at xs) in
    let ys = patterned_from 255 us in
    let long : length ys ≡ n = row-long xs at end h in
    let behind : drop n (drop at xs) ≡ drop end xs = drop-drop n at xs ∙ ap (λ (k : ℕ). drop k xs) (let e : at + n ≡ end = omega arith in e) in
    let ends : (length us ≡ 255) ⊎ (drop end xs ≡ []) =
    ⊎_elim
    (λ e. inl (length-take-le n (drop at xs) (omega (arith, length-drop at xs)) ∙ (let f : n ≡ 255 = omega arith in f)))
    (λ e. inr (drop_all end xs (omega arith)))
    h.2 in
    ap (λ (zs : List ℕ). zs ++ patterned_from 255 (drop end (row_written xs at end))) (take-put_mid at n xs ys end (omega arith) (omega arith))
    ∙ ap (λ (zs : List ℕ). (take at xs ++ ys) ++ patterned_from 255 zs) (drop-put_mid at n xs ys end (omega arith) (omega arith) long)
    ∙ append_assoc (take at xs) ys (patterned_from 255 (drop end xs))
    ∙ ap (λ (zs : List ℕ). take at xs ++ zs)
    (sym (patterned-row us (drop end xs) ends)
    ∙ ap (λ (zs : List ℕ). patterned_from 255 (us ++ zs)) (sym behind)
    ∙ ap (λ (zs : List ℕ). patterned_from 255 zs) (take-append-drop n (drop at xs)))

-- one row more
pub row_more : (xs ys : List ℕ) (at end : ℕ) → at < length xs → end ≡ min (length xs) (at + 255) → ys ≡ patterned (take (end - at) (drop at xs)) →
    (end ≤ length (put_mid at (end - at) xs ys)) × (halfway end 255 (put_mid at (end - at) xs ys) ≡ halfway at 255 xs)
row_more xs ys at end h e w =
    let ends : RowEnds xs at end = (omega arith, omega arith, ⊎_elim (λ k. inr (omega arith)) (λ k. inl (omega arith)) (cases_lt (length xs) (at + 255))) in
    subst (λ (zs : List ℕ). (end ≤ length (put_mid at (end - at) xs zs)) × (halfway end 255 (put_mid at (end - at) xs zs) ≡ halfway at 255 xs)) (sym w)
    (omega (arith, length-row xs at end ends, ends.1), halfway-row xs at end ends)
