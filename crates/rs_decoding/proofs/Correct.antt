-- What the corrected word is: the code word within reach, if there is one. Assumes nothing.
use Rattle.std.proofs.Common.{◌≡◌, ℕ, zero, suc, ◌+◌, ◌<◌, ◌≤◌, true, false, cond, T, eqb, ◌⊎◌, List, [], ◌∷◌, length, get_or, drop, sym, refl, ap, ◌∙◌, ⊎_elim, suc-le-suc, zero-le, le_of_suc-le-suc, not-suc-le-zero, add-zero, add-suc, suc-add, one-add, arith, lit≤}
use Rattle.std.proofs.lemmas.Bool.{eqb-false}
use Rattle.std.proofs.lemmas.List.{ext_get_or}
use Rattle.bits.specs.Lists.{are_bytes}
use Rattle.bits.specs.Distance.{distance}
use Rattle.gf256.specs.Field.{power}
use Rattle.gf256.proofs.Ring.{◌⊕◌, ring, ⊕-zero-l, ⊕-cancel}
use Rattle.rs_theory.specs.Code.{value_from, is_codeword}
use Rattle.rs_theory.proofs.Sum.{sum, plus, sum-plus, length-plus, bytes-plus}
use Rattle.rs_theory.proofs.Distance.{Locators}
use Rattle.rs_theory.proofs.Value.{locators, length-locators, locators-are, value-is, weight-plus}
use Rattle.rs_theory.proofs.Codewords.{codeword-parts, codeword-sums}
use Rattle.rs_decoding.specs.Decoding.{dot, evaluate, values_of, roots_of, value_at, corrected}
use Rattle.rs_decoding.proofs.Kernel.{Valid, valid-less, Rooted, kernel-lemma}
use Rattle.rs_decoding.proofs.Peel.{value-right}
use Rattle.rs_decoding.proofs.Roots.{roots_among, roots-among, supported, bytes-locators, locators-roots, roots_few}

pub valid-from : (m : ℕ) (es xs t : List ℕ) (k : ℕ) → m ≤ length t → ((j : ℕ) → j < m → get_or t j 0 ≡ sum es xs (k + j)) → Valid m es xs k t
unfolding Valid
valid-from zero es xs t k h f = tt
valid-from (suc m) es xs [] k h f = absurd (not-suc-le-zero h)
valid-from (suc m) es xs (a ∷ t) k h f = (
  f zero (suc-le-suc zero-le) ∙ ap (sum es xs) (add-zero k),
  valid-from m es xs t (suc k) (le_of_suc-le-suc h) (λ j i. f (suc j) (suc-le-suc i) ∙ ap (sum es xs) (add-suc k j ∙ sym (suc-add k j))),
)

length-corrected : (l ys t ws xs : List ℕ) → length (corrected (values_of l xs) ys t ws xs) ≡ length ws
unfolding corrected values_of
length-corrected l ys t ws [] = refl
length-corrected l ys t [] (x ∷ xs) = refl
length-corrected l ys t (w ∷ ws) (x ∷ xs) = ap suc (length-corrected l ys t ws xs)

corrected-at : (l ys t ws xs : List ℕ) (p : ℕ) → p < length ws → length ws ≡ length xs →
    get_or (corrected (values_of l xs) ys t ws xs) p 0 ≡ cond (eqb (evaluate l (get_or xs p 0)) 0) (get_or ws p 0 ⊕ value_at (get_or xs p 0) ys t) (get_or ws p 0)
unfolding corrected values_of
corrected-at l ys t [] xs p h e = absurd (not-suc-le-zero h)
corrected-at l ys t (w ∷ ws) [] p h e = let z : ⊥ = omega arith in absurd z
corrected-at l ys t (w ∷ ws) (x ∷ xs) zero h e = refl
corrected-at l ys t (w ∷ ws) (x ∷ xs) (suc p) h e = corrected-at l ys t ws xs p (le_of_suc-le-suc h) (omega arith)

plus-at : (cs ds : List ℕ) (p : ℕ) → p < length ds → length cs ≡ length ds → get_or (plus cs ds) p 0 ≡ get_or cs p 0 ⊕ get_or ds p 0
unfolding plus
plus-at [] [] p h e = absurd (not-suc-le-zero h)
plus-at [] (d ∷ ds) p h e = let z : ⊥ = omega arith in absurd z
plus-at (c ∷ cs) [] p h e = absurd (not-suc-le-zero h)
plus-at (c ∷ cs) (d ∷ ds) zero h e = refl
plus-at (c ∷ cs) (d ∷ ds) (suc p) h e = plus-at cs ds p (le_of_suc-le-suc h) (omega arith)

rooted-at : (l es xs : List ℕ) (p : ℕ) → p < length es → length es ≡ length xs → Rooted l es xs → (get_or es p 0 ≡ 0) ⊎ (evaluate l (get_or xs p 0) ≡ 0)
unfolding Rooted
rooted-at l [] xs p h e r = absurd (not-suc-le-zero h)
rooted-at l (d ∷ es) [] p h e r = let z : ⊥ = omega arith in absurd z
rooted-at l (d ∷ es) (x ∷ xs) zero h e r = r.0
rooted-at l (d ∷ es) (x ∷ xs) (suc p) h e r = rooted-at l es xs p (le_of_suc-le-suc h) (omega arith) r.1

mend : (w c : ℕ) → w ⊕ (c ⊕ w) ≡ c
mend w c = simp ring

-- for any locators: es is what the word has more than c
corrected-is : (l t cs ws xs : List ℕ) → length ws ≡ length xs → length cs ≡ length xs → T (are_bytes ws) → T (are_bytes cs) → Locators xs →
    Rooted l (plus cs ws) xs → Valid (suc (length (roots_among l xs))) (plus cs ws) xs 1 t → corrected (values_of l xs) (roots_among l xs) t ws xs ≡ cs
corrected-is l t cs ws xs hw hc bw bc ls r v =
    let ys : List ℕ = roots_among l xs in
    let es : List ℕ = plus cs ws in
    let lc : length (corrected (values_of l xs) ys t ws xs) ≡ length ws = length-corrected l ys t ws xs in
    let le : length es ≡ length xs = length-plus cs ws (hc ∙ sym hw) ∙ hc in
    ext_get_or 0 (corrected (values_of l xs) ys t ws xs) cs (lc ∙ hw ∙ sym hc)
    (λ p h.
    let hp : p < length xs = omega arith in
    let hpw : p < length ws = omega arith in
    let hpe : p < length es = omega arith in
    let x : ℕ = get_or xs p 0 in
    let pe : get_or es p 0 ≡ get_or cs p 0 ⊕ get_or ws p 0 = plus-at cs ws p hpw (hc ∙ sym hw) in
    let at : get_or (corrected (values_of l xs) ys t ws xs) p 0 ≡ cond (eqb (evaluate l x) 0) (get_or ws p 0 ⊕ value_at x ys t) (get_or ws p 0) = corrected-at l ys t ws xs p hpw hw in
    let goal : cond (eqb (evaluate l x) 0) (get_or ws p 0 ⊕ value_at x ys t) (get_or ws p 0) ≡ get_or cs p 0 =
    elim (eqb (evaluate l x) 0) as (λ b. eqb (evaluate l x) 0 ≡ b → cond b (get_or ws p 0 ⊕ value_at x ys t) (get_or ws p 0) ≡ get_or cs p 0) [
      | true ↦
          λ e.
          ap (λ (n : ℕ). get_or ws p 0 ⊕ n) (value-right ys es xs t p hp le (bytes-plus cs ws bc bw) (bytes-locators ys (locators-roots l xs ls)) ls (supported l es xs r) v ∙ pe)
          ∙ mend (get_or ws p 0) (get_or cs p 0)
      | false ↦
          λ e.
          ⊎_elim (λ z. sym (⊕-cancel (get_or cs p 0) (get_or ws p 0) (sym pe ∙ z))) (λ z. absurd (eqb-false (evaluate l x) 0 e z)) (rooted-at l es xs p hpe le r)
    ]
    refl in
    at ∙ goal)

-- the syndromes of a word are the sums of what it has more than a code word
sums-of : (w c : List ℕ) (j : ℕ) → length w ≡ 255 → T (are_bytes w) → T (is_codeword c) → j < 32 → value_from (power 2 (suc j)) 0 w ≡ sum (plus c w) (locators 255) (1 + j)
sums-of w c j hw bw cw h =
    let hc : length c ≡ 255 = (codeword-parts c cw).whole in
    let none : sum c (locators 255) (suc j) ≡ 0 = codeword-sums c (codeword-parts c cw) j h in
    value-is (suc j) w bw
    ∙ ap (λ (n : ℕ). sum w (locators n) (suc j)) hw
    ∙ sym (ap (λ (n : ℕ). n ⊕ sum w (locators 255) (suc j)) none ∙ ⊕-zero-l (sum w (locators 255) (suc j)))
    ∙ sym (sum-plus c w (locators 255) (suc j) (hc ∙ sym hw))
    ∙ ap (sum (plus c w) (locators 255)) (sym (one-add j))

-- w is a word whose syndromes are t, and l a vector, not zero, that is orthogonal to the 16 windows of them
pub repair-right : (w c l t : List ℕ) (k : ℕ) → length w ≡ 255 → T (are_bytes w) → T (is_codeword c) → distance c w ≤ 16 →
    length l ≡ 17 → T (are_bytes l) → (get_or l k 0 ≡ 0 → ⊥) → length t ≡ 32 → ((j : ℕ) → j < 32 → get_or t j 0 ≡ value_from (power 2 (suc j)) 0 w) →
    ((i : ℕ) → i < 16 → dot l (drop i t) ≡ 0) → corrected (values_of l (locators 255)) (roots_of (values_of l (locators 255)) (locators 255)) t w (locators 255) ≡ c
repair-right w c l t k hw bw cw near hl bl nz ht f o =
    let xs : List ℕ = locators 255 in
    let hx : length xs ≡ 255 = length-locators 255 in
    let ls : Locators xs = locators-are 255 (lit≤ tt) in
    let hc : length c ≡ 255 = (codeword-parts c cw).whole in
    let bc : T (are_bytes c) = (codeword-parts c cw).bytes in
    let es : List ℕ = plus c w in
    let sums : (j : ℕ) → j < 32 → get_or t j 0 ≡ sum es xs (1 + j) = λ j h. f j h ∙ sums-of w c j hw bw cw h in
    let v : Valid 32 es xs 1 t = valid-from 32 es xs t 1 (omega arith) sums in
    let r : Rooted l es xs = kernel-lemma l es xs t 16 bl (bytes-plus c w bc bw) (length-plus c w (hc ∙ sym hw) ∙ hc ∙ sym hx) ls (omega (arith, weight-plus c w (hc ∙ sym hw))) o
    (λ i h. valid-less (i + length l) 32 es xs t 1 (omega arith) v) in
    ap (λ (ys : List ℕ). corrected (values_of l xs) ys t w xs) (roots-among l xs)
    ∙ corrected-is l t c w xs (hw ∙ sym hx) (hc ∙ sym hx) bw bc ls r
    (valid-less (suc (length (roots_among l xs))) 32 es xs t 1 (omega (arith, roots_few l xs k bl ls nz)) v)

-- such a vector has at most 16 roots
pub roots-within : (l : List ℕ) (k : ℕ) → length l ≡ 17 → T (are_bytes l) → (get_or l k 0 ≡ 0 → ⊥) → length (roots_of (values_of l (locators 255)) (locators 255)) ≤ 16
roots-within l k hl bl nz =
    rw (roots-among l (locators 255)) (omega (arith, roots_few l (locators 255) k bl (locators-are 255 (lit≤ tt)) nz))
