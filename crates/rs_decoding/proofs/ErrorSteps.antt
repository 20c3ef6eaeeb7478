-- One turn of the loops that find the roots, free the syndromes and take the errors off. Assumes nothing.
use Rattle.std.proofs.Common.{◌≡◌, ℕ, zero, suc, ◌+◌, ◌-◌, ◌<◌, ◌≤◌, cond, eqb, List, [], ◌∷◌, ◌++◌, length, get_or, take, drop, set, sym, refl, ap, ◌∙◌, ap₂, append_assoc, le_of_suc-le-suc, not-suc-le-zero, arith, length-append, length-drop}
use Rattle.std.proofs.lemmas.List.{drop_more, drop_all, take_more, take_more_set, take-append-drop, drop-set-lt, append-nil, ext_get_or, drop-drop, get_or-drop}
use Rattle.std.proofs.lemmas.Bool.{eq-eqb, ne_eqb}
use Rattle.gf256.proofs.Ring.{◌⊕◌, ◌⊙◌}
use Rattle.rs_decoding.specs.Decoding.{evaluate, values_of, roots_of, peel, peel_others, others, value_at, corrected}

-- ---- the values at all locators
length-values : (l xs : List ℕ) → length (values_of l xs) ≡ length xs
unfolding values_of
length-values l [] = refl
length-values l (x ∷ xs) = ap suc (length-values l xs)

values-at : (l xs : List ℕ) (p : ℕ) → p < length xs → get_or (values_of l xs) p 0 ≡ evaluate l (get_or xs p 0)
unfolding values_of
values-at l [] p h = absurd (not-suc-le-zero h)
values-at l (x ∷ xs) zero h = refl
values-at l (x ∷ xs) (suc p) h = values-at l xs p (le_of_suc-le-suc h)

pub values-are : (l out xs : List ℕ) → length out ≡ length xs → ((k : ℕ) → k < length xs → get_or out k 0 ≡ evaluate l (get_or xs k 0)) → out ≡ values_of l xs
values-are l out xs h f =
    ext_get_or 0 out (values_of l xs) (h ∙ sym (length-values l xs)) (λ p g. f p (omega arith) ∙ sym (values-at l xs p (omega arith)))

-- ---- the roots
roots-at : (p : ℕ) (vs xs : List ℕ) → p < length vs → p < length xs →
    roots_of (drop p vs) (drop p xs) ≡ cond (eqb (get_or vs p 0) 0) (get_or xs p 0 ∷ roots_of (drop (p + 1) vs) (drop (p + 1) xs)) (roots_of (drop (p + 1) vs) (drop (p + 1) xs))
unfolding roots_of
roots-at p vs xs h g = ap₂ roots_of (drop_more vs p 0 h) (drop_more xs p 0 g)

roots-hit-at : (p : ℕ) (vs xs : List ℕ) → p < length vs → p < length xs → get_or vs p 0 ≡ 0 →
    roots_of (drop p vs) (drop p xs) ≡ get_or xs p 0 ∷ roots_of (drop (p + 1) vs) (drop (p + 1) xs)
roots-hit-at p vs xs h g e = roots-at p vs xs h g ∙ rw (eq-eqb (get_or vs p 0) 0 e) refl

pub roots-hit : (p x : ℕ) (front vs xs whole : List ℕ) → p < length vs → p < length xs → get_or vs p 0 ≡ 0 → x ≡ get_or xs p 0 →
    front ++ roots_of (drop p vs) (drop p xs) ≡ whole → (front ++ x ∷ []) ++ roots_of (drop (p + 1) vs) (drop (p + 1) xs) ≡ whole
roots-hit p x front vs xs whole h g z e i =
    let rest : List ℕ = roots_of (drop (p + 1) vs) (drop (p + 1) xs) in
    append_assoc front (x ∷ []) rest
    ∙ ap (λ (n : ℕ). front ++ (n ∷ rest)) e
    ∙ ap (λ (a : List ℕ). front ++ a) (sym (roots-hit-at p vs xs h g z))
    ∙ i

pub roots-miss : (p : ℕ) (front vs xs whole : List ℕ) → p < length vs → p < length xs → (get_or vs p 0 ≡ 0 → ⊥) →
    front ++ roots_of (drop p vs) (drop p xs) ≡ whole → front ++ roots_of (drop (p + 1) vs) (drop (p + 1) xs) ≡ whole
roots-miss p front vs xs whole h g ne i =
    ap (λ (a : List ℕ). front ++ a) (sym (roots-at p vs xs h g ∙ rw (ne_eqb (get_or vs p 0) 0 ne) refl)) ∙ i

pub roots-end : (p : ℕ) (front vs xs whole : List ℕ) → length vs ≤ p → front ++ roots_of (drop p vs) xs ≡ whole → front ≡ whole
unfolding roots_of
roots-end p front vs xs whole h i = sym (ap (λ (a : List ℕ). front ++ roots_of a xs) (drop_all p vs h) ∙ append-nil front) ∙ i

-- one root more than there is place for
pub roots-many : (p : ℕ) (front vs xs whole : List ℕ) → p < length vs → p < length xs → get_or vs p 0 ≡ 0 →
    front ++ roots_of (drop p vs) (drop p xs) ≡ whole → length front < length whole
roots-many p front vs xs whole h g z i =
    let rest : List ℕ = roots_of (drop (p + 1) vs) (drop (p + 1) xs) in
    let n : length (front ++ (get_or xs p 0 ∷ rest)) ≡ length whole = ap length (ap (λ (a : List ℕ). front ++ a) (sym (roots-hit-at p vs xs h g z)) ∙ i) in
    omega (arith, length-append front (get_or xs p 0 ∷ rest))

-- ---- peeling
peel-at : (n y j : ℕ) (t : List ℕ) → j + 1 < length t → peel (suc n) y (drop j t) ≡ (get_or t (j + 1) 0 ⊕ (y ⊙ get_or t j 0)) ∷ peel n y (drop (j + 1) t)
unfolding peel
peel-at n y j t h =
    let g : j < length t = omega arith in
    let d : drop (j + 1) t ≡ get_or t (j + 1) 0 ∷ drop (j + 1 + 1) t = drop_more t (j + 1) 0 h in
    ap (peel (suc n) y) (drop_more t j 0 g ∙ ap (λ (a : List ℕ). get_or t j 0 ∷ a) d)
    ∙ ap (λ (a : List ℕ). (get_or t (j + 1) 0 ⊕ (y ⊙ get_or t j 0)) ∷ peel n y a) (sym d)

-- lists that are the same from a place on
pub drop_on : (j : ℕ) (t s : List ℕ) → drop j t ≡ drop j s → drop (j + 1) t ≡ drop (j + 1) s
drop_on j t s d = sym (drop-drop 1 j t) ∙ ap (λ (xs : List ℕ). drop 1 xs) d ∙ drop-drop 1 j s

read-on : (j i : ℕ) (t s : List ℕ) → drop j t ≡ drop j s → get_or s (j + i) 0 ≡ get_or t (j + i) 0
read-on j i t s d = sym (get_or-drop j s i 0) ∙ ap (λ (xs : List ℕ). get_or xs i 0) (sym d) ∙ get_or-drop j t i 0

pub read-behind : (j y v : ℕ) (t s : List ℕ) → drop j t ≡ drop j s → v ≡ get_or s (j + 1) 0 ⊕ (y ⊙ get_or s j 0) → v ≡ get_or t (j + 1) 0 ⊕ (y ⊙ get_or t j 0)
read-behind j y v t s d e =
    let z : j + 0 ≡ j = omega arith in
    let here : get_or s j 0 ≡ get_or t j 0 = ap (λ (k : ℕ). get_or s k 0) (sym z) ∙ read-on j 0 t s d ∙ ap (λ (k : ℕ). get_or t k 0) z in
    e ∙ ap₂ (λ (a b : ℕ). a ⊕ (y ⊙ b)) (read-on j 1 t s d) here

pub peel-step : (count j y v : ℕ) (t whole : List ℕ) → j < count → count < length t → v ≡ get_or t (j + 1) 0 ⊕ (y ⊙ get_or t j 0) →
    take j t ++ peel (count - j) y (drop j t) ≡ whole → take (j + 1) (set t j v) ++ peel (count - (j + 1)) y (drop (j + 1) (set t j v)) ≡ whole
peel-step count j y v t whole h g q i =
    let n : count - j ≡ suc (count - (j + 1)) = omega arith in
    let l : j < length t = omega arith in
    let rest : List ℕ = peel (count - (j + 1)) y (drop (j + 1) t) in
    ap₂ (λ (a b : List ℕ). a ++ peel (count - (j + 1)) y b) (take_more_set t j v l) (drop-set-lt (j + 1) t j v (omega arith))
    ∙ append_assoc (take j t) (v ∷ []) rest
    ∙ ap (λ (m : ℕ). take j t ++ (m ∷ rest)) q
    ∙ sym (ap (λ (a : List ℕ). take j t ++ a) (ap (λ (m : ℕ). peel m y (drop j t)) n ∙ peel-at (count - (j + 1)) y j t (omega arith)))
    ∙ i

pub peel-end : (count j y : ℕ) (t whole : List ℕ) → count ≤ j → take j t ++ peel (count - j) y (drop j t) ≡ whole → t ≡ whole
unfolding peel
peel-end count j y t whole h i =
    let n : count - j ≡ 0 = omega arith in
    sym (ap (λ (m : ℕ). take j t ++ peel m y (drop j t)) n ∙ take-append-drop j t) ∙ i

-- ---- all roots but x
peel-others-at : (x k : ℕ) (ys t : List ℕ) → k < length ys →
    peel_others x (drop k ys) t ≡ peel_others x (drop (k + 1) ys) (cond (eqb (get_or ys k 0) x) t (peel (length ys - k) (get_or ys k 0) t))
unfolding peel_others
peel-others-at x k ys t h =
    let n : suc (length (drop (k + 1) ys)) ≡ length ys - k = omega (arith, length-drop (k + 1) ys) in
    ap (λ (a : List ℕ). peel_others x a t) (drop_more ys k 0 h)
    ∙ ap (λ (m : ℕ). peel_others x (drop (k + 1) ys) (cond (eqb (get_or ys k 0) x) t (peel m (get_or ys k 0) t))) n

pub peel-others-skip : (x k : ℕ) (ys t whole : List ℕ) → k < length ys → get_or ys k 0 ≡ x → peel_others x (drop k ys) t ≡ whole → peel_others x (drop (k + 1) ys) t ≡ whole
peel-others-skip x k ys t whole h e i = sym (peel-others-at x k ys t h ∙ rw (eq-eqb (get_or ys k 0) x e) refl) ∙ i

pub peel-others-step : (x k : ℕ) (ys t r whole : List ℕ) → k < length ys → (get_or ys k 0 ≡ x → ⊥) → r ≡ peel (length ys - k) (get_or ys k 0) t →
    peel_others x (drop k ys) t ≡ whole → peel_others x (drop (k + 1) ys) r ≡ whole
peel-others-step x k ys t r whole h ne e i =
    ap (peel_others x (drop (k + 1) ys)) e ∙ sym (peel-others-at x k ys t h ∙ rw (ne_eqb (get_or ys k 0) x ne) refl) ∙ i

pub peel-others-end : (x k : ℕ) (ys t whole : List ℕ) → length ys ≤ k → peel_others x (drop k ys) t ≡ whole → t ≡ whole
unfolding peel_others
peel-others-end x k ys t whole h i = sym (ap (λ (a : List ℕ). peel_others x a t) (drop_all k ys h)) ∙ i

others-at : (x k z e : ℕ) (ys : List ℕ) → k < length ys → others x (drop k ys) z e ≡ others x (drop (k + 1) ys) z (cond (eqb (get_or ys k 0) x) e (e ⊙ (z ⊕ get_or ys k 0)))
unfolding others
others-at x k z e ys h = ap (λ (a : List ℕ). others x a z e) (drop_more ys k 0 h)

pub others-skip : (x k z e whole : ℕ) (ys : List ℕ) → k < length ys → get_or ys k 0 ≡ x → others x (drop k ys) z e ≡ whole → others x (drop (k + 1) ys) z e ≡ whole
others-skip x k z e whole ys h q i = sym (others-at x k z e ys h ∙ rw (eq-eqb (get_or ys k 0) x q) refl) ∙ i

pub others-step : (x k z e r whole : ℕ) (ys : List ℕ) → k < length ys → (get_or ys k 0 ≡ x → ⊥) → r ≡ e ⊙ (z ⊕ get_or ys k 0) →
    others x (drop k ys) z e ≡ whole → others x (drop (k + 1) ys) z r ≡ whole
others-step x k z e r whole ys h ne q i = ap (others x (drop (k + 1) ys) z) q ∙ sym (others-at x k z e ys h ∙ rw (ne_eqb (get_or ys k 0) x ne) refl) ∙ i

pub others-end : (x k z e whole : ℕ) (ys : List ℕ) → length ys ≤ k → others x (drop k ys) z e ≡ whole → e ≡ whole
unfolding others
others-end x k z e whole ys h i = sym (ap (λ (a : List ℕ). others x a z e) (drop_all k ys h)) ∙ i

-- ---- taking the errors off
corrected-at-drop : (p : ℕ) (vs ys t ws xs : List ℕ) → p < length vs → p < length ws → p < length xs →
    corrected (drop p vs) ys t (drop p ws) (drop p xs) ≡ cond (eqb (get_or vs p 0) 0) (get_or ws p 0 ⊕ value_at (get_or xs p 0) ys t) (get_or ws p 0) ∷ corrected (drop (p + 1) vs) ys t (drop (p + 1) ws) (drop (p + 1) xs)
unfolding corrected
corrected-at-drop p vs ys t ws xs h g f =
    ap (λ (a : List ℕ). corrected a ys t (drop p ws) (drop p xs)) (drop_more vs p 0 h)
    ∙ ap₂ (λ (a b : List ℕ). corrected (get_or vs p 0 ∷ drop (p + 1) vs) ys t a b) (drop_more ws p 0 g) (drop_more xs p 0 f)

pub corrected-hit : (p r : ℕ) (vs ys t ws xs whole : List ℕ) → p < length vs → p < length ws → p < length xs → get_or vs p 0 ≡ 0 →
    r ≡ get_or ws p 0 ⊕ value_at (get_or xs p 0) ys t → take p ws ++ corrected (drop p vs) ys t (drop p ws) (drop p xs) ≡ whole →
    take (p + 1) (set ws p r) ++ corrected (drop (p + 1) vs) ys t (drop (p + 1) (set ws p r)) (drop (p + 1) xs) ≡ whole
corrected-hit p r vs ys t ws xs whole h g f z e i =
    let rest : List ℕ = corrected (drop (p + 1) vs) ys t (drop (p + 1) ws) (drop (p + 1) xs) in
    ap₂ (λ (a b : List ℕ). a ++ corrected (drop (p + 1) vs) ys t b (drop (p + 1) xs)) (take_more_set ws p r g) (drop-set-lt (p + 1) ws p r (omega arith))
    ∙ append_assoc (take p ws) (r ∷ []) rest
    ∙ ap (λ (m : ℕ). take p ws ++ (m ∷ rest)) e
    ∙ sym (ap (λ (a : List ℕ). take p ws ++ a) (corrected-at-drop p vs ys t ws xs h g f ∙ rw (eq-eqb (get_or vs p 0) 0 z) refl))
    ∙ i

pub corrected-miss : (p : ℕ) (vs ys t ws xs whole : List ℕ) → p < length vs → p < length ws → p < length xs → (get_or vs p 0 ≡ 0 → ⊥) →
    take p ws ++ corrected (drop p vs) ys t (drop p ws) (drop p xs) ≡ whole →
    take (p + 1) ws ++ corrected (drop (p + 1) vs) ys t (drop (p + 1) ws) (drop (p + 1) xs) ≡ whole
corrected-miss p vs ys t ws xs whole h g f ne i =
    let rest : List ℕ = corrected (drop (p + 1) vs) ys t (drop (p + 1) ws) (drop (p + 1) xs) in
    ap (λ (a : List ℕ). a ++ rest) (take_more ws p 0 g)
    ∙ append_assoc (take p ws) (get_or ws p 0 ∷ []) rest
    ∙ sym (ap (λ (a : List ℕ). take p ws ++ a) (corrected-at-drop p vs ys t ws xs h g f ∙ rw (ne_eqb (get_or vs p 0) 0 ne) refl))
    ∙ i

pub corrected-end : (p : ℕ) (vs ys t ws xs whole : List ℕ) → length vs ≤ p → take p ws ++ corrected (drop p vs) ys t (drop p ws) xs ≡ whole → ws ≡ whole
unfolding corrected
corrected-end p vs ys t ws xs whole h i =
    sym (ap (λ (a : List ℕ). take p ws ++ corrected a ys t (drop p ws) xs) (drop_all p vs h) ∙ take-append-drop p ws) ∙ i
