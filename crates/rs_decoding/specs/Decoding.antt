-- What the steps of repairing compute, over lists: vectors orthogonal to syndromes, polynomials, and values of errors. Assumes nothing.
use Rattle.std.specs.Prelude.{ℕ, zero, suc, cond, List, [], ◌∷◌, length, ◌==◌, slice_index_or}
use Rattle.gf256.specs.Field.{◌⊕◌, ◌⊙◌, inverse}

-- the sum of the products of a vector's entries with those of a list beside it
unfoldable pub dot : List ℕ → List ℕ → ℕ
dot [] bs = 0
dot (a ∷ cs) [] = 0
dot (a ∷ cs) (b ∷ bs) = (a ⊙ b) ⊕ dot cs bs

-- a vector plus a multiple of another
unfoldable pub combine : ℕ → List ℕ → List ℕ → List ℕ
combine c [] vs = []
combine c (u ∷ us) [] = u ∷ us
combine c (u ∷ us) (v ∷ vs) = (u ⊕ (c ⊙ v)) ∷ combine c us vs

-- a polynomial, its lowest coefficient first, at x
unfoldable pub evaluate : List ℕ → ℕ → ℕ
evaluate [] x = 0
evaluate (a ∷ cs) x = a ⊕ (x ⊙ evaluate cs x)

-- its values at each of the locators
unfoldable pub values_of : List ℕ → List ℕ → List ℕ
values_of l [] = []
values_of l (x ∷ xs) = evaluate l x ∷ values_of l xs

-- those of the locators beside which a zero stands
unfoldable pub roots_of : List ℕ → List ℕ → List ℕ
roots_of [] xs = []
roots_of (v ∷ vs) [] = []
roots_of (v ∷ vs) (x ∷ xs) = cond (v == 0) (x ∷ roots_of vs xs) (roots_of vs xs)

-- the first n syndromes freed from what stands at locator y: each next one plus y times this one
unfoldable pub peel : ℕ → ℕ → List ℕ → List ℕ
peel zero y t = t
peel (suc n) y [] = []
peel (suc n) y (a ∷ []) = a ∷ []
peel (suc n) y (a ∷ b ∷ t) = (b ⊕ (y ⊙ a)) ∷ peel n y (b ∷ t)

-- freed from what stands at all locators ys but x
unfoldable pub peel_others : ℕ → List ℕ → List ℕ → List ℕ
peel_others x [] t = t
peel_others x (y ∷ ys) t = peel_others x ys (cond (y == x) t (peel (suc (length ys)) y t))

-- what becomes of an entry e at locator z meanwhile: its product with z + y for all y but x
unfoldable pub others : ℕ → List ℕ → ℕ → ℕ → ℕ
others x [] z e = e
others x (y ∷ ys) z e = others x ys z (cond (y == x) e (e ⊙ (z ⊕ y)))

-- the value of the error at x, if all errors stand at locators ys and t are the syndromes
unfoldable pub value_at : ℕ → List ℕ → List ℕ → ℕ
value_at x ys t = slice_index_or (peel_others x ys t) 0 0 ⊙ inverse (others x ys x x)

-- a word ws, beside its locators xs and the values vs there, with the errors at the roots ys taken off
unfoldable pub corrected : List ℕ → List ℕ → List ℕ → List ℕ → List ℕ → List ℕ
corrected [] ys t ws xs = ws
corrected (v ∷ vs) ys t [] xs = []
corrected (v ∷ vs) ys t (w ∷ ws) [] = w ∷ ws
corrected (v ∷ vs) ys t (w ∷ ws) (x ∷ xs) = cond (v == 0) (w ⊕ value_at x ys t) w ∷ corrected vs ys t ws xs
