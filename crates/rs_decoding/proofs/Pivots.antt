-- What adding a multiple of one vector to another does. Assumes nothing.
use Rattle.std.proofs.Common.{◌≡◌, ℕ, zero, suc, ◌%◌, ◌<◌, List, [], ◌∷◌, length, get_or, sym, refl, ap, ◌∙◌, arith}
use Rattle.gf256.specs.Field.{inverse}
use Rattle.gf256.proofs.Ring.{◌⊕◌, ◌⊙◌, ring, ⊙-zero-r, ⊕-zero-r, ⊕-self, ⊙-comm, ⊙-assoc, ⊙-inverse, ⊙-one}
use Rattle.rs_decoding.specs.Decoding.{dot, combine}

both-linear : (u v c b m n : ℕ) → ((u ⊕ (c ⊙ v)) ⊙ b) ⊕ (m ⊕ (c ⊙ n)) ≡ ((u ⊙ b) ⊕ m) ⊕ (c ⊙ ((v ⊙ b) ⊕ n))
both-linear u v c b m n = simp ring

none-linear : (c : ℕ) → 0 ≡ 0 ⊕ (c ⊙ 0)
none-linear c = simp ring

pub dot-combine : (c : ℕ) (us vs ts : List ℕ) → length us ≡ length vs → dot (combine c us vs) ts ≡ dot us ts ⊕ (c ⊙ dot vs ts)
unfolding dot combine
dot-combine c [] [] ts h = none-linear c
dot-combine c [] (v ∷ vs) ts h = let z : ⊥ = omega arith in absurd z
dot-combine c (u ∷ us) [] ts h = let z : ⊥ = omega arith in absurd z
dot-combine c (u ∷ us) (v ∷ vs) [] h = none-linear c
dot-combine c (u ∷ us) (v ∷ vs) (b ∷ ts) h =
    ap (λ (n : ℕ). ((u ⊕ (c ⊙ v)) ⊙ b) ⊕ n) (dot-combine c us vs ts (omega arith)) ∙ both-linear u v c b (dot us ts) (dot vs ts)

pub combine-at : (c : ℕ) (us vs : List ℕ) (j : ℕ) → length us ≡ length vs → get_or (combine c us vs) j 0 ≡ get_or us j 0 ⊕ (c ⊙ get_or vs j 0)
unfolding combine
combine-at c [] [] j h = none-linear c
combine-at c [] (v ∷ vs) j h = let z : ⊥ = omega arith in absurd z
combine-at c (u ∷ us) [] j h = let z : ⊥ = omega arith in absurd z
combine-at c (u ∷ us) (v ∷ vs) zero h = refl
combine-at c (u ∷ us) (v ∷ vs) (suc j) h = combine-at c us vs j (omega arith)

-- a multiple that is zero changes nothing
pub combine-none : (u c v : ℕ) → v ≡ 0 → u ⊕ (c ⊙ v) ≡ u
combine-none u c v e = ap (λ (n : ℕ). u ⊕ (c ⊙ n)) e ∙ simp (⊙-zero-r, ⊕-zero-r)

-- the multiple that clears d by means of a pivot a
pub clears : (d a : ℕ) → d < 256 → a < 256 → (a ≡ 0 → ⊥) → d ⊕ ((d ⊙ inverse a) ⊙ a) ≡ 0
clears d a hd ha ne =
    let same : a % 256 ≡ a = omega (arith, ha) in
    let i : a ⊙ inverse a ≡ 1 = ap (λ (n : ℕ). a ⊙ inverse n) (sym same) ∙ ⊙-inverse a (λ e. ne (sym same ∙ e)) in
    ap (λ (n : ℕ). d ⊕ n) (⊙-assoc d (inverse a) a ∙ ap (λ (n : ℕ). d ⊙ n) (⊙-comm (inverse a) a ∙ i) ∙ ⊙-comm d 1 ∙ ⊙-one d hd) ∙ ⊕-self d
