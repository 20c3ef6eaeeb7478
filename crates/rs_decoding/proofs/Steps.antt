-- One turn of the loops that compute what the definitions of decoding say. Assumes nothing.
use Rattle.std.proofs.Common.{◌≡◌, ℕ, zero, suc, ◌+◌, ◌<◌, ◌≤◌, List, [], ◌∷◌, ◌++◌, length, get_or, take, drop, fold, zip, set, sym, refl, ap, ◌∙◌, ap₂, append_assoc, arith}
use Rattle.std.proofs.lemmas.List.{drop_more, drop_all, take_more_set, take_all, drop-set-lt, append-nil, get_or-drop}
use Rattle.gf256.proofs.Ring.{◌⊕◌, ◌⊙◌, ⊕-assoc, ⊕-zero-r, ⊙-zero-r}
use Rattle.rs_decoding.specs.Decoding.{dot, combine, evaluate}

-- the sum of the products, one after the other
pub dot-fold : (acc : ℕ) (us vs : List ℕ) → fold (λ (sum : ℕ) (p : ℕ × ℕ). sum ⊕ (p.0 ⊙ p.1)) acc (zip us vs) ≡ acc ⊕ dot us vs
unfolding dot
dot-fold acc [] vs = sym (⊕-zero-r acc)
dot-fold acc (u ∷ us) [] = sym (⊕-zero-r acc)
dot-fold acc (u ∷ us) (v ∷ vs) = dot-fold (acc ⊕ (u ⊙ v)) us vs ∙ ⊕-assoc acc (u ⊙ v) (dot us vs)

-- what is done, followed by what the definition makes of the rest, is the whole
pub combine-step : (c j y : ℕ) (u v whole : List ℕ) → j < length u → j < length v → y ≡ get_or u j 0 ⊕ (c ⊙ get_or v j 0) →
    take j u ++ combine c (drop j u) (drop j v) ≡ whole → take (j + 1) (set u j y) ++ combine c (drop (j + 1) (set u j y)) (drop (j + 1) v) ≡ whole
unfolding combine
combine-step c j y u v whole h g q e =
    ap₂ (λ (a b : List ℕ). a ++ combine c b (drop (j + 1) v)) (take_more_set u j y h) (drop-set-lt (j + 1) u j y (omega arith))
    ∙ append_assoc (take j u) (y ∷ []) (combine c (drop (j + 1) u) (drop (j + 1) v))
    ∙ ap (λ (n : ℕ). take j u ++ (n ∷ combine c (drop (j + 1) u) (drop (j + 1) v))) q
    ∙ sym (ap₂ (λ (a b : List ℕ). take j u ++ combine c a b) (drop_more u j 0 h) (drop_more v j 0 g))
    ∙ e

pub combine-end : (c j : ℕ) (u v whole : List ℕ) → length u ≤ j → take j u ++ combine c (drop j u) (drop j v) ≡ whole → u ≡ whole
unfolding combine
combine-end c j u v whole h e =
    sym (ap₂ (λ (a b : List ℕ). a ++ combine c b (drop j v)) (take_all j u h) (drop_all j u h) ∙ append-nil u) ∙ e

evaluate-none : (l : List ℕ) (x : ℕ) → ((j : ℕ) → get_or l j 0 ≡ 0) → evaluate l x ≡ 0
unfolding evaluate
evaluate-none [] x f = refl
evaluate-none (a ∷ l) x f =
    ap₂ (λ (m n : ℕ). m ⊕ (x ⊙ n)) (f zero) (evaluate-none l x (λ j. f (suc j))) ∙ ap (λ (n : ℕ). 0 ⊕ n) (⊙-zero-r x) ∙ ⊕-zero-r 0

-- what lies above the degree does not count
pub evaluate-above : (l : List ℕ) (d x : ℕ) → ((j : ℕ) → d < j → get_or l j 0 ≡ 0) → evaluate (drop (d + 1) l) x ≡ 0
evaluate-above l d x f = evaluate-none (drop (d + 1) l) x (λ j. get_or-drop (d + 1) l j 0 ∙ f (d + 1 + j) (omega arith))
