-- One step of a loop that writes a function of each number of a list into another list. Assumes nothing.
use Rattle.std.proofs.Common.{◌≡◌, ℕ, ◌+◌, ◌<◌, ◌≤◌, List, [], ◌∷◌, ◌++◌, map, length, get_or, take, drop, set, sym, ap, ◌∙◌, append_assoc, append-nil, arith}
use Rattle.std.proofs.lemmas.List.{take_more_set, drop_more, drop_all, take_all}

-- what the loop has written, and what the function makes of the rest
abbrev pub mapped : (ℕ → ℕ) → ℕ → List ℕ → List ℕ → List ℕ
mapped f i xs out = take i out ++ map f (drop i xs)

pub mapped-more : (f : ℕ → ℕ) (xs out : List ℕ) (i : ℕ) → i < length xs → length out ≡ length xs →
    mapped f (i + 1) xs (set out i (f (get_or xs i 0))) ≡ mapped f i xs out
mapped-more f xs out i h e =
    ap (λ (ys : List ℕ). ys ++ map f (drop (i + 1) xs)) (take_more_set out i (f (get_or xs i 0)) (omega arith))
    ∙ append_assoc (take i out) (f (get_or xs i 0) ∷ []) (map f (drop (i + 1) xs))
    ∙ ap (λ (ys : List ℕ). take i out ++ map f ys) (sym (drop_more xs i 0 h))

pub mapped-all : (f : ℕ → ℕ) (xs out : List ℕ) (i : ℕ) → length xs ≤ i → length out ≡ length xs → mapped f i xs out ≡ out
mapped-all f xs out i h e =
    ap (λ (ys : List ℕ). take i out ++ map f ys) (drop_all i xs h)
    ∙ append-nil (take i out)
    ∙ take_all i out (omega arith)
