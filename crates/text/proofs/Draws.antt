-- One draw more: of the steps that are left, of the bits that are left. Assumes nothing.
use Rattle.std.proofs.Common.{◌≡◌, ℕ, suc, ◌+◌, ◌<◌, ◌≤◌, cond, ltb, List, [], ◌∷◌, ◌++◌, length, get_or, take, drop, set, sym, ap, ◌∙◌, append_assoc, append-nil, arith}
use Rattle.std.proofs.lemmas.List.{take_more_set, drop-set-lt, drop_more, drop_all, take_all}
use Rattle.bits.specs.Distance.{differ, distance}
use Rattle.text.specs.Noise.{stepped, drawn, advanced, other, flipped}

pub advanced_more : (n m s : ℕ) → n ≡ suc m → advanced n s ≡ advanced m (stepped s)
unfolding advanced
advanced_more n m s e = ap (λ (k : ℕ). advanced k s) e

pub advanced_none : (n s : ℕ) → n ≡ 0 → advanced n s ≡ s
unfolding advanced
advanced_none n s e = ap (λ (k : ℕ). advanced k s) e

-- what becomes of one bit
abbrev pub flipped_bit : ℕ → ℕ → ℕ → ℕ
flipped_bit p s b = cond (ltb (drawn s) p) (other b) b

pub flipped-more : (p s i : ℕ) (xs : List ℕ) → i < length xs → flipped p s (drop i xs) ≡ flipped_bit p s (get_or xs i 0) ∷ flipped p (stepped s) (drop (i + 1) xs)
unfolding flipped
flipped-more p s i xs h = ap (flipped p s) (drop_more xs i 0 h)

pub flipped-all : (p s i : ℕ) (xs : List ℕ) → length xs ≤ i → flipped p s (drop i xs) ≡ []
unfolding flipped
flipped-all p s i xs h = ap (flipped p s) (drop_all i xs h)

-- what is written, and what becomes of the rest
abbrev pub halfway : ℕ → ℕ → ℕ → List ℕ → List ℕ
halfway p s i xs = take i xs ++ flipped p s (drop i xs)

pub halfway_more : (p s i : ℕ) (xs : List ℕ) → i < length xs → halfway p (stepped s) (i + 1) (set xs i (flipped_bit p s (get_or xs i 0))) ≡ halfway p s i xs
halfway_more p s i xs h =
    let y = flipped_bit p s (get_or xs i 0) in
    ap (λ (ys : List ℕ). ys ++ flipped p (stepped s) (drop (i + 1) (set xs i y))) (take_more_set xs i y h)
    ∙ ap (λ (ys : List ℕ). (take i xs ++ y ∷ []) ++ flipped p (stepped s) ys) (drop-set-lt (i + 1) xs i y (omega arith))
    ∙ append_assoc (take i xs) (y ∷ []) (flipped p (stepped s) (drop (i + 1) xs))
    ∙ ap (λ (ys : List ℕ). take i xs ++ ys) (sym (flipped-more p s i xs h))

pub halfway_all : (p s i : ℕ) (xs : List ℕ) → length xs ≤ i → halfway p s i xs ≡ xs
halfway_all p s i xs h =
    ap (λ (ys : List ℕ). take i xs ++ ys) (flipped-all p s i xs h)
    ∙ append-nil (take i xs)
    ∙ take_all i xs h

-- how many bits of the rest are changed
abbrev pub changes : ℕ → ℕ → ℕ → List ℕ → ℕ
changes p s i xs = distance (drop i xs) (flipped p s (drop i xs))

pub changes_more : (p s i : ℕ) (xs : List ℕ) → i < length xs →
    differ (get_or xs i 0) (flipped_bit p s (get_or xs i 0)) + changes p (stepped s) (i + 1) (set xs i (flipped_bit p s (get_or xs i 0))) ≡ changes p s i xs
unfolding distance
changes_more p s i xs h =
    let x = get_or xs i 0 in
    let y = flipped_bit p s x in
    ap (λ (ys : List ℕ). differ x y + distance ys (flipped p (stepped s) ys)) (drop-set-lt (i + 1) xs i y (omega arith))
    ∙ ap (λ (ys : List ℕ). distance (x ∷ drop (i + 1) xs) ys) (sym (flipped-more p s i xs h))
    ∙ ap (λ (ys : List ℕ). distance ys (flipped p s (drop i xs))) (sym (drop_more xs i 0 h))

pub changes_all : (p s i : ℕ) (xs : List ℕ) → length xs ≤ i → changes p s i xs ≡ 0
unfolding distance
changes_all p s i xs h =
    ap (λ (ys : List ℕ). distance (drop i xs) ys) (flipped-all p s i xs h)
    ∙ ap (λ (ys : List ℕ). distance ys []) (drop_all i xs h)
