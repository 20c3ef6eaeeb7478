-- One step of each definition that a loop computes: the register's shifts, the check, the pattern. Assumes nothing.
use Rattle.std.proofs.Common.{◌≡◌, ℕ, zero, suc, ◌+◌, ◌*◌, ◌/◌, ◌%◌, ◌<◌, ◌≤◌, List, [], ◌∷◌, ◌++◌, length, get_or, take, drop, set, sym, refl, ap, ◌∙◌, append_assoc, append-nil, arith}
use Rattle.std.specs.List.{fold}
use Rattle.std.specs.Simd.{first_chunks}
use Rattle.std.proofs.lemmas.List.{take_more_set, drop-set-lt, drop_more, drop_all, take_all}
use Rattle.bits.specs.Crc.{shifted, shifted_by, crc_from, stirred, stirred_two}
use Rattle.bits.specs.Pattern.{stepped, pattern, plus, patterned_from}

pub shifted_by_more : (k m c : ℕ) → k ≡ suc m → shifted_by k c ≡ shifted_by m (shifted c)
unfolding shifted_by
shifted_by_more k m c e = ap (λ (n : ℕ). shifted_by n c) e

pub shifted_by_none : (k c : ℕ) → k ≡ 0 → shifted_by k c ≡ c
unfolding shifted_by
shifted_by_none k c e = ap (λ (n : ℕ). shifted_by n c) e

crc_from-bytes : (c : ℕ) (bs : List ℕ) → fold stirred c bs ≡ crc_from c bs
unfolding crc_from
crc_from-bytes c [] = refl
crc_from-bytes c (b ∷ bs) = crc_from-bytes (stirred c b) bs

crc_from-two : (n c : ℕ) (bs : List ℕ) → n * 2 ≤ length bs → crc_from (fold stirred_two c (first_chunks 2 n bs)) (drop (n * 2) bs) ≡ crc_from c bs
unfolding crc_from
crc_from-two zero c bs h = refl
crc_from-two (suc n) c [] h = let z : ⊥ = omega arith in absurd z
crc_from-two (suc n) c (x ∷ []) h = let z : ⊥ = omega arith in absurd z
crc_from-two (suc n) c (x ∷ y ∷ bs) h =
    let two = stirred (stirred c x) y in
    ap (λ (k : ℕ). crc_from (fold stirred_two two (first_chunks 2 n bs)) (drop k (x ∷ y ∷ bs))) (let e : suc n * 2 ≡ suc (suc (n * 2)) = omega arith in e)
    ∙ crc_from-two n two bs (omega arith)

-- two bytes at a time, and what is left
pub crc_from_pairs : (c : ℕ) (bs : List ℕ) → fold stirred (fold stirred_two c (first_chunks 2 (length bs / 2) bs)) (drop (length bs / 2 * 2) bs) ≡ crc_from c bs
crc_from_pairs c bs = crc_from-bytes (fold stirred_two c (first_chunks 2 (length bs / 2) bs)) (drop (length bs / 2 * 2) bs) ∙ crc_from-two (length bs / 2) c bs (omega arith)

-- what the loop has written, and what the definition makes of the rest
abbrev pub halfway : ℕ → ℕ → List ℕ → List ℕ
halfway i r xs = take i xs ++ patterned_from r (drop i xs)

pub patterned_more : (xs : List ℕ) (i r y : ℕ) → i < length xs → y ≡ (get_or xs i 0 + r % 2) % 2 → halfway (i + 1) (stepped r) (set xs i y) ≡ halfway i r xs
unfolding pattern plus
patterned_more xs i r y h e =
    ap (λ (ys : List ℕ). ys ++ patterned_from (stepped r) (drop (i + 1) (set xs i y))) (take_more_set xs i y h)
    ∙ ap (λ (ys : List ℕ). (take i xs ++ y ∷ []) ++ patterned_from (stepped r) ys) (drop-set-lt (i + 1) xs i y (omega arith))
    ∙ append_assoc (take i xs) (y ∷ []) (patterned_from (stepped r) (drop (i + 1) xs))
    ∙ ap (λ (z : ℕ). take i xs ++ z ∷ patterned_from (stepped r) (drop (i + 1) xs)) e
    ∙ ap (λ (ys : List ℕ). take i xs ++ patterned_from r ys) (sym (drop_more xs i 0 h))

pub patterned_all : (xs : List ℕ) (i r : ℕ) → length xs ≤ i → halfway i r xs ≡ xs
unfolding pattern plus
patterned_all xs i r h =
    ap (λ (ys : List ℕ). take i xs ++ patterned_from r ys) (drop_all i xs h)
    ∙ append-nil (take i xs)
    ∙ take_all i xs h
